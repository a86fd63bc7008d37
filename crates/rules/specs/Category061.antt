-- Category 061, SDPS Session and Service Control Messages, edition 1.2: the layout of each item (section 5.2), the User Application Profile
-- (5.3, Table 3) and the items of each message type (5.2.1, Table 2). An item is named by the number after the slash of its reference.
-- Where the document contradicts itself or lost a figure, docs/DECISIONS.md has the reading. Assumes nothing.
use Rattle.std.proofs.Math.Option.{none}
use Rattle.std.specs.Prelude.{[], ◌∷◌}
use Rattle.rules.specs.Field.{spare, any, within, twos}
use Rattle.rules.specs.Format.{Group, group, extended}
use Rattle.rules.specs.Layout.{Layout, plain, compound, item, list, sub, sub_list}
use Rattle.rules.specs.Record.{Category, at, message}

-- ---- 5.2, Description of Standard Data Items

-- 5.2.1   I061/000, Message Type: family, nature. The known ones are those of `messages` below
abbrev pub i000 : Layout
i000 = item 1 (any 4 ∷ any 4 ∷ [])

-- 5.2.2   I061/010, SDPS Identification: SAC, SIC
abbrev pub i010 : Layout
i010 = item 2 (any 8 ∷ any 8 ∷ [])

-- 5.2.3   I061/012, User Identification
abbrev pub i012 : Layout
i012 = item 1 (any 8 ∷ [])

-- 5.2.4   I061/015, Service Identification
abbrev pub i015 : Layout
i015 = item 1 (any 8 ∷ [])

-- 5.2.5   I061/020, Time of Message: under 24 hours, in 1/128 s
abbrev pub i020 : Layout
i020 = item 3 (within 24 0 11_059_199 ∷ [])

-- 5.2.6   I061/030, Batch Number
abbrev pub i030 : Layout
i030 = item 1 (any 8 ∷ [])

-- 5.2.7   I061/045, Application Version Number
abbrev pub i045 : Layout
i045 = item 1 (any 8 ∷ [])

-- 5.2.8   I061/050, Default Geographical Volume: DGA, and bits 7/1 spare
abbrev pub i050 : Layout
i050 = item 1 (any 1 ∷ spare 7 ∷ [])

-- 5.2.9   I061/060, Geographical Area: REP, at least 3, and so many points: latitude from -90 to 90 degrees, longitude from -180 to 180, in 180/2^25 degree
abbrev pub i060 : Layout
i060 = list 3 255 8 (twos 32 16_777_216 16_777_216 ∷ twos 32 33_554_432 33_554_432 ∷ [])

-- 5.2.10  I061/070, Lower Limit: from -15 to 1500 FL, in 1/4 FL
abbrev pub i070 : Layout
i070 = item 2 (twos 16 60 6_000 ∷ [])

-- 5.2.11  I061/080, Upper Limit: from -15 to 1500 FL, in 1/4 FL
abbrev pub i080 : Layout
i080 = item 2 (twos 16 60 6_000 ∷ [])

-- 5.2.12  I061/100, Connection Related Report: REP from 1 to 255, and so many codes
abbrev pub i100 : Layout
i100 = list 1 255 1 (any 8 ∷ [])

-- 5.2.13  I061/130, Track Selector
abbrev pub i130 : Layout
i130 =
    compound
    ((sub_list 2 (spare 1 ∷ any 15 ∷ [])  -- #1  track number: a spare bit, the number
    ∷ sub_list 3 (any 24 ∷ [])  -- #2  aircraft address
    ∷ sub_list 6 (any 6 ∷ any 6 ∷ any 6 ∷ any 6 ∷ any 6 ∷ any 6 ∷ any 6 ∷ any 6 ∷ [])  -- #3  aircraft identification: eight characters
    ∷ sub_list 2 (any 1 ∷ any 1 ∷ any 1 ∷ any 1 ∷ any 12 ∷ [])  -- #4  code family: W1 to W4, Mode 3/A code
    ∷ sub_list 4 (any 8 ∷ any 8 ∷ any 8 ∷ any 8 ∷ [])  -- #5  departure airport: four characters
    ∷ sub_list 4 (any 8 ∷ any 8 ∷ any 8 ∷ any 8 ∷ [])  -- #6  destination airport: four characters
    ∷ sub_list 4 (any 8 ∷ any 8 ∷ any 8 ∷ any 8 ∷ [])  -- #7  aircraft type: four characters
    ∷ [])
    ∷ (sub_list 2 (any 8 ∷ any 8 ∷ [])  -- #8  current control position: centre, position
    -- #9  track/flight categories: SIM, CSR, PSR, SSR, MDS, ADS, VALT, FPC, CNF, SPI, a spare bit, GAT/OAT, IFR, VFR, CFR, RVSM, FRI/FOE, ME, MI, bits 7/1 spare
    ∷ sub 4
    (any 2 ∷ any 1 ∷ any 1 ∷ any 1 ∷ any 1 ∷ any 1 ∷ any 2 ∷ any 2 ∷ any 1 ∷ any 1 ∷ spare 1 ∷ any 2
    ∷ any 1 ∷ any 1 ∷ any 1 ∷ any 2 ∷ any 2 ∷ any 1 ∷ any 1 ∷ spare 7 ∷ [])
    ∷ none  -- spare
    ∷ none  -- spare
    ∷ none  -- spare
    ∷ none  -- spare
    ∷ none  -- spare
    ∷ [])
    ∷ [])

-- seven bits that each select an item, and FX
abbrev selector : Group
selector = group 1 (any 1 ∷ any 1 ∷ any 1 ∷ any 1 ∷ any 1 ∷ any 1 ∷ any 1 ∷ [])

-- 5.2.14  I061/210, Item Selector: N1 to N7, and three extents: N8 to N14, N15 to N21, N22 to N28
abbrev pub i210 : Layout
i210 = plain (extended (selector ∷ selector ∷ selector ∷ selector ∷ []))

-- 5.2.15  I061/220, Cyclical Update Characteristics: SD, scanning period, batch period, update period, two spare bits, extra delay, MAXFLOW
abbrev pub i220 : Layout
i220 = item 5 (any 2 ∷ any 6 ∷ any 4 ∷ any 12 ∷ spare 2 ∷ any 6 ∷ any 8 ∷ [])

-- 5.2.16  I061/230, Radar Synchronisation Characteristics: MSAC, MSIC, NOP, bits 31/26 spare, FX; one extent: BSAC, BSIC, bits 8/2 spare, FX
abbrev pub i230 : Layout
i230 = plain (extended (group 3 (any 8 ∷ any 8 ∷ any 1 ∷ spare 6 ∷ []) ∷ group 3 (any 8 ∷ any 8 ∷ spare 7 ∷ []) ∷ []))

-- 5.2.17  I061/240, Triggering Criteria for Aperiodical Services
abbrev pub i240 : Layout
i240 =
    compound
    ((sub 1 (any 1 ∷ any 1 ∷ spare 1 ∷ any 1 ∷ any 1 ∷ any 1 ∷ any 1 ∷ any 1 ∷ [])  -- #1  TLF, TNB, a spare bit, PLN, M3A, COR, SPE, MOF
    ∷ none  -- #2  spare
    ∷ sub 1 (any 8 ∷ [])  -- #3  rate of climb/descent threshold
    ∷ sub 1 (any 8 ∷ [])  -- #4  position threshold
    ∷ sub 1 (any 8 ∷ [])  -- #5  rate of turn threshold
    ∷ sub 1 (any 8 ∷ [])  -- #6  track angle threshold
    ∷ sub 1 (any 8 ∷ [])  -- #7  ground speed threshold
    ∷ [])
    ∷ (sub 1 (any 8 ∷ [])  -- #8  longitudinal acceleration threshold
    ∷ sub 1 (any 8 ∷ [])  -- #9  altitude threshold
    ∷ sub 1 (any 8 ∷ [])  -- #10 factor K
    ∷ sub 1 (any 8 ∷ [])  -- #11 refreshment period
    ∷ sub 1 (any 8 ∷ [])  -- #12 minimal period
    ∷ none  -- spare
    ∷ none  -- spare
    ∷ [])
    ∷ [])

-- 5.2.18  I061/330, Service Related Report: REP, and so many codes
abbrev pub i330 : Layout
i330 = list 0 255 2 (any 16 ∷ [])

-- 5.2.19  I061/350, Sensor Selector: REP from 0 to 30, and so many sensors: SAC, SIC
abbrev pub i350 : Layout
i350 = list 0 30 2 (any 8 ∷ any 8 ∷ [])

-- 5.2.20  I061/360, Sensor Item Selector: N1 to N7, and two extents: N8 to N14, N15 to N21
abbrev pub i360 : Layout
i360 = plain (extended (selector ∷ selector ∷ selector ∷ []))

-- 5.2.21  I061/370, Periodical Characteristics of Sensor Information Service: update period in seconds
abbrev pub i370 : Layout
i370 = item 2 (any 16 ∷ [])

-- 5.2.22  I061/380, Aperiodical Characteristics of Sensor Information Service
abbrev pub i380 : Layout
i380 =
    compound
    ((sub 2 (within 16 4 3_600 ∷ [])  -- #1  refresh period, from 4 to 3600 s
    ∷ sub 1 (any 1 ∷ spare 7 ∷ [])  -- #2  discrete parameters: SSC, bits 7/1 spare
    ∷ sub 2 (any 16 ∷ [])  -- #3  time stamping bias change threshold
    ∷ sub 2 (any 16 ∷ [])  -- #4  SSR range bias change threshold
    ∷ sub 2 (any 16 ∷ [])  -- #5  SSR range gain change threshold
    ∷ sub 2 (any 16 ∷ [])  -- #6  SSR azimuth bias change threshold
    ∷ sub 2 (any 16 ∷ [])  -- #7  PSR range bias change threshold
    ∷ [])
    ∷ (sub 2 (any 16 ∷ [])  -- #8  PSR range gain change threshold
    ∷ sub 2 (any 16 ∷ [])  -- #9  PSR azimuth bias change threshold
    ∷ none  -- spare
    ∷ none  -- spare
    ∷ none  -- spare
    ∷ none  -- spare
    ∷ none  -- spare
    ∷ [])
    ∷ [])

-- ---- 5.3, User Application Profile for Category 061

-- profile: Table 3; messages: Table 2 by column, M first, then O; I061/030 has no row there, and so may be in any message (document 02, W-205)
abbrev pub category061 : Category
category061 = record {
  cat = 61;
  time = 020;  -- 5.2.5
  untimed = [];
  profile =
      (at 010 i010  -- FRN 1   I061/010  SDPS Identification
      ∷ at 000 i000  -- FRN 2   I061/000  Message Type
      ∷ at 012 i012  -- FRN 3   I061/012  User Identification
      ∷ at 015 i015  -- FRN 4   I061/015  Service Identification
      ∷ at 020 i020  -- FRN 5   I061/020  Time of Message
      ∷ at 030 i030  -- FRN 6   I061/030  Batch Number
      ∷ at 045 i045  -- FRN 7   I061/045  Application Version Number
      ∷ [])
      ∷ (at 050 i050  -- FRN 8   I061/050  Default Geographical Volume
      ∷ at 060 i060  -- FRN 9   I061/060  Geographical Area
      ∷ at 070 i070  -- FRN 10  I061/070  Lower Limit
      ∷ at 080 i080  -- FRN 11  I061/080  Upper Limit
      ∷ at 100 i100  -- FRN 12  I061/100  Connection Related Report
      ∷ at 130 i130  -- FRN 13  I061/130  Track Selector
      ∷ at 210 i210  -- FRN 14  I061/210  Item Selector
      ∷ [])
      ∷ (at 220 i220  -- FRN 15  I061/220  Cyclical Update Characteristics
      ∷ at 230 i230  -- FRN 16  I061/230  Radar Synchronisation Characteristics
      ∷ at 240 i240  -- FRN 17  I061/240  Triggering Criteria for Aperiodical Services
      ∷ at 330 i330  -- FRN 18  I061/330  Service Related Report
      ∷ at 350 i350  -- FRN 19  I061/350  Sensor Selector
      ∷ at 360 i360  -- FRN 20  I061/360  Sensor Item Selector
      ∷ at 370 i370  -- FRN 21  I061/370  Periodical Characteristics of Sensor Information Service
      ∷ [])
      ∷ (at 380 i380  -- FRN 22  I061/380  Aperiodical Characteristics of Sensor Information Service
      ∷ none  -- FRN 23
      ∷ none  -- FRN 24
      ∷ none  -- FRN 25
      ∷ none  -- FRN 26
      ∷ none  -- FRN 27  Reserved Expansion Field (RE)
      ∷ none  -- FRN 28  Special Purpose Field (SP)
      ∷ [])
      ∷ [];
  messages =
      message 0x11 (010 ∷ 000 ∷ 012 ∷ 020 ∷ []) (030 ∷ [])  -- Request for Connection
      ∷ message 0x12 (010 ∷ 000 ∷ 012 ∷ 020 ∷ []) (030 ∷ 100 ∷ [])  -- Request for Disconnection
      ∷ message 0x13 (010 ∷ 000 ∷ 012 ∷ 020 ∷ 045 ∷ []) (030 ∷ [])  -- Connection Acknowledgement
      ∷ message 0x14 (010 ∷ 000 ∷ 012 ∷ 020 ∷ []) (030 ∷ 100 ∷ [])  -- Connection Rejection
      ∷ message 0x15 (010 ∷ 000 ∷ 012 ∷ 020 ∷ []) (030 ∷ 100 ∷ [])  -- Disconnection Acknowledgement
      ∷ message 0x16 (010 ∷ 000 ∷ 012 ∷ 020 ∷ []) (030 ∷ 100 ∷ [])  -- Disconnection Rejection
      ∷ message 0x21 (010 ∷ 000 ∷ 012 ∷ 020 ∷ []) (015 ∷ 030 ∷ 050 ∷ 060 ∷ 070 ∷ 080 ∷ 130 ∷ 210 ∷ 220 ∷ 230 ∷ 240 ∷ 350 ∷ 360 ∷ 370 ∷ 380 ∷ [])  -- Service Definition Request
      ∷ message 0x22 (010 ∷ 000 ∷ 012 ∷ 015 ∷ 020 ∷ []) (030 ∷ 050 ∷ 060 ∷ 070 ∷ 080 ∷ 130 ∷ 210 ∷ 220 ∷ 230 ∷ 240 ∷ 350 ∷ 360 ∷ 370 ∷ 380 ∷ [])  -- Service Modification Request
      ∷ message 0x23 (010 ∷ 000 ∷ 012 ∷ 015 ∷ 020 ∷ []) (030 ∷ 330 ∷ [])  -- Service Suspension Request
      ∷ message 0x24 (010 ∷ 000 ∷ 012 ∷ 015 ∷ 020 ∷ []) (030 ∷ 330 ∷ [])  -- Service Resumption Request
      ∷ message 0x25 (010 ∷ 000 ∷ 012 ∷ 015 ∷ 020 ∷ []) (030 ∷ 330 ∷ [])  -- Service Termination Request
      ∷ message 0x26 (010 ∷ 000 ∷ 012 ∷ 015 ∷ 020 ∷ []) (030 ∷ 330 ∷ [])  -- Service Acknowledgement
      ∷ message 0x27 (010 ∷ 000 ∷ 012 ∷ 020 ∷ []) (015 ∷ 030 ∷ 330 ∷ [])  -- Service Rejection
      ∷ message 0x28 (010 ∷ 000 ∷ 012 ∷ 015 ∷ 020 ∷ []) (030 ∷ 330 ∷ [])  -- Service Report
      ∷ message 0x2f (010 ∷ 000 ∷ 012 ∷ 015 ∷ 020 ∷ 330 ∷ []) (030 ∷ [])  -- End of Batch
      ∷ [];
}
