-- Category 018, Mode S Datalink Function Messages, edition 1.6: the layout of each item (section 5.2), the User Application Profile (5.3.1,
-- Table 9) and the items of each message type (5.3.2). An item is named by the number after the slash of its reference.
-- Where the document contradicts itself, docs/DECISIONS.md has the reading. Assumes nothing.
--
-- References are decimal, with leading zeros: `010` is ten, I018/010. Message types are hexadecimal, as the document prints them: `0x10` is 10h, sixteen.
-- `twos 16 32_768 32_767` is from minus the first number to the second. Fields run from the item's highest bit down, each with its name where there
-- are several.
use Rattle.std.specs.Prelude.{[], ◌∷◌}
use Rattle.rules.specs.Field.{spare, any, within, twos}
use Rattle.rules.specs.Format.{led, extended, group}
use Rattle.rules.specs.Layout.{Layout, plain, item, list}
use Rattle.rules.specs.Record.{Category, at, message}

-- ---- 5.2, Description of Standard Data Items

-- 5.2.1   I018/000, Message Type (D_message_type). The known ones are those of `messages` below
abbrev pub i000 : Layout
i000 = item 1 (any 8 ∷ [])

-- 5.2.2   I018/001, Result (D_Result)
abbrev pub i001 : Layout
i001 =
    item 1
    (any 4  -- CAUSE
    ∷ any 4  -- DIAG
    ∷ [])

-- 5.2.3   I018/002, Time of Day (D_Time): under 24 hours, in 1/128 s
abbrev pub i002 : Layout
i002 = item 3 (within 24 0 11_059_199 ∷ [])

-- 5.2.4   I018/004, II Code (D_II_Code)
abbrev pub i004 : Layout
i004 =
    item 1
    (any 4  -- former
    ∷ any 4  -- current
    ∷ [])

-- 5.2.5   I018/005, Mode S Address (D_Mode_S_address)
abbrev pub i005 : Layout
i005 = item 3 (any 24 ∷ [])

-- 5.2.6   I018/006, Mode S Address List (D_Mode_S_address_list): REP, and so many addresses, at least one
abbrev pub i006 : Layout
i006 = list 1 255 3 (any 24 ∷ [])

-- 5.2.7   I018/007, Aircraft Data Link Command (D_Data_link_command)
abbrev pub i007 : Layout
i007 =
    item 1
    (any 1  -- UM
    ∷ any 1  -- DM
    ∷ any 1  -- UC
    ∷ any 1  -- DC
    ∷ spare 4  -- bits 4/1
    ∷ [])

-- 5.2.8   I018/008, Aircraft Data Link Status (D_Data_link_status): a first octet and one extent, bit 1 of each FX
abbrev pub i008 : Layout
i008 =
    plain
    (extended
    (group 1
    (any 1  -- UDS
    ∷ any 1  -- DDS
    ∷ any 1  -- UCS
    ∷ any 1  -- DCS
    ∷ spare 2  -- bits 4/3
    ∷ any 1  -- EI
    ∷ [])
    ∷ group 1
    (any 1  -- IC
    ∷ spare 6  -- bits 7/2
    ∷ [])
    ∷ []))

-- 5.2.9   I018/009, Aircraft Data Link Report Request (D_Report_request): a first octet and one extent, bit 1 of each FX
abbrev pub i009 : Layout
i009 =
    plain
    (extended
    (group 1
    (any 1  -- SR
    ∷ any 1  -- AR
    ∷ any 1  -- ER
    ∷ any 1  -- FR
    ∷ any 1  -- MR
    ∷ any 1  -- PR
    ∷ any 1  -- CR
    ∷ [])
    ∷ group 1
    (any 1  -- ID
    ∷ any 1  -- MA
    ∷ any 1  -- SP
    ∷ any 1  -- HG
    ∷ any 1  -- HD
    ∷ spare 2  -- bits 3/2
    ∷ [])
    ∷ []))

-- 5.2.10  I018/010, Transponder Communications Capability (D_COM)
abbrev pub i010 : Layout
i010 =
    item 1
    (spare 5  -- bits 8/4
    ∷ any 3  -- COM
    ∷ [])

-- 5.2.11  I018/011, Capability Report (D_ECA)
abbrev pub i011 : Layout
i011 = item 7 (any 56 ∷ [])

-- 5.2.12  I018/012, Aircraft Coverage Quality Factor (D_CQF)
abbrev pub i012 : Layout
i012 =
    item 1
    (any 1  -- FS
    ∷ any 7  -- CQF
    ∷ [])

-- 5.2.13  I018/013, Aircraft CQF Calculation Method (D_CQF_method)
abbrev pub i013 : Layout
i013 = item 1 (any 8 ∷ [])

-- 5.2.14  I018/014, Aircraft Position in Polar Co-ordinates (D_Polar_position): in 1/256 NM and 360/2^16 degree
abbrev pub i014 : Layout
i014 =
    item 4
    (any 16  -- RHO
    ∷ any 16  -- THETA
    ∷ [])

-- 5.2.15  I018/015, Aircraft Position in Cartesian Co-ordinates (D_Cartesian_position): in 1/128 NM
abbrev pub i015 : Layout
i015 =
    item 4
    (twos 16 32_768 32_767  -- X
    ∷ twos 16 32_768 32_767  -- Y
    ∷ [])

-- 5.2.16  I018/016, Packet Number (D_Packet_number)
abbrev pub i016 : Layout
i016 = item 4 (any 32 ∷ [])

-- 5.2.17  I018/017, Packet Number List (D_Packet_number_list): REP, and so many numbers, at least one
abbrev pub i017 : Layout
i017 = list 1 255 4 (any 32 ∷ [])

-- 5.2.18  I018/018, Mode S Packet Properties (D_Packet_properties)
abbrev pub i018 : Layout
i018 =
    item 1
    (spare 1  -- bit 8
    ∷ any 5  -- PR
    ∷ any 2  -- PT
    ∷ [])

-- 5.2.19  I018/019, Mode S Packet (D_Mode_S_packet): the section is missing; Table 9 has "3+", three octets or more with the length octet, which counts
-- itself: `led 2`, two octets of contents or more
abbrev pub i019 : Layout
i019 = plain (led 2)

-- 5.2.20  I018/020, Broadcast Number (D_Broadcast_number)
abbrev pub i020 : Layout
i020 = item 4 (any 32 ∷ [])

-- 5.2.21  I018/021, Broadcast Properties (D_Broadcast_properties): the duration in seconds
abbrev pub i021 : Layout
i021 =
    item 6
    (any 4  -- priority
    ∷ any 4  -- power
    ∷ any 8  -- duration
    ∷ any 32  -- coverage
    ∷ [])

-- 5.2.22  I018/022, Broadcast Prefix (D_Broadcast_prefix)
abbrev pub i022 : Layout
i022 =
    item 4
    (spare 5  -- bits 32/28
    ∷ any 27  -- prefix
    ∷ [])

-- 5.2.23  I018/023, Uplink or Downlink Broadcast (D_Broadcast)
abbrev pub i023 : Layout
i023 = item 7 (any 56 ∷ [])

-- 5.2.24  I018/025, GICB Number (D_GICB_number)
abbrev pub i025 : Layout
i025 = item 4 (any 32 ∷ [])

-- 5.2.25  I018/027, BDS Code (D_BDS_code)
abbrev pub i027 : Layout
i027 = item 1 (any 8 ∷ [])

-- 5.2.26  I018/028, GICB Extraction Periodicity (D_GICB_periodicity), in seconds
abbrev pub i028 : Layout
i028 = item 2 (any 16 ∷ [])

-- 5.2.27  I018/029, GICB Extracted (D_GICB_extracted)
abbrev pub i029 : Layout
i029 = item 7 (any 56 ∷ [])

-- 5.2.28  I018/030, GICB Properties (D_GICB_properties)
abbrev pub i030 : Layout
i030 =
    item 2
    (any 5  -- priority
    ∷ spare 3  -- bits 11/9
    ∷ any 1  -- PC
    ∷ any 1  -- AU
    ∷ any 1  -- NE
    ∷ any 2  -- RD
    ∷ spare 3  -- bits 3/1
    ∷ [])

-- 5.2.29  I018/031, Aircraft Identity (D_Identity)
abbrev pub i031 : Layout
i031 = item 6 (any 48 ∷ [])

-- 5.2.30  I018/032, Aircraft Mode A (D_Mode_A)
abbrev pub i032 : Layout
i032 =
    item 2
    (any 1  -- V
    ∷ any 1  -- G
    ∷ any 1  -- L
    ∷ spare 1  -- bit 13
    ∷ any 12  -- code
    ∷ [])

-- 5.2.31  I018/033, Aircraft Height (D_Height): the flight level in 25 ft
abbrev pub i033 : Layout
i033 =
    item 2
    (any 1  -- V
    ∷ any 1  -- G
    ∷ twos 14 8_192 8_191  -- level
    ∷ [])

-- 5.2.32  I018/034, Aircraft Speed (D_Speed): in 2^-14 NM/s, at most 2 NM/s
abbrev pub i034 : Layout
i034 = item 2 (within 16 0 32_768 ∷ [])

-- 5.2.33  I018/035, Aircraft Heading (D_Heading): in 360/2^16 degree
abbrev pub i035 : Layout
i035 = item 2 (any 16 ∷ [])

-- 5.2.34  I018/036, Data Source Identifier (D_Source)
abbrev pub i036 : Layout
i036 =
    item 2
    (any 8  -- SAC
    ∷ any 8  -- SIC
    ∷ [])

-- 5.2.35  I018/037, Data Destination Identifier (D_Destination)
abbrev pub i037 : Layout
i037 =
    item 2
    (any 8  -- SAC
    ∷ any 8  -- SIC
    ∷ [])

-- ---- 5.3, Transmission of Data Link Function Messages

-- profile: Table 9, whose last FX is "set to 0"; messages: 5.3.2 by column, C (and the type itself) first, then O and S
abbrev pub category018 : Category
category018 = record {
  cat = 18;
  time = 002;  -- 5.2.3
  untimed = 0x40 ∷ [];  -- GICB_extraction: the end of a request (5.2.3)
  profile =
      (at 036 i036  -- FRN 1   I018/036  D_Source
      ∷ at 037 i037  -- FRN 2   I018/037  D_Destination
      ∷ at 000 i000  -- FRN 3   I018/000  D_Message_type
      ∷ at 001 i001  -- FRN 4   I018/001  D_Result
      ∷ at 005 i005  -- FRN 5   I018/005  D_Mode_S_address
      ∷ at 016 i016  -- FRN 6   I018/016  D_Packet_number
      ∷ at 017 i017  -- FRN 7   I018/017  D_Packet_number_list
      ∷ [])
      ∷ (at 018 i018  -- FRN 8   I018/018  D_Packet_properties
      ∷ at 019 i019  -- FRN 9   I018/019  D_Mode_S_packet
      ∷ at 028 i028  -- FRN 10  I018/028  D_GICB_periodicity
      ∷ at 030 i030  -- FRN 11  I018/030  D_GICB_properties
      ∷ at 025 i025  -- FRN 12  I018/025  D_GICB_number
      ∷ at 027 i027  -- FRN 13  I018/027  D_BDS_code
      ∷ at 029 i029  -- FRN 14  I018/029  D_GICB_extracted
      ∷ [])
      ∷ (at 002 i002  -- FRN 15  I018/002  D_Time
      ∷ at 006 i006  -- FRN 16  I018/006  D_Mode_S_address_list
      ∷ at 007 i007  -- FRN 17  I018/007  D_Data_link_command
      ∷ at 008 i008  -- FRN 18  I018/008  D_Data_link_status
      ∷ at 009 i009  -- FRN 19  I018/009  D_Report_request
      ∷ at 010 i010  -- FRN 20  I018/010  D_COM
      ∷ at 011 i011  -- FRN 21  I018/011  D_ECA
      ∷ [])
      ∷ (at 014 i014  -- FRN 22  I018/014  D_Polar_position
      ∷ at 015 i015  -- FRN 23  I018/015  D_Cartesian_position
      ∷ at 020 i020  -- FRN 24  I018/020  D_Broadcast_number
      ∷ at 021 i021  -- FRN 25  I018/021  D_Broadcast_properties
      ∷ at 022 i022  -- FRN 26  I018/022  D_Broadcast_prefix
      ∷ at 023 i023  -- FRN 27  I018/023  D_Broadcast
      ∷ at 004 i004  -- FRN 28  I018/004  D_II_code
      ∷ [])
      ∷ (at 031 i031  -- FRN 29  I018/031  D_Identity
      ∷ at 032 i032  -- FRN 30  I018/032  D_Mode_A
      ∷ at 033 i033  -- FRN 31  I018/033  D_Height
      ∷ at 034 i034  -- FRN 32  I018/034  D_Speed
      ∷ at 035 i035  -- FRN 33  I018/035  D_Heading
      ∷ at 012 i012  -- FRN 34  I018/012  D_CQF
      ∷ at 013 i013  -- FRN 35  I018/013  D_CQF_method
      ∷ [])
      ∷ [];
  messages =
      message 0x00 (036 ∷ 037 ∷ 000 ∷ []) (004 ∷ [])  -- Associate_req
      ∷ message 0x01 (036 ∷ 037 ∷ 000 ∷ 001 ∷ []) (004 ∷ [])  -- Associate_resp
      ∷ message 0x02 (036 ∷ 037 ∷ 000 ∷ []) []  -- Release_req
      ∷ message 0x03 (036 ∷ 037 ∷ 000 ∷ 001 ∷ []) []  -- Release_resp
      ∷ message 0x04 (036 ∷ 037 ∷ 000 ∷ []) (001 ∷ [])  -- Abort_req
      ∷ message 0x05 (036 ∷ 037 ∷ 000 ∷ []) []  -- Keep_alive
      ∷ message 0x10 (036 ∷ 037 ∷ 000 ∷ 005 ∷ 008 ∷ []) (010 ∷ 011 ∷ 014 ∷ 015 ∷ 031 ∷ 032 ∷ 033 ∷ 034 ∷ 035 ∷ 012 ∷ 013 ∷ [])  -- Aircraft_report
      ∷ message 0x11 (036 ∷ 037 ∷ 000 ∷ 005 ∷ 007 ∷ 009 ∷ []) (013 ∷ [])  -- Aircraft_command
      ∷ message 0x12 (036 ∷ 037 ∷ 000 ∷ 004 ∷ []) []  -- II_code_change
      ∷ message 0x20 (036 ∷ 037 ∷ 000 ∷ 005 ∷ 016 ∷ 018 ∷ 019 ∷ []) []  -- Uplink_packet
      ∷ message 0x21 (036 ∷ 037 ∷ 000 ∷ 005 ∷ []) (016 ∷ [])  -- Cancel_uplink_packet
      ∷ message 0x22 (036 ∷ 037 ∷ 000 ∷ 001 ∷ 005 ∷ []) (017 ∷ [])  -- Uplink_packet_ack
      ∷ message 0x23 (036 ∷ 037 ∷ 000 ∷ 005 ∷ 019 ∷ []) (001 ∷ [])  -- Downlink_packet
      ∷ message 0x26 (036 ∷ 037 ∷ 000 ∷ 006 ∷ []) []  -- Data_XON
      ∷ message 0x27 (036 ∷ 037 ∷ 000 ∷ 006 ∷ []) []  -- Data_XOFF
      ∷ message 0x30 (036 ∷ 037 ∷ 000 ∷ 020 ∷ 022 ∷ 023 ∷ []) (021 ∷ [])  -- Uplink_broadcast
      ∷ message 0x31 (036 ∷ 037 ∷ 000 ∷ []) (020 ∷ [])  -- Cancel_uplink_broadcast
      ∷ message 0x32 (036 ∷ 037 ∷ 000 ∷ 001 ∷ []) (020 ∷ [])  -- Uplink_broadcast_ack
      ∷ message 0x34 (036 ∷ 037 ∷ 000 ∷ 005 ∷ 002 ∷ 023 ∷ []) []  -- Downlink_broadcast
      ∷ message 0x40 (036 ∷ 037 ∷ 000 ∷ 005 ∷ 025 ∷ 027 ∷ []) (028 ∷ 030 ∷ 002 ∷ [])  -- GICB_extraction
      ∷ message 0x41 (036 ∷ 037 ∷ 000 ∷ 005 ∷ []) (025 ∷ [])  -- Cancel_GICB_extraction
      ∷ message 0x42 (036 ∷ 037 ∷ 000 ∷ 001 ∷ 005 ∷ []) (025 ∷ [])  -- GICB_extraction_ack
      ∷ message 0x43 (036 ∷ 037 ∷ 000 ∷ 001 ∷ 005 ∷ 025 ∷ 027 ∷ 002 ∷ []) (029 ∷ [])  -- GICB_response
      ∷ [];
}
