-- A category (its profile and its message types, as its document prints them) and a record of it: the FSPEC, then the items in rising FRN
-- (document 01, "Block, record, item"; sections 5.3.1 and 5.3.2 of each category document). Assumes nothing.
use Rattle.std.specs.Prelude.{ℕ, ◌+◌, ◌*◌, Bool, true, ◌&&◌, List, [], ◌∷◌, ◌++◌, eqb, ℤ, pos, negsuc}
use Rattle.std.proofs.Math.Option.{Option, none, some}
use Rattle.rules.specs.Answer.{Answer, ok, refused, ◌>>=◌, need◌or◌then◌, when◌then◌else◌, Read, Write}
use Rattle.rules.specs.Chain.{flatten}
use Rattle.rules.specs.Layout.{Layout, Values, in_parts, in_subfields, read_item, write_item}
use Rattle.rules.specs.Presence.{has, write_places, read_places}

-- what the profile has at an FRN: the number after the slash of the item's reference, and its layout
pub record Place : Type 0 where
  pub reference : ℕ
  pub layout : Layout

-- a message type, with the references of the items that it must have and of those that it may have
pub record Message : Type 0 where
  pub type : ℕ
  pub compulsory : List ℕ
  pub optional : List ℕ

-- its CAT; the reference of the item that is a record's time, and the message types in which it is not (document 02, W-201)
pub record Category : Type 0 where
  pub cat : ℕ
  pub time : ℕ
  pub untimed : List ℕ
  pub profile : List (List (Option Place))
  pub messages : List Message

-- ---- the forms that the tables use

abbrev pub at : ℕ → Layout → Option Place
at r l = some (record { reference = r; layout = l })

abbrev pub message : ℕ → List ℕ → List ℕ → Message
message t c o = record { type = t; compulsory = c; optional = o }

-- ---- the items of a record

-- for each FSPEC octet a row, and in it for each FRN the item's value or none
abbrev pub Record : Type 0
Record = List (List (Option Values))

-- the places of a profile, FRN 1 first
abbrev pub places : Category → List (Option Place)
places c = flatten c.profile

-- the items that are there, each with its reference, in the order of the profile
abbrev pub named : List (Option Place) → List (Option Values) → List (ℕ × Values)
named [] vs = []
named (p ∷ ps) [] = []
named (p ∷ ps) (none ∷ vs) = named ps vs
named (none ∷ ps) (some v ∷ vs) = named ps vs
named (some p ∷ ps) (some v ∷ vs) = (p.reference, v) ∷ named ps vs

abbrev pub items : Category → Record → List (ℕ × Values)
items c r = named (places c) (flatten r)

abbrev pub references : List (ℕ × Values) → List ℕ
references [] = []
references ((r, v) ∷ is) = r ∷ references is

-- the value of the item with a reference
unfoldable pub value_of : ℕ → List (ℕ × Values) → Option Values
value_of r [] = none
value_of r ((s, v) ∷ is) = when eqb r s then some v else value_of r is

-- every number of the first list is in the second
abbrev pub all_in : List ℕ → List ℕ → Bool
all_in [] ys = true
all_in (x ∷ xs) ys = has x ys && all_in xs ys

-- ---- what the message type asks for

-- the number that fields spell: the first, and each after it four bits wide (the family and nature of I061/000)
unfoldable pub spelled : ℕ → List ℤ → Answer ℕ
spelled t [] = ok t
spelled t (pos n ∷ vs) = spelled (t * 16 + n) vs
spelled t (negsuc n ∷ vs) = refused 13 0

-- the message type item is I0nn/000 in every category; its fields spell the type
unfoldable pub type_of : Option Values → Answer ℕ
type_of none = refused 12 0
type_of (some (in_parts vs)) = spelled 0 (flatten vs)
type_of (some (in_subfields rs)) = refused 13 0

unfoldable pub message_of : ℕ → List Message → Answer Message
message_of t [] = refused 13 0
message_of t (m ∷ ms) = when eqb t m.type then ok m else message_of t ms

-- the record itself where its items are those that its message type asks for: 12, 13, 14, 15, at the record's start. It answers its argument so
-- that it can stand as a line of a rule: writing goes on with what was judged, and reading answers it. What it lets through is `Legal.LegalRecord`
unfoldable pub judge : Category → Record → Answer Record
judge c r = do
  t ← type_of (value_of 0 (items c r))
  m ← message_of t c.messages
  need all_in m.compulsory (references (items c r)) or 14 then
      need all_in (references (items c r)) (m.compulsory ++ m.optional) or 15 then ok r

-- THE WRITING RULE of a record
unfoldable pub write_place : Place → Write Values
write_place p = write_item p.layout

unfoldable pub write_record : Category → Write Record
write_record c r = do
  s ← judge c r
  write_places write_place c.profile s

-- and the reading rule: the FSPEC (5, 6, 7, 8), the items (9, 10, 11), then what the message type asks for
unfoldable pub read_place : Place → Read Values
read_place p = read_item p.layout

unfoldable pub read_record : Category → Read Record
read_record c bs = do
  (r, rest) ← read_places read_place 5 c.profile bs
  s ← judge c r
  ok (s, rest)
