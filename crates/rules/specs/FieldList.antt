-- The fields of an item as one list of numbers, from its highest bit down, and the item's value from such a list. One number is no field's value:
-- where a part or subfield would begin, it says that it is absent. A list of any other form than these is 11 at the item's start, before anything
-- else (document 02, W-205). Assumes nothing.
use Rattle.std.specs.Prelude.{◌-◌, ◌/◌, ◌^◌, Bool, true, false, ◌&&◌, List, [], ◌∷◌, ◌++◌, map, leb, eqb, length, take, drop, replicate, ℤ, pos, negsuc}
use Rattle.std.proofs.Math.Option.{Option, none, some}
use Rattle.rules.specs.Answer.{Answer, ok, refused, ◌>>=◌, need◌or◌then◌, when◌then◌else◌, Read, Write}
use Rattle.rules.specs.Field.{Field, any, arity}
use Rattle.rules.specs.Chain.{flatten}
use Rattle.rules.specs.Format.{Format, fixed, repeated, led, extended, PartValues}
use Rattle.rules.specs.Presence.{present, any_set, keep_row}
use Rattle.rules.specs.Layout.{Layout, plain, compound, Values, in_parts, in_subfields, write_item, read_item}

-- minus 2 to the power of 63
abbrev pub absent_field : ℤ
absent_field = negsuc (2 ^ 63 - 1)

abbrev pub is_absent : ℤ → Bool
is_absent (pos n) = false
is_absent (negsuc n) = eqb n (2 ^ 63 - 1)

abbrev pub all_absent : List ℤ → Bool
all_absent [] = true
all_absent (f ∷ fs) = is_absent f && all_absent fs

-- ---- the list of a value

-- the parts' values end to end; an extended format has one `absent_field` for each printed part that is not there
abbrev pub plain_fields : Format → PartValues → List ℤ
plain_fields (fixed g) vs = flatten vs
plain_fields (repeated lo hi g) vs = flatten vs
plain_fields (led lo) vs = flatten vs
plain_fields (extended gs) vs = flatten vs ++ replicate (length gs - length vs) absent_field

-- of a subfield: a list's count before its parts, and the number of led octets before them
abbrev pub sub_fields : Format → PartValues → List ℤ
sub_fields (fixed g) vs = plain_fields (fixed g) vs
sub_fields (repeated lo hi g) vs = pos (length vs) ∷ flatten vs
sub_fields (led lo) vs = pos (length vs) ∷ flatten vs
sub_fields (extended gs) vs = plain_fields (extended gs) vs

-- each printed subfield in order, and one `absent_field` for one that is not there
abbrev pub place_fields : Option Format → Option PartValues → List ℤ
place_fields none v = []
place_fields (some s) none = absent_field ∷ []
place_fields (some s) (some v) = sub_fields s v

abbrev pub row_fields : List (Option Format) → List (Option PartValues) → List ℤ
row_fields [] vs = []
row_fields (p ∷ ps) [] = place_fields p none ++ row_fields ps []
row_fields (p ∷ ps) (v ∷ vs) = place_fields p v ++ row_fields ps vs

abbrev pub rows_fields : List (List (Option Format)) → List (List (Option PartValues)) → List ℤ
rows_fields [] rs = []
rows_fields (p ∷ ps) [] = row_fields p [] ++ rows_fields ps []
rows_fields (p ∷ ps) (r ∷ rs) = row_fields p r ++ rows_fields ps rs

abbrev pub field_list : Layout → Values → List ℤ
field_list (plain s) (in_parts vs) = plain_fields s vs
field_list (plain s) (in_subfields rs) = []
field_list (compound ps) (in_parts vs) = []
field_list (compound ps) (in_subfields rs) = rows_fields ps rs

-- ---- the value of a list: what is taken from its front, and the numbers after it

abbrev pub Taken : Type 0 → Type 0
Taken A = List ℤ → Answer (A × List ℤ)

-- a part for each of the groups
unfoldable pub take_parts : List (List Field) → Taken PartValues
take_parts [] fs = ok ([], fs)
take_parts (g ∷ gs) fs =
    need leb (arity g) (length fs) or 11 then do
      (vs, rest) ← take_parts gs (drop (arity g) fs)
      ok (take (arity g) fs ∷ vs, rest)

-- the printed parts of an extended format: after one that is absent all are
unfoldable pub take_extents : List (List Field) → Taken PartValues
take_extents [] fs = ok ([], fs)
take_extents (g ∷ gs) [] = refused 11 0
take_extents (g ∷ gs) (f ∷ fs) =
    when is_absent f
    then need leb (length gs) (length fs) or 11 then need all_absent (take (length gs) fs) or 11 then ok ([], drop (length gs) fs)
    else do
      (v, fs₁) ← take_parts (g ∷ []) (f ∷ fs)
      (vs, rest) ← take_extents gs fs₁
      ok (v ++ vs, rest)

-- so many parts as a number says
abbrev pub take_count : ℤ → List Field → Taken PartValues
take_count (pos c) g fs = take_parts (replicate c g) fs
take_count (negsuc c) g fs = refused 11 0

unfoldable pub take_sub : Format → Taken PartValues
take_sub s [] = refused 11 0
take_sub (fixed g) (f ∷ fs) = take_parts (g.fields ∷ []) (f ∷ fs)
take_sub (repeated lo hi g) (f ∷ fs) = take_count f g.fields fs
take_sub (led lo) (f ∷ fs) = take_count f (any 8 ∷ []) fs
take_sub (extended gs) (f ∷ fs) = take_extents (map (λ g. g.fields) gs) (f ∷ fs)

-- at a bit of a primary octet: no number where no subfield is printed
unfoldable pub take_place : Option Format → Taken (Option PartValues)
take_place none fs = ok (none, fs)
take_place (some s) [] = refused 11 0
take_place (some s) (f ∷ fs) =
    when is_absent f
    then ok (none, fs)
    else do
      (v, rest) ← take_sub s (f ∷ fs)
      ok (some v, rest)

unfoldable pub take_row : List (Option Format) → Taken (List (Option PartValues))
take_row [] fs = ok ([], fs)
take_row (p ∷ ps) fs = do
  (v, fs₁) ← take_place p fs
  (vs, rest) ← take_row ps fs₁
  ok (v ∷ vs, rest)

-- without rows at the end that have no subfield
unfoldable pub take_rows : List (List (Option Format)) → Taken (List (List (Option PartValues)))
take_rows [] fs = ok ([], fs)
take_rows (p ∷ ps) fs = do
  (r, fs₁) ← take_row p fs
  (rs, rest) ← take_rows ps fs₁
  ok (keep_row (any_set (map present r)) r rs, rest)

-- a list that is an item has as many parts as its numbers make
unfoldable pub take_plain : Format → Taken PartValues
take_plain (fixed g) fs = take_parts (g.fields ∷ []) fs
take_plain (repeated lo hi g) fs = take_parts (replicate (length fs / arity g.fields) g.fields) fs
take_plain (led lo) fs = take_parts (replicate (length fs) (any 8 ∷ [])) fs
take_plain (extended gs) fs = take_extents (map (λ g. g.fields) gs) fs

unfoldable pub take_item : Layout → Taken Values
take_item (plain s) fs = do
  (vs, rest) ← take_plain s fs
  ok (in_parts vs, rest)
take_item (compound ps) fs = do
  (rs, rest) ← take_rows ps fs
  ok (in_subfields rs, rest)

-- all of the list
unfoldable pub values_from : Layout → List ℤ → Answer Values
values_from l fs = do
  (v, rest) ← take_item l fs
  need eqb (length rest) 0 or 11 then ok v

-- ---- THE WRITING AND READING RULES of an item by its fields

unfoldable pub write_fields : Layout → Write (List ℤ)
write_fields l fs = do
  v ← values_from l fs
  write_item l v

unfoldable pub read_fields : Layout → Read (List ℤ)
read_fields l bs = do
  (v, rest) ← read_item l bs
  ok (field_list l v, rest)
