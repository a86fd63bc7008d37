-- The writing rule of a compound item as the code follows it, by the rows of the tables: bit by bit of the primary octets, from a place of the list of
-- numbers on. `proofs/CompoundLaws` has that it is the rules' `write_fields`. Assumes nothing.
--
-- In order: where a subfield's values stand; one bit; one primary octet; all of them; the item; what the functions answer.
use Rattle.std.specs.Prelude.{ℕ, zero, suc, ◌+◌, ◌-◌, ◌*◌, Bool, true, false, cond, List, [], ◌∷◌, ◌++◌, leb, ltb, ℤ, pos, negsuc, length, get_or, take, drop, Some, None, Result}
use Rattle.std.proofs.Math.Option.{Option, none, some}
use Rattle.rules.specs.Answer.{Answer, ok, refused, ◌>>=◌, need◌or◌then◌, when◌then◌else◌, octets_of}
use Rattle.rules.specs.declared.faults.Fault.{Fault}
use Rattle.rules.specs.Told.{begun_as}
use Rattle.rules.specs.Field.{arity}
use Rattle.rules.specs.Format.{Format, fixed, repeated, led, extended}
use Rattle.rules.specs.Presence.{number, keep_row}
use Rattle.rules.specs.FieldList.{is_absent}
use Rattle.tables.specs.Tables.{subfield_at, layout_at, format_is}
use Rattle.writing.specs.Write.{marked, cut_at, Parts, parts}
use Rattle.writing.specs.declared.compound.Span.{Span}
use Rattle.writing.specs.declared.compound.Span.TheVariants as span
use Rattle.writing.specs.declared.compound.PlaceSize.{PlaceSize}
use Rattle.writing.specs.declared.compound.RowSize.{RowSize}

-- ---- where a subfield's values stand

-- whether it is there; the places of its first value and of the first number after it; how many parts the values make
pub record Spanned : Type 0 where
  pub there : Bool
  pub first : ℕ
  pub end : ℕ
  pub count : ℕ

abbrev pub spanned : Bool → ℕ → ℕ → ℕ → Spanned
spanned t a e c = record { there = t; first = a; end = e; count = c }

-- so many parts with so many values each, of a list of so many numbers
unfoldable pub span_to : ℕ → ℕ → ℕ → ℕ → Answer Spanned
span_to have first count values = need leb (first + count * values) have or 11 then ok (spanned true first (first + count * values) count)

-- the subfields of the tables are fixed or lists
abbrev pub sub_span : Format → ℤ → ℕ → ℕ → Answer Spanned
sub_span (fixed g) v have at = span_to have at 1 (arity g.fields)
sub_span (repeated lo hi g) (pos c) have at = need leb c hi or 11 then span_to have (at + 1) c (arity g.fields)
sub_span (repeated lo hi g) (negsuc c) have at = refused 11 0
sub_span (led lo) v have at = refused 11 0
sub_span (extended gs) v have at = refused 11 0

unfoldable pub span_from : Option Format → List ℤ → ℕ → Answer Spanned
span_from none vs at = ok (spanned false at at 0)
span_from (some s) vs at = need ltb at (length vs) or 11 then
    when is_absent (get_or vs at (pos 0))
    then ok (spanned false (at + 1) (at + 1) 0)
    else sub_span s (get_or vs at (pos 0)) (length vs) at

-- ---- one bit: the subfield that its layout's row has

pub record Place : Type 0 where
  pub there : Bool
  pub octets : List ℕ
  pub next : ℕ

abbrev pub no_place : Place
no_place = record { there = false; octets = []; next = 0 }

-- its values, of all
abbrev pub within : Spanned → List ℤ → List ℤ
within s vs = take (s.end - s.first) (drop s.first vs)

unfoldable pub place_in : ℕ → List ℤ → Spanned → Answer Place
place_in i vs s =
    when s.there
    then cut_at i (within s vs) >>= (λ c. ok (record { there = true; octets = c.octets; next = s.end }))
    else ok (record { there = false; octets = []; next = s.end })

unfoldable pub place_from : ℕ → List ℤ → ℕ → Answer Place
place_from i vs at = do
  s ← span_from (format_is (layout_at i)) vs at
  place_in i vs s

-- ---- one primary octet: so many bits, the first at a place of the tables

pub record Row : Type 0 where
  pub flags : List Bool
  pub octets : List ℕ
  pub next : ℕ

abbrev pub no_row : Row
no_row = record { flags = []; octets = []; next = 0 }

-- a bit before others
abbrev pub join_row : Place → Row → Row
join_row x y = record { flags = x.there ∷ y.flags; octets = x.octets ++ y.octets; next = y.next }

unfoldable pub row_from : ℕ → ℕ → List ℤ → ℕ → Answer Row
row_from zero i vs at = ok (record { flags = []; octets = []; next = at })
row_from (suc n) i vs at = do
  x ← place_from (subfield_at i) vs at
  y ← row_from n (i + 1) vs x.next
  ok (join_row x y)

-- ---- so many primary octets, the first at a place of the tables; none at the end without a subfield

pub record Rows : Type 0 where
  pub numbers : List ℕ
  pub octets : List ℕ
  pub next : ℕ

abbrev pub join_rows : Row → Rows → Rows
join_rows x y = record {
  numbers = keep_row (ltb 0 (number x.flags)) (number x.flags) y.numbers;
  octets = x.octets ++ y.octets;
  next = y.next;
}

unfoldable pub rows_from : ℕ → ℕ → List ℤ → ℕ → Answer Rows
rows_from zero j vs at = ok (record { numbers = []; octets = []; next = at })
rows_from (suc n) j vs at = do
  x ← row_from 7 (7 * j) vs at
  y ← rows_from n (j + 1) vs x.next
  ok (join_rows x y)

-- ---- the item

-- the primary octets, each with its FX bit
unfoldable pub primary_octets : List ℕ → List ℕ
primary_octets [] = []
primary_octets (n ∷ ns) = marked true (ltb 0 (length ns)) n ∷ primary_octets ns

-- all numbers are used, and a subfield is there
unfoldable pub all_rows : ℕ → List ℤ → Answer Rows
all_rows i vs = do
  y ← rows_from ((layout_at i).end - (layout_at i).first) (layout_at i).first vs 0
  need leb (length vs) y.next or 11 then need ltb 0 (length y.numbers) or 11 then ok y

abbrev pub item_octets : Rows → List ℕ
item_octets y = primary_octets y.numbers ++ y.octets

unfoldable pub compound_at : ℕ → List ℤ → Answer (List ℕ)
compound_at i vs = do
  y ← all_rows i vs
  ok (item_octets y)

-- ---- what the functions answer

abbrev pub spanned_of : Span → Spanned
spanned_of (span.Values a e c) = spanned true a e c
spanned_of (span.Absent n) = spanned false n n 0

abbrev pub span_as : Result Span Fault → Answer Spanned
span_as = begun_as spanned_of

-- a size in place of the octets, none where the subfield is absent
abbrev pub PlaceSized : Type 0
PlaceSized = PlaceSize

abbrev pub sized_place : Place → PlaceSized
sized_place x = record { octets = cond x.there (Some (length x.octets)) None; next = x.next }

unfoldable pub place_size : ℕ → List ℤ → ℕ → Answer PlaceSized
place_size i vs at = do
  x ← place_from i vs at
  ok (sized_place x)

abbrev pub RowSized : Type 0
RowSized = RowSize

unfoldable pub row_size : ℕ → List ℤ → ℕ → Answer RowSized
row_size i vs at = do
  x ← row_from 7 i vs at
  ok (record { bits = number x.flags; size = length x.octets; next = x.next })

-- how many primary octets, and the octets of the item
unfoldable pub rows_size : ℕ → List ℤ → Answer Parts
rows_size i vs = do
  y ← all_rows i vs
  ok (parts (length y.numbers) (length (item_octets y)))

-- what a rule that passes gives
abbrev pub place_of : Answer Place → Place
place_of (ok x) = x
place_of (refused n p) = no_place

abbrev pub row_of : Answer Row → Row
row_of (ok x) = x
row_of (refused n p) = no_row

unfoldable pub compound_octets : ℕ → List ℤ → List ℕ
compound_octets i vs = octets_of (compound_at i vs)
