-- The tables of the code, as the rules' profiles give them: every field, group and layout of every item and subfield, profile after profile and FRN by FRN,
-- and the row that the code has for each. A table of the code is one of these lists; nothing is transcribed here. Assumes nothing.
use Rattle.std.specs.Prelude.{ℕ, zero, suc, ◌+◌, ◌-◌, ◌*◌, ◌^◌, Bool, true, false, cond, ◌&&◌, List, [], ◌∷◌, ◌++◌, map, eqb, ℤ, pos, negsuc, length, get_or, replicate}
use Rattle.std.proofs.Math.Option.{Option, none, some}
use Rattle.std.proofs.Math.Seq.{slice}
use Rattle.rules.specs.Field.{Field, spare, value, unsigned, signed, any, half, arity}
use Rattle.rules.specs.Chain.{flatten}
use Rattle.rules.specs.Format.{Group, Format, fixed, repeated, led, extended, group}
use Rattle.rules.specs.Layout.{Layout, plain, compound}
use Rattle.rules.specs.Presence.{number, present}
use Rattle.rules.specs.Record.{Place, Category, places, at}
use Rattle.rules.specs.Catalogue.{categories}
use Rattle.rules.specs.Entry.{over}
use Rattle.tables.specs.declared.tables.Holds.{Holds}
use Rattle.tables.specs.declared.tables.Holds.TheVariants.{Unsigned, Twos, Spare}
use Rattle.tables.specs.declared.tables.Kind.{Kind}
use Rattle.tables.specs.declared.tables.Kind.TheVariants.{NoItem, Fixed, Repeated, Led, Extended, Compound}
use Rattle.tables.specs.declared.tables.FieldRow.{FieldRow}
use Rattle.tables.specs.declared.tables.GroupRow.{GroupRow}
use Rattle.tables.specs.declared.tables.LayoutRow.{LayoutRow}
use Rattle.tables.specs.declared.tables.PlaceRow.{PlaceRow}
use Rattle.tables.specs.declared.tables.Place.{Place as PlaceColumns}
use Rattle.tables.specs.declared.tables.Range.{Range}

-- ---- kinds, each by its digit in a row

abbrev pub holds_digit : Holds → ℕ
holds_digit Unsigned = 0
holds_digit Twos = 1
holds_digit Spare = 2

abbrev pub kind_digit : Kind → ℕ
kind_digit NoItem = 0
kind_digit Fixed = 1
kind_digit Repeated = 2
kind_digit Led = 3
kind_digit Extended = 4
kind_digit Compound = 5

-- the kind of a number; one that no kind has is no item's, whose parts have nothing before them and no FX bit (`layouts/proofs/KindNumbers`)
abbrev pub kind_by : ℕ → Kind
kind_by n = get_or (NoItem ∷ Fixed ∷ Repeated ∷ Led ∷ Extended ∷ Compound ∷ []) n NoItem

-- whether two are the same (`KindLaws`)
abbrev pub same_holds : Holds → Holds → Bool
same_holds h i = eqb (holds_digit h) (holds_digit i)

abbrev pub same_kind : Kind → Kind → Bool
same_kind k j = eqb (kind_digit k) (kind_digit j)

-- ---- what the rules have, end to end

-- the subfields that there are
abbrev pub subfields_of : List (Option Format) → List Layout
subfields_of [] = []
subfields_of (none ∷ ps) = subfields_of ps
subfields_of (some s ∷ ps) = plain s ∷ subfields_of ps

-- an item's layout, and behind a compound one those of its subfields
abbrev pub with_subfields : Layout → List Layout
with_subfields (plain s) = plain s ∷ []
with_subfields (compound ps) = compound ps ∷ subfields_of (flatten ps)

abbrev pub layouts_of : List (Option Place) → List Layout
layouts_of [] = []
layouts_of (none ∷ ps) = layouts_of ps
layouts_of (some p ∷ ps) = with_subfields p.layout ++ layouts_of ps

-- the groups of a layout's parts, one for all parts of a list or of a led item's contents; a compound item has no parts but its subfields'
abbrev pub groups_of : Layout → List Group
groups_of (plain (fixed g)) = g ∷ []
groups_of (plain (repeated lo hi g)) = g ∷ []
groups_of (plain (led lo)) = group 1 (any 8 ∷ []) ∷ []
groups_of (plain (extended gs)) = gs
groups_of (compound ps) = []

-- its primary octets
abbrev pub primaries_of : Layout → List (List (Option Format))
primaries_of (plain s) = []
primaries_of (compound ps) = ps

unfoldable pub layouts : List Layout
layouts = flatten (map (λ c. layouts_of (places c)) categories)

unfoldable pub groups : List Group
groups = flatten (map groups_of layouts)

unfoldable pub primaries : List (List (Option Format))
primaries = flatten (map primaries_of layouts)

unfoldable pub fields : List Field
fields = flatten (map (λ g. g.fields) groups)

-- ---- how many of each there are

abbrev pub field_count : ℕ
field_count = length fields

abbrev pub group_count : ℕ
group_count = length groups

-- the first row is that of no item
abbrev pub layout_count : ℕ
layout_count = suc (length layouts)

abbrev pub primary_count : ℕ
primary_count = length primaries

-- the code counts with these two numbers: `profiles_long` has that they are the profiles, `profile_few` that each has room for its FRNs, 0 among them
-- ---- made by model/make.py: profile_count, frn_count
abbrev pub profile_count : ℕ
profile_count = 3

abbrev pub frn_count : ℕ
frn_count = 36

-- ---- end of what is made

abbrev pub place_count : ℕ
place_count = profile_count * frn_count

-- ---- the rows of the code

-- minus a number
abbrev pub minus : ℕ → ℤ
minus zero = pos 0
minus (suc n) = negsuc n

abbrev pub field_row : Field → FieldRow
field_row (spare w) = record { bits = w; holds = Spare; least = pos 0; greatest = pos 0 }
field_row (value w (unsigned lo hi)) = record { bits = w; holds = Unsigned; least = pos lo; greatest = pos hi }
field_row (value w (signed lo hi)) = record { bits = w; holds = Twos; least = minus lo; greatest = pos hi }

-- any bits are legal in each of the fields
abbrev pub is_free : List Field → Bool
is_free [] = true
is_free (spare w ∷ fs) = false
is_free (value w (unsigned lo hi) ∷ fs) = eqb lo 0 && eqb (suc hi) (2 ^ w) && is_free fs
is_free (value w (signed lo hi) ∷ fs) = eqb lo (half w) && eqb (suc hi) (half w) && is_free fs

-- of groups whose first field stands at a place
abbrev pub group_rows : ℕ → List Group → List GroupRow
group_rows k [] = []
group_rows k (g ∷ gs) =
    record { octets = g.size; first = k; end = k + length g.fields; values = arity g.fields; free = is_free g.fields } ∷ group_rows (k + length g.fields) gs

-- of a layout whose first group, or whose first primary octet, stands at a place
abbrev pub layout_row : ℕ → ℕ → Layout → LayoutRow
layout_row k j (plain (fixed g)) = record { kind = Fixed; least = 1; most = 1; first = k; end = k + 1 }
layout_row k j (plain (repeated lo hi g)) = record { kind = Repeated; least = lo; most = hi; first = k; end = k + 1 }
layout_row k j (plain (led lo)) = record { kind = Led; least = lo; most = 254; first = k; end = k + 1 }
layout_row k j (plain (extended gs)) = record { kind = Extended; least = 1; most = length gs; first = k; end = k + length gs }
layout_row k j (compound ps) = record { kind = Compound; least = 0; most = 0; first = j; end = j + length ps }

abbrev pub layout_rows : ℕ → ℕ → List Layout → List LayoutRow
layout_rows k j [] = []
layout_rows k j (l ∷ ls) = layout_row k j l ∷ layout_rows (k + length (groups_of l)) (j + length (primaries_of l)) ls

-- of the bits of primary octets, the first subfield's layout standing at a place: 0 where there is none
abbrev pub subfield_places : ℕ → List (Option Format) → List ℕ
subfield_places k [] = []
subfield_places k (none ∷ ps) = 0 ∷ subfield_places k ps
subfield_places k (some s ∷ ps) = k ∷ subfield_places (k + 1) ps

-- of all of them, the first layout standing at a place
abbrev pub subfield_rows : ℕ → List Layout → List ℕ
subfield_rows k [] = []
subfield_rows k (l ∷ ls) = subfield_places (k + 1) (flatten (primaries_of l)) ++ subfield_rows (k + 1) ls

-- no item
abbrev pub nowhere : PlaceRow
nowhere = record { layout = 0; reference = 0 }

-- of the places of a profile, the first item's layout standing at a place
abbrev pub place_rows : ℕ → List (Option Place) → List PlaceRow
place_rows k [] = []
place_rows k (none ∷ ps) = nowhere ∷ place_rows k ps
place_rows k (some p ∷ ps) = record { layout = k; reference = p.reference } ∷ place_rows (k + length (with_subfields p.layout)) ps

-- as many places for each profile, FRN 0 first
abbrev pub profile_rows : ℕ → List Category → List PlaceRow
profile_rows k [] = []
profile_rows k (c ∷ cs) = over (nowhere ∷ place_rows k (places c)) (replicate frn_count nowhere) ++ profile_rows (k + length (layouts_of (places c))) cs

-- what a table has past its end: no bits, no octets, no parts
abbrev pub no_field_row : FieldRow
no_field_row = record { bits = 0; holds = Unsigned; least = pos 0; greatest = pos 0 }

abbrev pub no_group_row : GroupRow
no_group_row = record { octets = 0; first = 0; end = 0; values = 0; free = false }

abbrev pub no_layout_row : LayoutRow
no_layout_row = record { kind = NoItem; least = 0; most = 0; first = 0; end = 0 }

unfoldable pub field_at : ℕ → FieldRow
field_at i = get_or (map field_row fields) i no_field_row

unfoldable pub group_at : ℕ → GroupRow
group_at i = get_or (group_rows 0 groups) i no_group_row

-- the first layout is that of no item
unfoldable pub layout_at : ℕ → LayoutRow
layout_at i = get_or (no_layout_row ∷ layout_rows 0 0 layouts) i no_layout_row

-- the bits of a primary octet that have a subfield, FX apart
unfoldable pub primaries_in : List ℕ
primaries_in = map (λ p. 2 * number (map present p)) primaries

unfoldable pub primary_at : ℕ → ℕ
primary_at i = get_or primaries_in i 0

-- the place of the layout of a subfield: of a bit of a primary octet, seven to an octet
unfoldable pub subfields_in : List ℕ
subfields_in = subfield_rows 1 layouts

unfoldable pub subfield_at : ℕ → ℕ
subfield_at i = get_or subfields_in i 0

abbrev pub subfield_count : ℕ
subfield_count = length subfields_in

unfoldable pub place_row_at : ℕ → PlaceRow
place_row_at i = get_or (profile_rows 1 categories) i nowhere

-- ---- a row as one number, its columns as decimal digits

-- the ranges of the fields, each once, in the order in which they first occur
abbrev pub same_z : ℤ → ℤ → Bool
same_z (pos a) (pos b) = eqb a b
same_z (pos a) (negsuc b) = false
same_z (negsuc a) (pos b) = false
same_z (negsuc a) (negsuc b) = eqb a b

-- the place of a range in a list, or how long the list is
abbrev pub range_in : List (ℤ × ℤ) → ℤ → ℤ → ℕ
range_in [] low high = 0
range_in (r ∷ rs) low high = cond (same_z low r.0 && same_z high r.1) 0 (suc (range_in rs low high))

abbrev pub ranges_of : List (ℤ × ℤ) → List FieldRow → List (ℤ × ℤ)
ranges_of rs [] = rs
ranges_of rs (f ∷ fs) = ranges_of (cond (eqb (range_in rs f.least f.greatest) (length rs)) (rs ++ ((f.least, f.greatest) ∷ [])) rs) fs

unfoldable pub ranges : List (ℤ × ℤ)
ranges = ranges_of [] (map field_row fields)

abbrev pub range_count : ℕ
range_count = length ranges

-- a range's two columns
abbrev pub range_row : ℤ × ℤ → Range
range_row r = (r.0, r.1)

unfoldable pub range_rows : List Range
range_rows = map range_row ranges

-- bits, what it holds, the place of its range: 2, 1 and 2 digits
abbrev pub field_word : FieldRow → ℕ
field_word r = r.bits * 1_000 + holds_digit r.holds * 100 + range_in ranges r.least r.greatest

-- octets, place of the first field, how many fields, how many values, whether it is free: 1, 3, 2, 2 and 1 digits
abbrev pub group_word : GroupRow → ℕ
group_word r = r.octets * 100_000_000 + r.first * 100_000 + (r.end - r.first) * 1_000 + r.values * 10 + cond r.free 1 0

-- how the parts lie, the least and the greatest number of parts, place of the first group, how many groups: 1, 1, 3, 3 and 1 digits
abbrev pub layout_word : LayoutRow → ℕ
layout_word r = kind_digit r.kind * 100_000_000 + r.least * 10_000_000 + r.most * 10_000 + r.first * 10 + (r.end - r.first)

unfoldable pub field_words : List ℕ
field_words = map field_word (map field_row fields)

unfoldable pub group_words : List ℕ
group_words = map group_word (group_rows 0 groups)

unfoldable pub layout_words : List ℕ
layout_words = 0 ∷ map layout_word (layout_rows 0 0 layouts)

-- a place's two columns
abbrev pub place_pair : PlaceRow → PlaceColumns
place_pair r = (r.layout, r.reference)

unfoldable pub place_pairs : List PlaceColumns
place_pairs = map place_pair (profile_rows 1 categories)

-- ---- what the rows stand for

abbrev pub group_is : GroupRow → Group
group_is r = group r.octets (slice r.first r.end fields)

unfoldable pub format_by : Kind → ℕ → ℕ → Group → List Group → Option Format
format_by NoItem lo hi g gs = none
format_by Fixed lo hi g gs = some (fixed g)
format_by Repeated lo hi g gs = some (repeated lo hi g)
format_by Led lo hi g gs = some (led lo)
format_by Extended lo hi g gs = some (extended gs)
format_by Compound lo hi g gs = none

-- a row of parts has a format
unfoldable pub format_is : LayoutRow → Option Format
format_is r = format_by r.kind r.least r.most (group_is (group_at r.first)) (slice r.first r.end (map group_is (group_rows 0 groups)))

-- the formats at the bits of so many primary octets, the first of them at a place
abbrev pub bits_is : ℕ → ℕ → List (Option Format)
bits_is zero i = []
bits_is (suc n) i = format_is (layout_at (subfield_at i)) ∷ bits_is n (i + 1)

abbrev pub primaries_is : ℕ → ℕ → List (List (Option Format))
primaries_is zero j = []
primaries_is (suc n) j = bits_is 7 (7 * j) ∷ primaries_is n (j + 1)

abbrev pub as_plain : Option Format → Option Layout
as_plain none = none
as_plain (some s) = some (plain s)

unfoldable pub layout_is : LayoutRow → Option Layout
layout_is r = cond (same_kind r.kind Compound) (some (compound (primaries_is (r.end - r.first) r.first))) (as_plain (format_is r))

abbrev pub with : ℕ → Option Layout → Option Place
with r none = none
with r (some l) = at r l

unfoldable pub place_is : PlaceRow → Option Place
place_is r = with r.reference (layout_is (layout_at r.layout))
