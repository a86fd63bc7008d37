-- Shapes: FSPECs that records mostly have, each with the size of a record that has it, by one octet at most, where its time stands, and by which octet it
-- counts as untimed. A row of the table says nothing that the profiles do not have. Assumes nothing.
--
-- In order: an item; the items of flags; the time; a row; the table; what an answer tells.
use Rattle.std.specs.Prelude.{ℕ, ◌+◌, ◌-◌, ◌*◌, ◌/◌, ◌%◌, ◌^◌, ◌≡◌, Bool, true, false, cond, ◌&&◌, List, [], ◌∷◌, leb, ltb, eqb, length, get_or, Option, Some, None}
use Rattle.rules.specs.Answer.{Answer, ok, refused}
use Rattle.rules.specs.Presence.{flags}
use Rattle.tables.specs.Profiles.{profile_row_at}
use Rattle.sets.specs.Sets.{category_at}
use Rattle.sets.specs.Steps.{set_from, type_frn}
use Rattle.tables.specs.Tests.{all_below}
use Rattle.tables.specs.declared.tables.Kind.TheVariants.{Fixed}
use Rattle.tables.specs.Tables.{same_kind}
use Rattle.quick_items.specs.Item.{row_octets, is_place, row_of, tells_at}
use Rattle.quick_records.specs.Shape.{shape_count, low_octets, used_of, profile_of}
use Rattle.measuring.specs.Measure.{time_frn, is_in, measure_in}
use Rattle.measuring.specs.declared.record.Measured.{Measured}

-- ---- an item, at an FRN of a profile

-- it is one part
abbrev pub is_fixed : ℕ → ℕ → Bool
is_fixed i f = is_place i f && same_kind (row_of i f).kind Fixed

-- its octets by its first octet, where that tells
abbrev pub by_first : ℕ → ℕ → ℕ → ℕ
by_first i f x = row_octets (row_of i f) x

-- how many octets it has more for each 1 of its first octet; and that they are as many for each, which FX does not have
abbrev pub part_octets : ℕ → ℕ → ℕ
part_octets i f = by_first i f 1 - by_first i f 0

abbrev pub is_even : ℕ → ℕ → Bool
is_even i f = tells_at i f && eqb (by_first i f 2) (by_first i f 1 + part_octets i f)

-- ---- the items that flags name, the first flag's FRN given

-- their octets, without the parts of lists
abbrev pub base_from : ℕ → List Bool → ℕ → ℕ
base_from i [] f = 0
base_from i (false ∷ ts) f = base_from i ts (f + 1)
base_from i (true ∷ ts) f = by_first i f 0 + base_from i ts (f + 1)

abbrev pub all_fixed : ℕ → List Bool → ℕ → Bool
all_fixed i [] f = true
all_fixed i (false ∷ ts) f = all_fixed i ts (f + 1)
all_fixed i (true ∷ ts) f = is_fixed i f && all_fixed i ts (f + 1)

-- from a place on: all are fixed but one at most, and that stands at a place and has parts of so many octets; of 0 where there is none
abbrev pub one_list : ℕ → ℕ → ℕ → List Bool → ℕ → ℕ → Bool
one_list i place part [] f at = eqb part 0
one_list i place part (false ∷ ts) f at = one_list i place part ts (f + 1) at
one_list i place part (true ∷ ts) f at =
    cond (is_fixed i f) (one_list i place part ts (f + 1) (at + by_first i f 0))
    (eqb at place && eqb (part_octets i f) part && is_even i f && all_fixed i ts (f + 1))

-- ---- the time

-- the items of a set before an FRN are fixed and end at a place, where the set's items start from a place on
abbrev pub flags_before : ℕ → ℕ → List Bool
flags_before f bits = flags 63 (bits / 2 ^ (64 - f) * 2 ^ (64 - f))

abbrev pub starts_at : ℕ → ℕ → ℕ → ℕ → ℕ → Bool
starts_at i f bits used at = all_fixed i (flags_before f bits) 1 && eqb (used + base_from i (flags_before f bits) 1) at

-- the time stands at a place, 0 where there is none; where there is one, the message type stands at a place, and its untimed number is one more than the
-- type whose records count as untimed, 0 where there is no such
abbrev pub time_at : ℕ → ℕ → ℕ → ℕ → ℕ → ℕ → Bool
time_at i bits used at kind untimed =
    cond (is_in (time_frn i) bits)
    (ltb 0 at && starts_at i (time_frn i) bits used at && starts_at i (type_frn i) bits used kind && eqb untimed (profile_row_at i).untimed)
    (eqb at 0)

-- ---- a row: the FSPEC, its octets and the profile, in the columns of the shapes of `quick_records`; one more than the untimed message type, where the
-- message type stands, where the time stands, the octets of the record without the parts of its list, where the list stands, the octets of a part

abbrev pub untimed_of : ℕ → ℕ
untimed_of k = k / 68_719_476_736

abbrev pub kind_of : ℕ → ℕ
kind_of k = k / 268_435_456 % 256

abbrev pub time_of : ℕ → ℕ
time_of k = k / 1_048_576 % 256

abbrev pub base_of : ℕ → ℕ
base_of k = k / 4_096 % 256

abbrev pub place_of : ℕ → ℕ
place_of k = k / 16 % 256

abbrev pub part_of : ℕ → ℕ
part_of k = k % 16

-- by its set
abbrev pub row_by : ℕ → ℕ → ℕ → Answer (ℕ × ℕ) → Bool
row_by i a b (refused n p) = false
row_by i a b (ok (bits, used)) =
    eqb used (used_of a) && time_at i bits used (time_of b) (kind_of b) (untimed_of b) && eqb (base_of b) (used + base_from i (flags 63 bits) 1)
    && one_list i (place_of b) (part_of b) (flags 63 bits) 1 used

unfoldable pub sound_row : ℕ → ℕ → Bool
sound_row a b =
    ltb 0 (used_of a) && leb (used_of a) 5
    && row_by (profile_of a) a b (set_from (profile_of a) (length (category_at (profile_of a)).profile) (low_octets (used_of a) a) 0 0)

-- ---- the table

unfoldable pub sound_shapes : List ℕ → Bool
sound_shapes t = all_below shape_count (λ k. sound_row (get_or t (2 * k) 0) (get_or t (2 * k + 1) 0))

-- ---- what an answer tells, where there is one

abbrev pub Told : Option Measured → ℕ → List ℕ → Type 0
Told None i bs = Unit {0}
Told (Some r) i bs = measure_in i bs ≡ r
