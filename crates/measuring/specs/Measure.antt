-- A record that is known to be legal, measured: how many octets it has, by its FSPEC and by its items, each by its first octet where that tells, and its
-- time (document 02, W-201). No rule of a field is asked but where the first octet does not tell (W-205). Assumes nothing.
--
-- In order: an item that is checked; the items of a set; the time; a record.
use Rattle.std.specs.Prelude.{ℕ, zero, suc, ◌+◌, ◌-◌, ◌*◌, ◌/◌, ◌%◌, ◌^◌, Bool, true, false, List, [], ◌∷◌, eqb, leb, length, get_or, drop, Some, None}
use Rattle.std.specs.Prelude as code
use Rattle.std.proofs.Math.Option.{Option, none, some}
use Rattle.rules.specs.Answer.{Answer, ok, refused, when◌then◌else◌}
use Rattle.rules.specs.Presence.{flags, has}
use Rattle.rules.specs.Catalogue.{categories}
use Rattle.tables.specs.Profiles.{frn_in}
use Rattle.items.specs.Answers.{profile_in}
use Rattle.sets.specs.Sets.{category_at, set_at}
use Rattle.sets.specs.Steps.{type_frn}
use Rattle.quick_items.specs.Item.{octets_at}
use Rattle.measuring.specs.declared.record.Measured.{Measured}

-- ---- how many octets an item has that is checked, if it is legal

abbrev pub size_in : Answer ℕ → code.Option ℕ
size_in (ok n) = Some n
size_in (refused n p) = None

-- ---- the items that flags name, the first flag's FRN given, from a place on: where they end. What is past the end counts as 0

unfoldable pub end_from : ℕ → List Bool → ℕ → List ℕ → ℕ → ℕ
end_from i [] f bs at = at
end_from i (false ∷ ts) f bs at = end_from i ts (f + 1) bs at
end_from i (true ∷ ts) f bs at = end_from i ts (f + 1) bs (at + octets_at i f (drop at bs))

-- those of a set; and those of it that stand before an FRN, which is where the item at the FRN starts
unfoldable pub end_of : ℕ → ℕ → List ℕ → ℕ → ℕ
end_of i bits bs at = end_from i (flags 63 bits) 1 bs at

unfoldable pub start_of : ℕ → ℕ → ℕ → List ℕ → ℕ → ℕ
start_of i f bits bs at = end_of i (bits / 2 ^ (64 - f) * 2 ^ (64 - f)) bs at

-- ---- the time of a record whose set has been read

-- the FRN of the time, 0 where the profile has none
abbrev pub time_frn : ℕ → ℕ
time_frn i = frn_in (category_at i).time (category_at i)

-- an FRN, as the code has it
abbrev pub frn_out : ℕ → code.Option ℕ
frn_out zero = None
frn_out (suc f) = Some (suc f)

abbrev pub is_in : ℕ → ℕ → Bool
is_in f bits = eqb (bits / 2 ^ (63 - f) % 2) 1

-- a message type whose records count as untimed
abbrev pub is_untimed : ℕ → ℕ → Bool
is_untimed i kind = has kind (category_at i).untimed

unfoldable pub clock_at : List ℕ → ℕ → Option ℕ
clock_at bs at = when leb (at + 3) (length bs) then some (get_or bs at 0 * 65_536 + get_or bs (at + 1) 0 * 256 + get_or bs (at + 2) 0) else none

unfoldable pub time_in : ℕ → ℕ → List ℕ → ℕ → Option ℕ
time_in i bits bs at =
    when is_in (time_frn i) bits
    then when is_untimed i (get_or bs (start_of i (type_frn i) bits bs at) 0) then none else clock_at bs (start_of i (time_frn i) bits bs at)
    else none

-- ---- a record

-- a time, as the code has it
abbrev pub time_out : Option ℕ → code.Option ℕ
time_out none = None
time_out (some t) = Some t

abbrev pub sized : ℕ → Option ℕ → Measured
sized n t = record { size = n; time = time_out t }

-- size 0 where it has no FSPEC of its profile, or ends past the octets
abbrev pub measure_by : ℕ → List ℕ → Answer (ℕ × ℕ) → Measured
measure_by i bs (refused n p) = sized 0 none
measure_by i bs (ok (bits, used)) = when leb (end_of i bits bs used) (length bs) then sized (end_of i bits bs used) (time_in i bits bs used) else sized 0 none

unfoldable pub measure_in : ℕ → List ℕ → Measured
measure_in i bs = measure_by i bs (set_at i bs)

-- the record that starts octets, of a category
unfoldable pub measure_of : ℕ → List ℕ → Measured
measure_of cat bs = measure_in (profile_in cat categories) bs
