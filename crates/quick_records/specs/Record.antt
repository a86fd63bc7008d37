-- Records that are plainly legal: what the lent tables have, and what the answers tell. Assumes nothing.
use Rattle.std.specs.Prelude.{ℕ, ◌+◌, ◌-◌, ◌*◌, ◌≤◌, ◌<◌, ◌≡◌, Bool, true, false, ◌&&◌, ◌||◌, List, [], ◌∷◌, ◌++◌, Option, Some, None, map, ltb, eqb, length, get_or, replicate}
use Rattle.rules.specs.Answer.{Answer, ok, refused, ◌>>=◌}
use Rattle.rules.specs.Chain.{flatten}
use Rattle.rules.specs.Presence.{flags}
use Rattle.rules.specs.Record.{Category}
use Rattle.rules.specs.Catalogue.{categories}
use Rattle.rules.specs.Entry.{over}
use Rattle.tables.specs.Tables.{profile_count, frn_count}
use Rattle.tables.specs.FieldRules.{singles}
use Rattle.sets.specs.Steps.{type_frn, mark_bits, row_at}
use Rattle.records.specs.Walk.{Came, walk, start_at}
use Rattle.sets.specs.Sets.{category_at}
use Rattle.records.specs.Answers.{record_at}
use Rattle.tables.specs.Tests.{all_below}

-- ---- the tables

-- how many message types a profile has a place for, by number; how many rows, one for each type after one that is no type's; how many ways FRN 4 to 7 can
-- be there or not
-- ---- made by model/make.py: kind_count, row_count
abbrev pub kind_count : ℕ
kind_count = 112

abbrev pub row_count : ℕ
row_count = 24

-- ---- end of what is made

abbrev pub way_count : ℕ
way_count = 16

-- what each message type of a profile must have, and must or may have
abbrev pub sets_in : ℕ → List ℕ
sets_in i = flatten (map (λ m. mark_bits i m.compulsory ∷ mark_bits i (m.compulsory ++ m.optional) ∷ []) (category_at i).messages)

-- the rows of the profiles, the first one's index given
abbrev pub sets_from : ℕ → List Category → List ℕ
sets_from i [] = []
sets_from i (c ∷ cs) = over (0 ∷ 0 ∷ sets_in i) (replicate (2 * row_count) 0) ++ sets_from (i + 1) cs

unfoldable pub type_sets : List ℕ
type_sets = sets_from 0 categories

-- what the row of a profile has
abbrev pub must_at : ℕ → ℕ → ℕ
must_at i r = get_or type_sets (2 * (i * row_count + r)) 0

abbrev pub may_at : ℕ → ℕ → ℕ
may_at i r = get_or type_sets (2 * (i * row_count + r) + 1) 0

abbrev pub is_row : Answer (ℕ × ℕ) → ℕ → ℕ → Bool
is_row (ok x) must may = eqb x.0 must && eqb x.1 may
is_row (refused n p) must may = false

abbrev pub sound_row : ℕ → ℕ → ℕ → Bool
sound_row i t r = eqb r 0 || (ltb r row_count && is_row (row_at i t) (must_at i r) (may_at i r))

-- the octets of a free item of one part, 0 for any other
abbrev pub free : ℕ → ℕ → ℕ
free i f = get_or singles (i * frn_count + f) 0

-- the items that flags name are free, the first flag's FRN given; and how many octets they take
abbrev pub all_free : ℕ → ℕ → List Bool → Bool
all_free i f [] = true
all_free i f (false ∷ ts) = all_free i (f + 1) ts
all_free i f (true ∷ ts) = (ltb 0 (free i f) && ltb (free i f) 8) && all_free i (f + 1) ts

abbrev pub free_sum : ℕ → ℕ → List Bool → ℕ
free_sum i f [] = 0
free_sum i f (false ∷ ts) = free_sum i (f + 1) ts
free_sum i f (true ∷ ts) = free i f + free_sum i (f + 1) ts

-- ---- the front of a record's items, FRN 1 to 3

-- a profile has a front: its first three items are free, and one of them is the message type
unfoldable pub has_front : ℕ → Bool
has_front i = all_free i 1 (replicate 3 true) && (ltb 0 (type_frn i) && ltb (type_frn i) 4)

-- how many octets it takes, and how many of these are before the message type
unfoldable pub front_octets : ℕ → ℕ
front_octets i = free_sum i 1 (replicate 3 true)

unfoldable pub type_at : ℕ → ℕ
type_at i = free_sum i 1 (replicate (type_frn i - 1) true)

-- the front, and of FRN 4 to 7 those that a number of four bits names
abbrev pub sound_sum : ℕ → ℕ → ℕ → Bool
sound_sum i v s = eqb s 0 || (has_front i && (all_free i 4 (flags 4 v) && eqb s (front_octets i + free_sum i 4 (flags 4 v))))

-- what the table has for a type, for a way, and for the place of the type, which is asked for only where the front's octets are told
abbrev pub row_in : List ℕ → ℕ → ℕ → ℕ
row_in ts i t = get_or ts (i * kind_count + t) 0

abbrev pub sum_in : List ℕ → ℕ → ℕ → ℕ
sum_in ts i v = get_or ts (profile_count * kind_count + i * way_count + v) 0

abbrev pub place_in : List ℕ → ℕ → ℕ
place_in ts i = get_or ts (profile_count * kind_count + profile_count * way_count + i) 0

abbrev pub sound_place : List ℕ → ℕ → Bool
sound_place ts i = eqb (sum_in ts i 0) 0 || eqb (place_in ts i) (type_at i)

abbrev pub sound_profile : List ℕ → ℕ → Bool
sound_profile ts i = all_below kind_count (λ t. sound_row i t (row_in ts i t)) && (all_below way_count (λ v. sound_sum i v (sum_in ts i v)) && sound_place ts i)

unfoldable pub sound_types : List ℕ → Bool
sound_types ts = all_below profile_count (sound_profile ts)

-- ---- what the answers tell

-- where the record ends that starts octets, which stand at a place
abbrev pub end_at : ℕ → ℕ → List ℕ → Answer ℕ
end_at i k bs = record_at i k bs >>= λ m. ok m.end

-- true tells that a rule is content
abbrev pub Content : Bool → Answer (Unit {0}) → Type 0
Content false a = Unit {0}
Content true a = a ≡ ok tt

-- a row is a message type's; 0 is no type's
pub record Typed (i kind r : ℕ) : Type 0 where
  pub few : r < row_count
  pub is : (r ≡ 0 → ⊥) → row_at i kind ≡ ok (must_at i r, may_at i r)

-- how many octets the items of a set take that has no FRN under 4, however far the walk had come; where the message type is in the front, none of them is it
pub record Goes (i bits : ℕ) (bs : List ℕ) (n : ℕ) (w : Came) : Type 0 where
  pub came : Came
  pub walks : walk i (flags 60 bits) 4 bs w ≡ ok came
  pub here : came.here ≡ w.here + n
  pub kind : has_front i ≡ true → came.kind ≡ w.kind

abbrev pub Later : ℕ → ℕ → List ℕ → Option ℕ → Type 0
Later i bits bs None = Unit {0}
Later i bits bs (Some n) = (n ≤ length bs) × ((w : Came) → Goes i bits bs n w)

-- how many octets the items of a set take, wherever they stand, and which octet of them is the message type
pub record Walks (i bits : ℕ) (bs : List ℕ) (n k : ℕ) : Type 0 where
  pub came : Came
  pub walks : walk i (flags 63 bits) 1 bs (start_at k) ≡ ok came
  pub here : came.here ≡ k + n
  pub kind : came.kind ≡ get_or bs (type_at i) 0

abbrev pub Passed : ℕ → ℕ → List ℕ → Option ℕ → Type 0
Passed i bits bs None = Unit {0}
Passed i bits bs (Some n) = (k : ℕ) → Walks i bits bs n k
