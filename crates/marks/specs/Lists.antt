-- Marks in lent bytes by their numbers, and what is done to a list of them by numbers: what the code goes by. Assumes nothing.
use Rattle.std.specs.Prelude.{ℕ, zero, suc, ◌+◌, ◌-◌, ◌*◌, ◌≤◌, ◌<◌, Bool, true, false, cond, ◌&&◌, ◌||◌, List, [], ◌∷◌, ◌++◌, leb, ltb, eqb, length, take, drop, Option, Some, None}
use Rattle.std.specs.Coded.{×_prop, Unit-prop, le_prop}
use mathlib.Core.Path.{ap₂}
use Rattle.rules.specs.declared.Shape.{Shape}
use Rattle.rules.specs.declared.Shape.TheVariants.{Whole, InLog}
use Rattle.rules.specs.declared.Mark.{Mark}
use Rattle.rules.specs.Mark.{key, size, mark_in, mark_fits, plus, of_log}
use Rattle.marks.specs.declared.Tally.{Tally}
use Rattle.marks.specs.declared.Lists.{Lists}
use Rattle.marks.specs.declared.Change.{Change}
use Rattle.marks.specs.declared.Change.TheVariants.{Keep, Insert, Skip, Clear}

-- ---- a pass over marks

-- the marks before the first at fault
unfoldable pub passing : Shape → ℕ → ℕ → List ℕ → List Mark
passing f least zero bs = []
passing f least (suc n) bs = cond (mark_fits f least bs) (mark_in f bs ∷ passing f (suc (key (mark_in f bs))) n (drop (size f) bs)) []

-- how many marks are below a key: where a mark with that key goes, in marks that rise
unfoldable pub below : ℕ → List Mark → ℕ
below k [] = 0
below k (x ∷ ms) = plus (ltb (key x) k) (below k ms)

-- a mark stands at that key
unfoldable pub has_key : ℕ → List Mark → Bool
has_key k [] = false
has_key k (x ∷ ms) = eqb (key x) k || has_key k ms

-- what is told of marks, and of a key that is looked for
abbrev pub tally : ℕ → List Mark → Tally
tally k ms = record { count = length ms; first = length (of_log 0 ms); below = below k ms; found = has_key k ms }

-- … of two lists, one after the other
abbrev pub both_tallies : Tally → Tally → Tally
both_tallies a b = record { count = a.count + b.count; first = a.first + b.first; below = a.below + b.below; found = a.found || b.found }

-- ---- where marks lie: what is told of a list of marks that starts at a place
abbrev pub lists_of : Bool → ℕ → List Mark → Lists
lists_of false base ms = record { split = false; base = base; first = length ms; count = length ms }
lists_of true base ms = record { split = true; base = base; first = length (of_log 0 ms); count = length ms }

-- the shape and the place of a mark: of one in the first list, or of one after it
abbrev pub shape_for : Bool → Bool → Shape
shape_for false t = Whole
shape_for true true = InLog 0
shape_for true false = InLog 1

abbrev pub place_for : Bool → Bool → ℕ → ℕ → ℕ
place_for false t base i = base + i * 8
place_for true true base i = base + i * 7
place_for true false base i = base + 3 + i * 7

unfoldable pub mark_at : Lists → List ℕ → ℕ → Mark
mark_at c s i = mark_in (shape_for c.split (ltb i c.first)) (drop (place_for c.split (ltb i c.first) c.base i) s)

-- where the marks end
abbrev pub end_for : Bool → ℕ → ℕ → ℕ
end_for false base n = base + n * 8
end_for true base n = base + 3 + n * 7

abbrev pub end_of : Lists → ℕ
end_of c = end_for c.split c.base c.count

-- so many marks as a sheet can have, all in these bytes
pub record Held (c : Lists) (s : List ℕ) : Type 0 where
  pub few : c.count ≤ 8191
  pub low : c.base ≤ 14
  pub room : end_of c ≤ length s

pub held_prop : (c : Lists) (s : List ℕ) → IsProp (Held c s)
held_prop c s x y =
    ap₂ (λ (p : (c.count ≤ 8191) × (c.base ≤ 14)) q. record { few = p.0; low = p.1; room = q }) (×_prop le_prop le_prop (x.few, x.low) (y.few, y.low)) (le_prop x.room y.room)

-- the marks from a number on, so many
unfoldable pub span : (ℕ → Mark) → ℕ → ℕ → List Mark
span nth i zero = []
span nth i (suc n) = nth i ∷ span nth (suc i) n

abbrev pub marks_of : Lists → List ℕ → List Mark
marks_of c s = span (mark_at c s) 0 c.count

-- ---- a changed list
unfoldable pub changed : Change → List Mark → List Mark
changed Keep ms = ms
changed (Insert k m) ms = take k ms ++ (m ∷ drop k ms)
changed (Skip k) ms = take k ms ++ drop (suc k) ms
changed Clear ms = []

-- how many marks it has
abbrev pub new_count : Change → Lists → ℕ
new_count Keep c = c.count
new_count (Insert k m) c = c.count + 1
new_count (Skip k) c = c.count - 1
new_count Clear c = 0

-- the number that is inserted or left out is one of the list
abbrev pub Sound : Change → Lists → Type 0
Sound Keep c = Unit {0}
Sound (Insert k m) c = k ≤ c.count
Sound (Skip k) c = k < c.count
Sound Clear c = Unit {0}

pub sound_prop : (ch : Change) (c : Lists) → IsProp (Sound ch c)
sound_prop Keep c = Unit-prop
sound_prop (Insert k m) c = le_prop
sound_prop (Skip k) c = le_prop
sound_prop Clear c = Unit-prop

abbrev pub no_mark : Mark
no_mark = record { log = 0; place = 0; station = 0; comment = 0 }

unfoldable pub new_at : Change → Lists → List ℕ → ℕ → Mark
new_at Keep c s j = mark_at c s j
new_at (Insert k m) c s j = cond (ltb j k) (mark_at c s j) (cond (eqb j k) m (mark_at c s (j - 1)))
new_at (Skip k) c s j = cond (ltb j k) (mark_at c s j) (mark_at c s (j + 1))
new_at Clear c s j = no_mark

abbrev pub new_marks : Change → Lists → List ℕ → List Mark
new_marks ch c s = span (new_at ch c s) 0 (new_count ch c)

-- ---- for any lists and bytes
abbrev pub held_in : Lists → ℕ → Bool
held_in c n = leb c.count 8191 && (leb c.base 14 && leb (end_of c) n)

unfoldable pub found_mark : Lists → List ℕ → ℕ → Option Mark
found_mark c s i = cond (ltb i c.count && held_in c (length s)) (Some (mark_at c s i)) None
