-- What writing an item asks of its parts, and a test of it: the values of a field fit its bits, the fields of a part fit its octets, a part fits
-- a 64-bit number, and the number of parts fits an octet.
--
-- In order: fields, groups, parts; the test. Not here: that every layout of the tables passes it (`TableLaws`). Assumes nothing.
use Prim.Native.Nat.{ℕ, zero, suc, ◌+◌, ◌*◌, ◌^◌, ◌<◌, ◌≤◌}
use mathlib.Core.Bool.{Bool, true, false, ◌&&◌}
use mathlib.Core.List.{List, [], ◌∷◌}
use native.Mathlib.Nat.{not-suc-le-zero, le_of_suc-le-suc}
use lib.Dec.{T, leb, ltb, leb→le, ltb→lt}
use lib.ListN.{length, drop, get_or}
use Rattle.rules.specs.Field.{Kind, unsigned, signed, Field, spare, value, bits, half}
use Rattle.rules.specs.Format.{Group}
use Rattle.writing.specs.Write.{width_of}

-- ---- fields, groups, parts

abbrev pub All : {A : Type 0} → (A → Type 0) → List A → Type 0
All P [] = Unit {0}
All P (a ∷ as') = P a × All P as'

abbrev pub SoundKind : ℕ → Kind → Type 0
SoundKind w (unsigned lo hi) = hi < 2 ^ w
SoundKind w (signed lo hi) = (lo ≤ half w) × (hi < half w)

abbrev pub SoundField : Field → Type 0
SoundField (spare w) = w < 64
SoundField (value w k) = ((1 ≤ w) × (w < 64)) × SoundKind w k

pub width_few : (f : Field) → SoundField f → width_of f < 64
width_few (spare w) s = s
width_few (value w k) s = s.0.1

-- the bit that says whether another part follows
abbrev pub mark_bits : Bool → ℕ
mark_bits true = 1
mark_bits false = 0

pub record SoundGroup (fx : Bool) (g : Group) : Type 0 where
  pub fits : bits g.fields + mark_bits fx ≤ 8 * g.size
  pub short : g.size ≤ 8
  pub each : All SoundField g.fields

-- of the parts of an item, whether chained by FX bits or not
pub record Sound (fx : Bool) (gs : List Group) : Type 0 where
  pub few : length gs ≤ 255
  pub each : All (SoundGroup fx) gs

pub all_drop : {A : Type 0} (P : A → Type 0) (k : ℕ) (l : List A) → All P l → All P (drop k l)
all_drop P zero l h = h
all_drop P (suc k) [] h = h
all_drop P (suc k) (a ∷ l) h = all_drop P k l h.1

-- ---- the test

abbrev pub every : {A : Type 0} → (A → Bool) → List A → Bool
every t [] = true
every t (a ∷ as') = t a && every t as'

pub both : (a b : Bool) → T (a && b) → T a × T b
both true b h = (tt, h)
both false b h = absurd h

every_all : {A : Type 0} {P : A → Type 0} (t : A → Bool) → ((a : A) → T (t a) → P a) → (l : List A) → T (every t l) → All P l
every_all t f [] h = tt
every_all t f (a ∷ l) h = let (p, q) = both (t a) (every t l) h in (f a p, every_all t f l q)

abbrev kind_test : ℕ → Kind → Bool
kind_test w (unsigned lo hi) = ltb hi (2 ^ w)
kind_test w (signed lo hi) = leb lo (half w) && ltb hi (half w)

abbrev pub field_test : Field → Bool
field_test (spare w) = ltb w 64
field_test (value w k) = (leb 1 w && ltb w 64) && kind_test w k

abbrev pub group_test : Bool → Group → Bool
group_test fx g = leb (bits g.fields + mark_bits fx) (8 * g.size) && (leb g.size 8 && every field_test g.fields)

abbrev pub parts_test : Bool → List Group → Bool
parts_test fx gs = leb (length gs) 255 && every (group_test fx) gs

kind_sound : (w : ℕ) (k : Kind) → T (kind_test w k) → SoundKind w k
kind_sound w (unsigned lo hi) h = ltb→lt _ _ h
kind_sound w (signed lo hi) h = let (p, q) = both (leb lo (half w)) (ltb hi (half w)) h in (leb→le _ _ p, ltb→lt _ _ q)

pub field_sound : (f : Field) → T (field_test f) → SoundField f
field_sound (spare w) h = ltb→lt _ _ h
field_sound (value w k) h =
    let (a, b) = both (leb 1 w && ltb w 64) (kind_test w k) h in
    let (c, d) = both (leb 1 w) (ltb w 64) a in
    ((leb→le _ _ c, ltb→lt _ _ d), kind_sound w k b)

pub group_sound : (fx : Bool) (g : Group) → T (group_test fx g) → SoundGroup fx g
group_sound fx g h =
    let (a, b) = both (leb (bits g.fields + mark_bits fx) (8 * g.size)) (leb g.size 8 && every field_test g.fields) h in
    let (c, d) = both (leb g.size 8) (every field_test g.fields) b in
    record { fits = leb→le _ _ a; short = leb→le _ _ c; each = every_all field_test field_sound g.fields d }

pub parts_sound_lem : (fx : Bool) (gs : List Group) → T (parts_test fx gs) → Sound fx gs
parts_sound_lem fx gs h =
    let (a, b) = both (leb (length gs) 255) (every (group_test fx) gs) h in
    record { few = leb→le _ _ a; each = every_all (group_test fx) (group_sound fx) gs b }

-- what holds of a whole table holds of each row
pub every_at : {A : Type 0} (t : A → Bool) (l : List A) (d : A) → T (every t l) → T (t d) → (i : ℕ) → T (t (get_or l i d))
every_at t [] d h k i = k
every_at t (a ∷ l) d h k zero = (both (t a) (every t l) h).0
every_at t (a ∷ l) d h k (suc i) = every_at t l d (both (t a) (every t l) h).1 k i

pub every_in : {A : Type 0} (t : A → Bool) (l : List A) (d : A) → T (every t l) → (i : ℕ) → i < length l → T (t (get_or l i d))
every_in t [] d h i k = absurd (not-suc-le-zero k)
every_in t (a ∷ l) d h zero k = (both (t a) (every t l) h).0
every_in t (a ∷ l) d h (suc i) k = every_in t l d (both (t a) (every t l) h).1 i (le_of_suc-le-suc k)
