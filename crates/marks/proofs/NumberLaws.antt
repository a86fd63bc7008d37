-- What the code meets: marks by their numbers. Assumes nothing.
--
-- In order: where a mark lies; a span of marks; a fresh count; the marks by their numbers are the marks that were read; a mark for any caller.
use Prim.Native.Nat.{ℕ, zero, suc, ◌+◌, ◌-◌, ◌*◌, ◌≤◌, ◌<◌}
use mathlib.Core.Path.{◌≡◌, refl, sym, ap, ap₂, ◌∙◌}
use mathlib.Core.Bool.{Bool, true, false}
use mathlib.Core.List.{List, [], ◌∷◌, ◌++◌, append_assoc}
use native.Mathlib.Omega.{arith}
use lib.Dec.{T, ltb, eqb}
use Rattle.std.specs.Int.{from_bool}
use borrow.Author.Tests.{lt-ltb, le-ltb}
use lib.ListN.{length, drop, length-append}
use lib.Seq.{drop_at, drop-drop}
use Rattle.rules.specs.declared.Shape.{Shape}
use Rattle.rules.specs.declared.Shape.TheVariants.{Whole, InLog}
use Rattle.rules.specs.declared.Mark.{Mark}
use Rattle.rules.specs.Mark.{key, size, mark_bytes, mark_in, marks_bytes, rising, count, plus, of_log}
use Rattle.rules.specs.Sheet.{field_bytes}
use Rattle.rules.proofs.SheetSteps.{marks_fields}
use Rattle.rules.proofs.MarkLaws.{Rises, rises, marks_length, mark_at_lem, mark_length}
use Rattle.rules.proofs.SplitLaws.{split, pick}
use Rattle.marks.specs.declared.Lists.{Lists}
use Rattle.std.specs.Prelude.{Some, None}
use Rattle.marks.specs.Lists.{lists_of, shape_for, place_for, mark_at, held_in, span, marks_of, found_mark}
use Rattle.marks.proofs.MarkSteps.{tail, tail_is, plus_is, plus_bool, bool_few}

-- ---- where a mark lies
pub at_mark : (c : Lists) (s : List ℕ) (i p : ℕ) (f : Shape) (m : Mark) → p ≡ place_for c.split (ltb i c.first) c.base i → f ≡ shape_for c.split (ltb i c.first) → m ≡ mark_in f (tail p s) → m ≡ mark_at c s i
unfolding mark_at
at_mark c s i p f m g k h = h ∙ rw (tail_is p s, k, g)

-- ---- a span of marks
module _ (nth : ℕ → Mark) where
  pub span_step : (i n : ℕ) → i < n → span nth i (n - i) ≡ nth i ∷ span nth (i + 1) (n - (i + 1))
  unfolding span
  span_step i n h =
      let z : n - i ≡ suc (n - (i + 1)) = omega arith in
      let y : suc i ≡ i + 1 = omega arith in
      ap (span nth i) z ∙ ap (λ k. nth i ∷ span nth k (n - (i + 1))) y

  pub span_length : (i n : ℕ) → length (span nth i n) ≡ n
  unfolding span
  span_length i zero = refl
  span_length i (suc n) = ap suc (span_length (suc i) n)

  pub span_append : (i n k : ℕ) → span nth i (n + k) ≡ span nth i n ++ span nth (i + n) k
  unfolding span
  span_append i zero k =
      let a : zero + k ≡ k = omega arith in
      let b : i ≡ i + zero = omega arith in
      ap (span nth i) a ∙ ap (λ j. span nth j k) b
  span_append i (suc n) k =
      let a : suc n + k ≡ suc (n + k) = omega arith in
      let b : suc i + n ≡ i + suc n = omega arith in
      ap (span nth i) a ∙ ap (λ l. nth i ∷ l) (span_append (suc i) n k ∙ ap (λ j. span nth (suc i) n ++ span nth j k) b)

  pub span_cons : (i n : ℕ) → span nth i (suc n) ≡ nth i ∷ span nth (suc i) n
  unfolding span
  span_cons i n = refl

-- the same marks, at other numbers
pub span_same : (nth nth' : ℕ → Mark) (i j n : ℕ) → ((k : ℕ) → k < n → nth (i + k) ≡ nth' (j + k)) → span nth i n ≡ span nth' j n
unfolding span
span_same nth nth' i j zero h = refl
span_same nth nth' i j (suc n) h =
    let a : i + 0 ≡ i = omega arith in
    let b : j + 0 ≡ j = omega arith in
    let h₀ : nth i ≡ nth' j = ap nth (sym a) ∙ h 0 (omega arith) ∙ ap nth' b in
    ap₂ (λ x l. x ∷ l) h₀ (span_same nth nth' (suc i) (suc j) n (λ k l.
    let u : suc i + k ≡ i + suc k = omega arith in
    let v : j + suc k ≡ suc j + k = omega arith in
    ap nth u ∙ h (suc k) (omega arith) ∙ ap nth' v))

-- ---- a fresh count
pub record Counting (nth : ℕ → Mark) (n t total j : ℕ) : Type 0 where
  pub within : j ≤ n
  pub small : total ≤ j
  pub left : total + count t (span nth j (n - j)) ≡ count t (span nth 0 n)

pub counting_more : (nth : ℕ → Mark) (n t total j r : ℕ) (m : Mark) → Counting nth n t total j → j < n → m ≡ nth j → r ≡ from_bool (eqb m.station t) → Counting nth n t (total + r) (j + 1)
unfolding count
counting_more nth n t total j r m k h g q =
    let x : count t (span nth j (n - j)) ≡ plus (eqb m.station t) 0 + count t (span nth (j + 1) (n - (j + 1))) =
    ap (count t) (span_step nth j n h) ∙ ap (λ y. plus (eqb y.station t) (count t (span nth (j + 1) (n - (j + 1))))) (sym g) ∙ plus_is (eqb m.station t) (count t (span nth (j + 1) (n - (j + 1)))) in
    record { within = omega arith; small = omega (arith, k.small, bool_few (eqb m.station t)); left = omega (arith, k.left, plus_bool (eqb m.station t)) }

pub counting_all : (nth : ℕ → Mark) (n t total j : ℕ) → Counting nth n t total j → n ≤ j → total ≡ count t (span nth 0 n)
unfolding count span
counting_all nth n t total j k h = let z : n - j ≡ 0 = omega arith in omega (arith, rw z at k.left)

-- ---- the marks by their numbers are the marks that were read
pub count_is : (t : Bool) (base : ℕ) (ms : List Mark) → (lists_of t base ms).count ≡ length ms
count_is false base ms = refl
count_is true base ms = refl

pub base_is : (t : Bool) (base : ℕ) (ms : List Mark) → ((lists_of t base ms).base ≡ base) × ((lists_of t base ms).split ≡ t)
base_is false base ms = (refl, refl)
base_is true base ms = (refl, refl)

module _ (c : Lists) (s : List ℕ) (f : Shape) (base lo hi : ℕ) (at : (k : ℕ) → lo ≤ k → k < hi → mark_at c s k ≡ mark_in f (drop (base + k * size f) s)) where
  run : (i least : ℕ) (ms : List Mark) (rest : List ℕ) → lo ≤ i → i + length ms ≤ hi → T (rising f least ms) → drop (base + i * size f) s ≡ marks_bytes f ms ++ rest → span (mark_at c s) i (length ms) ≡ ms
  unfolding span marks_bytes
  run i least [] rest g h r d = refl
  run i least (m ∷ ms) rest g h r d =
      let q : Rises f least m ms = rises f least m ms r in
      let d' : drop (base + i * size f) s ≡ mark_bytes f m ++ (marks_bytes f ms ++ rest) = d ∙ append_assoc (mark_bytes f m) (marks_bytes f ms) rest in
      let w : mark_at c s i ≡ m = at i g (omega arith) ∙ ap (mark_in f) d' ∙ mark_at_lem f m (marks_bytes f ms ++ rest) q.legal q.shape in
      let z : base + suc i * size f ≡ base + i * size f + size f = omega arith in
      let n : drop (base + suc i * size f) s ≡ marks_bytes f ms ++ rest =
      ap (λ k. drop k s) z ∙ sym (drop-drop (size f) (base + i * size f) s) ∙ ap (drop (size f)) d' ∙ drop_at (mark_bytes f m) (marks_bytes f ms ++ rest) (size f) (mark_length f m) in
      ap₂ (λ a b. a ∷ b) w (run (suc i) (suc (key m)) ms rest (omega arith) (omega arith) q.more n)

-- one list, from a place on
pub marks_whole : (base : ℕ) (s : List ℕ) (ms : List Mark) (rest : List ℕ) → T (rising Whole 0 ms) → drop base s ≡ marks_bytes Whole ms ++ rest → marks_of (lists_of false base ms) s ≡ ms
unfolding mark_at
marks_whole base s ms rest r d =
    let z : base + 0 * 8 ≡ base = omega arith in
    run (lists_of false base ms) s Whole base 0 (length ms) (λ k g h. refl) 0 0 ms rest (omega arith) (omega arith) r (ap (λ k. drop k s) z ∙ d)

field_body : (t p : ℕ) (s b rest : List ℕ) → drop p s ≡ field_bytes t b ++ rest → drop (p + 3) s ≡ b ++ rest
unfolding field_bytes
field_body t p s b rest h = sym (drop-drop 3 p s) ∙ ap (drop 3) h

-- the lists of a sheet
pub marks_are : (t : Bool) (s : List ℕ) (ms : List Mark) (rest : List ℕ) → T (rising Whole 0 ms) → drop 11 s ≡ marks_fields t ms ++ rest → marks_of (lists_of t 14 ms) s ≡ ms
unfolding marks_fields mark_at
marks_are false s ms rest r d = marks_whole 14 s ms rest r (field_body 3 11 s (marks_bytes Whole ms) rest d)
marks_are true s ms rest r d =
    let j : of_log 0 ms ++ of_log 1 ms ≡ ms = split 0 ms r in
    let l : length ms ≡ length (of_log 0 ms) + length (of_log 1 ms) = ap length (sym j) ∙ length-append (of_log 0 ms) (of_log 1 ms) in
    let d₅ : drop 11 s ≡ field_bytes 5 (marks_bytes (InLog 0) (of_log 0 ms)) ++ (field_bytes 6 (marks_bytes (InLog 1) (of_log 1 ms)) ++ rest) = d ∙ append_assoc (field_bytes 5 (marks_bytes (InLog 0) (of_log 0 ms))) (field_bytes 6 (marks_bytes (InLog 1) (of_log 1 ms))) rest in
    let b₅ : drop 14 s ≡ marks_bytes (InLog 0) (of_log 0 ms) ++ (field_bytes 6 (marks_bytes (InLog 1) (of_log 1 ms)) ++ rest) = field_body 5 11 s (marks_bytes (InLog 0) (of_log 0 ms)) _ d₅ in
    let z : length (marks_bytes (InLog 0) (of_log 0 ms)) ≡ length (of_log 0 ms) * 7 = marks_length (InLog 0) (of_log 0 ms) in
    let d₆ : drop (14 + length (of_log 0 ms) * 7) s ≡ field_bytes 6 (marks_bytes (InLog 1) (of_log 1 ms)) ++ rest =
    sym (drop-drop (length (of_log 0 ms) * 7) 14 s) ∙ ap (drop (length (of_log 0 ms) * 7)) b₅ ∙ drop_at (marks_bytes (InLog 0) (of_log 0 ms)) (field_bytes 6 (marks_bytes (InLog 1) (of_log 1 ms)) ++ rest) (length (of_log 0 ms) * 7) z in
    let y : 14 + length (of_log 0 ms) * 7 + 3 ≡ 17 + length (of_log 0 ms) * 7 = omega arith in
    let b₆ : drop (17 + length (of_log 0 ms) * 7) s ≡ marks_bytes (InLog 1) (of_log 1 ms) ++ rest = ap (λ k. drop k s) (sym y) ∙ field_body 6 (14 + length (of_log 0 ms) * 7) s (marks_bytes (InLog 1) (of_log 1 ms)) rest d₆ in
    let u : 0 + length (of_log 0 ms) ≡ length (of_log 0 ms) = omega arith in
    ap (span (mark_at (lists_of true 14 ms) s) 0) l
    ∙ span_append (mark_at (lists_of true 14 ms) s) 0 (length (of_log 0 ms)) (length (of_log 1 ms))
    ∙ ap₂ (λ a b. a ++ b)
    (run (lists_of true 14 ms) s (InLog 0) 14 0 (length (of_log 0 ms)) (λ k g h. rw (lt-ltb k (length (of_log 0 ms)) h)) 0 0 (of_log 0 ms) _ (omega arith) (omega arith) (pick 0 0 0 ms (omega arith) r) b₅)
    (run (lists_of true 14 ms) s (InLog 1) 17 (length (of_log 0 ms)) (length ms) (λ k g h. rw (le-ltb k (length (of_log 0 ms)) g)) (0 + length (of_log 0 ms)) 0 (of_log 1 ms) rest (omega arith) (omega arith) (pick 1 0 0 ms (omega arith) r) (ap (λ k. drop (17 + k * 7) s) u ∙ b₆))
    ∙ j

-- ---- for any lists and bytes
pub found_past : (c : Lists) (s : List ℕ) (i : ℕ) → c.count ≤ i → None ≡ found_mark c s i
unfolding found_mark
found_past c s i h = rw (le-ltb i c.count h)

pub found_none : (c : Lists) (s : List ℕ) (i : ℕ) → i < c.count → held_in c (length s) ≡ false → None ≡ found_mark c s i
unfolding found_mark
found_none c s i h g = rw (lt-ltb i c.count h, g)

pub found_one : (c : Lists) (s : List ℕ) (i : ℕ) (m : Mark) → i < c.count → held_in c (length s) ≡ true → m ≡ mark_at c s i → Some m ≡ found_mark c s i
unfolding found_mark
found_one c s i m h g e = rw (lt-ltb i c.count h, g) (ap Some e)
