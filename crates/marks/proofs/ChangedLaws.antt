-- What the code meets: a changed list of marks by its numbers, where a mark goes, and whether one is there. Assumes nothing.
--
-- In order: the mark with a number; the list with a mark more or less; where a mark stands; how many are log 0's; two lists one after the other.
use Prim.Native.Nat.{ℕ, suc, ◌+◌, ◌-◌, ◌*◌, ◌≤◌, ◌<◌}
use mathlib.Core.Path.{◌≡◌, refl, sym, ap, ap₂, ◌∙◌}
use mathlib.Core.Logic.{⊎_elim}
use mathlib.Core.Bool.{Bool, true, false, ◌||◌, true≢false}
use mathlib.Core.List.{List, [], ◌∷◌, ◌++◌}
use native.Mathlib.Omega.{arith}
use lib.Dec.{T, ltb, eqb}
use borrow.Author.Tests.{lt-ltb, le-ltb, eq-eqb, ne_eqb, eqb-true, eqb-false, ltb-true, ltb-false}
use lib.ListN.{length, take, drop, length-append}
use lib.Seq.{take_at, drop_at}
use Rattle.rules.specs.declared.Mark.{Mark}
use Rattle.rules.specs.declared.Shape.TheVariants.{Whole}
use Rattle.rules.specs.Mark.{key, plus, rising, of_log}
use Rattle.rules.specs.SheetChange.{insert, without, is_at, has}
use Rattle.rules.proofs.MarkLaws.{Rises, rises}
use Rattle.rules.proofs.SplitLaws.{of_append}
use Rattle.rules.proofs.Codec.{decide}
use Rattle.marks.specs.declared.Lists.{Lists}
use Rattle.marks.specs.declared.Change.{Change}
use Rattle.marks.specs.declared.Change.TheVariants.{Keep, Insert, Skip}
use Rattle.marks.specs.Lists.{mark_at, span, marks_of, below, has_key, tally, both_tallies, changed, new_at}
use Rattle.marks.proofs.MarkSteps.{plus_is, or_more}
use Rattle.marks.proofs.NumberLaws.{span_length, span_append, span_cons, span_same}

-- ---- the mark with a number in the changed list
module _ (c : Lists) (s : List ℕ) (ch : Change) (j : ℕ) where
  pub keep_at : ch ≡ Keep → mark_at c s j ≡ new_at ch c s j
  unfolding new_at
  keep_at g = rw g

  pub insert_low : (k : ℕ) (m : Mark) → ch ≡ Insert k m → j < k → mark_at c s j ≡ new_at ch c s j
  unfolding new_at
  insert_low k m g h = rw (g, lt-ltb j k h)

  pub insert_here : (k : ℕ) (m : Mark) → ch ≡ Insert k m → j ≡ k → m ≡ new_at ch c s j
  unfolding new_at
  insert_here k m g q = let h : k ≤ j = omega arith in rw (g, le-ltb j k h, eq-eqb j k q)

  pub insert_high : (k : ℕ) (m : Mark) → ch ≡ Insert k m → k ≤ j → (j ≡ k → ⊥) → mark_at c s (j - 1) ≡ new_at ch c s j
  unfolding new_at
  insert_high k m g h q = rw (g, le-ltb j k h, ne_eqb j k q)

  pub skip_low : (k : ℕ) → ch ≡ Skip k → j < k → mark_at c s j ≡ new_at ch c s j
  unfolding new_at
  skip_low k g h = rw (g, lt-ltb j k h)

  pub skip_high : (k : ℕ) → ch ≡ Skip k → k ≤ j → mark_at c s (j + 1) ≡ new_at ch c s j
  unfolding new_at
  skip_high k g h = rw (g, le-ltb j k h)

-- ---- the list with a mark more or less
module _ (c : Lists) (s : List ℕ) where
  cut : (k : ℕ) → k ≤ c.count → marks_of c s ≡ span (mark_at c s) 0 k ++ span (mark_at c s) (0 + k) (c.count - k)
  cut k h = let z : c.count ≡ k + (c.count - k) = omega arith in ap (span (mark_at c s) 0) z ∙ span_append (mark_at c s) 0 k (c.count - k)

  taken : (k : ℕ) → k ≤ c.count → take k (marks_of c s) ≡ span (mark_at c s) 0 k
  taken k h = ap (take k) (cut k h) ∙ take_at (span (mark_at c s) 0 k) (span (mark_at c s) (0 + k) (c.count - k)) k (span_length (mark_at c s) 0 k)

  dropped : (k : ℕ) → k ≤ c.count → drop k (marks_of c s) ≡ span (mark_at c s) (0 + k) (c.count - k)
  dropped k h = ap (drop k) (cut k h) ∙ drop_at (span (mark_at c s) 0 k) (span (mark_at c s) (0 + k) (c.count - k)) k (span_length (mark_at c s) 0 k)

  pub kept : span (new_at Keep c s) 0 c.count ≡ marks_of c s
  kept = span_same (new_at Keep c s) (mark_at c s) 0 0 c.count (λ k l. sym (keep_at c s Keep (0 + k) refl))

  pub inserted : (k : ℕ) (m : Mark) → k ≤ c.count → span (new_at (Insert k m) c s) 0 (c.count + 1) ≡ changed (Insert k m) (marks_of c s)
  unfolding changed
  inserted k m h =
      let z : c.count + 1 ≡ k + suc (c.count - k) = omega arith in
      let low : span (new_at (Insert k m) c s) 0 k ≡ span (mark_at c s) 0 k =
      span_same (new_at (Insert k m) c s) (mark_at c s) 0 0 k (λ i l. sym (insert_low c s (Insert k m) (0 + i) k m refl (omega arith))) in
      let high : span (new_at (Insert k m) c s) (suc (0 + k)) (c.count - k) ≡ span (mark_at c s) (0 + k) (c.count - k) =
      span_same (new_at (Insert k m) c s) (mark_at c s) (suc (0 + k)) (0 + k) (c.count - k)
      (λ i l. let a : suc (0 + k) + i - 1 ≡ 0 + k + i = omega arith in sym (insert_high c s (Insert k m) (suc (0 + k) + i) k m refl (omega arith) (λ q. omega arith)) ∙ ap (mark_at c s) a) in
      let here : new_at (Insert k m) c s (0 + k) ≡ m = sym (insert_here c s (Insert k m) (0 + k) k m refl (omega arith)) in
      ap (span (new_at (Insert k m) c s) 0) z ∙ span_append (new_at (Insert k m) c s) 0 k (suc (c.count - k))
      ∙ ap₂ (λ a b. a ++ b) (low ∙ sym (taken k h)) (span_cons (new_at (Insert k m) c s) (0 + k) (c.count - k) ∙ ap₂ (λ a b. a ∷ b) here (high ∙ sym (dropped k h)))

  pub skipped : (k : ℕ) → k < c.count → span (new_at (Skip k) c s) 0 (c.count - 1) ≡ changed (Skip k) (marks_of c s)
  unfolding changed
  skipped k h =
      let z : c.count - 1 ≡ k + (c.count - suc k) = omega arith in
      let low : span (new_at (Skip k) c s) 0 k ≡ span (mark_at c s) 0 k =
      span_same (new_at (Skip k) c s) (mark_at c s) 0 0 k (λ i l. sym (skip_low c s (Skip k) (0 + i) k refl (omega arith))) in
      let high : span (new_at (Skip k) c s) (0 + k) (c.count - suc k) ≡ span (mark_at c s) (0 + suc k) (c.count - suc k) =
      span_same (new_at (Skip k) c s) (mark_at c s) (0 + k) (0 + suc k) (c.count - suc k)
      (λ i l. let a : 0 + k + i + 1 ≡ 0 + suc k + i = omega arith in sym (skip_high c s (Skip k) (0 + k + i) k refl (omega arith)) ∙ ap (mark_at c s) a) in
      ap (span (new_at (Skip k) c s) 0) z ∙ span_append (new_at (Skip k) c s) 0 k (c.count - suc k)
      ∙ ap₂ (λ a b. a ++ b) (low ∙ sym (taken k (omega arith))) (high ∙ sym (dropped (suc k) h))

-- ---- where a mark stands, in marks that rise

none_below : (k least : ℕ) (ms : List Mark) → k ≤ least → T (rising Whole least ms) → below k ms ≡ 0
unfolding below
none_below k least [] h r = refl
none_below k least (x ∷ ms) h r =
    let s : Rises Whole least x ms = rises Whole least x ms r in
    rw (le-ltb (key x) k (omega (arith, s.above))) (none_below k (suc (key x)) ms (omega (arith, s.above)) s.more)

none_at : (k least : ℕ) (ms : List Mark) → k < least → T (rising Whole least ms) → has_key k ms ≡ false
unfolding has_key
none_at k least [] h r = refl
none_at k least (x ∷ ms) h r =
    let s : Rises Whole least x ms = rises Whole least x ms r in
    rw (ne_eqb (key x) k (λ q. omega (arith, s.above))) (none_at k (suc (key x)) ms (omega (arith, s.above)) s.more)

-- the mark goes after those below it
pub insert_at : (least : ℕ) (m : Mark) (ms : List Mark) → T (rising Whole least ms) → changed (Insert (below (key m) ms) m) ms ≡ insert m ms
unfolding insert below changed
insert_at least m [] r = refl
insert_at least m (x ∷ ms) r =
    let s : Rises Whole least x ms = rises Whole least x ms r in
    ⊎_elim
    (λ (e : ltb (key x) (key m) ≡ true). rw e (ap (λ l. x ∷ l) (insert_at (suc (key x)) m ms s.more)))
    (λ (e : ltb (key x) (key m) ≡ false).
    let w : key m ≤ key x = ltb-false (key x) (key m) e in
    rw (e, none_below (key m) (suc (key x)) ms (omega arith) s.more))
    (decide (ltb (key x) (key m)))

pub below_few : (k : ℕ) (ms : List Mark) → below k ms ≤ length ms
unfolding below
below_few k [] = omega arith
below_few k (x ∷ ms) = ⊎_elim (λ (e : ltb (key x) k ≡ true). rw e (omega (arith, below_few k ms))) (λ (e : ltb (key x) k ≡ false). rw e (omega (arith, below_few k ms))) (decide (ltb (key x) k))

-- a log and place are found by their key
module _ (l p : ℕ) (small : p < 4294967296) where
  at_key : (x : Mark) → x.place < 4294967296 → is_at l p x ≡ eqb (key x) (l * 4294967296 + p)
  at_key x h =
      ⊎_elim
      (λ (e : eqb (key x) (l * 4294967296 + p) ≡ true).
      let q : key x ≡ l * 4294967296 + p = eqb-true (key x) (l * 4294967296 + p) e in
      let a : x.log ≡ l = omega (arith, small, h) in
      let b : x.place ≡ p = omega (arith, small, h) in
      rw (eq-eqb x.log l a, eq-eqb x.place p b) (sym e))
      (λ (e : eqb (key x) (l * 4294967296 + p) ≡ false).
      let q : key x ≡ l * 4294967296 + p → ⊥ = eqb-false (key x) (l * 4294967296 + p) e in
      ⊎_elim
      (λ (a : eqb x.log l ≡ true).
      let al : x.log ≡ l = eqb-true _ _ a in
      rw (a, ne_eqb x.place p (λ b. q (ap₂ (λ u v. u * 4294967296 + v) al b))) (sym e))
      (λ (a : eqb x.log l ≡ false). rw a (sym e))
      (decide (eqb x.log l)))
      (decide (eqb (key x) (l * 4294967296 + p)))

  pub has_key_lem : (least : ℕ) (ms : List Mark) → T (rising Whole least ms) → has l p ms ≡ has_key (l * 4294967296 + p) ms
  unfolding has has_key
  has_key_lem least [] r = refl
  has_key_lem least (x ∷ ms) r =
      let s : Rises Whole least x ms = rises Whole least x ms r in
      ap₂ (λ a b. a || b) (at_key x s.legal.place) (has_key_lem (suc (key x)) ms s.more)

  -- the mark at a key is the one after those below it, and it is one of the list
  pub skip_at : (least : ℕ) (ms : List Mark) → T (rising Whole least ms) → has_key (l * 4294967296 + p) ms ≡ true
      → (changed (Skip (below (l * 4294967296 + p) ms)) ms ≡ without l p ms) × (below (l * 4294967296 + p) ms < length ms)
  unfolding has_key below changed without
  skip_at least [] r h = absurd (let z : ◌≡◌ {A = ℕ} 0 1 = cc in omega arith)
  skip_at least (x ∷ ms) r h =
      let s : Rises Whole least x ms = rises Whole least x ms r in
      ⊎_elim
      (λ (e : eqb (key x) (l * 4294967296 + p) ≡ true).
      let q : key x ≡ l * 4294967296 + p = eqb-true (key x) (l * 4294967296 + p) e in
      rw (at_key x s.legal.place, e, le-ltb (key x) (l * 4294967296 + p) (omega arith), none_below (l * 4294967296 + p) (suc (key x)) ms (omega arith) s.more) (refl, omega arith))
      (λ (e : eqb (key x) (l * 4294967296 + p) ≡ false).
      let n : has_key (l * 4294967296 + p) ms ≡ true = rw e at h in
      let w : key x < l * 4294967296 + p = under (key x) (suc (key x)) ms (omega arith) s.more n in
      let (a, b) = skip_at (suc (key x)) ms s.more n in
      rw (at_key x s.legal.place, e, lt-ltb (key x) (l * 4294967296 + p) w) (ap (λ y. x ∷ y) a, omega arith))
      (decide (eqb (key x) (l * 4294967296 + p)))
    where
      -- a mark that is there is not below the least key
      under : (j least : ℕ) (ms : List Mark) → j < least → T (rising Whole least ms) → has_key (l * 4294967296 + p) ms ≡ true → j < l * 4294967296 + p
      under j least ms d r h =
          ⊎_elim
          (λ (e : ltb (l * 4294967296 + p) least ≡ true). absurd (let z : ◌≡◌ {A = Bool} true false = sym h ∙ none_at (l * 4294967296 + p) least ms (ltb-true _ _ e) r in true≢false z))
          (λ (e : ltb (l * 4294967296 + p) least ≡ false). let w : least ≤ l * 4294967296 + p = ltb-false _ _ e in omega arith)
          (decide (ltb (l * 4294967296 + p) least))

  pub less_first : (least : ℕ) (ms : List Mark) → T (rising Whole least ms) → has_key (l * 4294967296 + p) ms ≡ true → length (of_log 0 ms) ≡ length (of_log 0 (without l p ms)) + plus (eqb l 0) 0
  unfolding has_key without of_log
  less_first least [] r h = absurd (let z : ◌≡◌ {A = ℕ} 0 1 = cc in omega arith)
  less_first least (x ∷ ms) r h =
      let s : Rises Whole least x ms = rises Whole least x ms r in
      ⊎_elim
      (λ (e : eqb (key x) (l * 4294967296 + p) ≡ true).
      let q : key x ≡ l * 4294967296 + p = eqb-true (key x) (l * 4294967296 + p) e in
      let a : x.log ≡ l = omega (arith, small, s.legal.place) in
      rw (at_key x s.legal.place, e, a)
      (⊎_elim (λ (d : eqb l 0 ≡ true). rw d (omega arith)) (λ (d : eqb l 0 ≡ false). rw d (omega arith)) (decide (eqb l 0))))
      (λ (e : eqb (key x) (l * 4294967296 + p) ≡ false).
      let i : length (of_log 0 ms) ≡ length (of_log 0 (without l p ms)) + plus (eqb l 0) 0 = less_first (suc (key x)) ms s.more (rw e at h) in
      rw (at_key x s.legal.place, e)
      (⊎_elim (λ (g : eqb x.log 0 ≡ true). rw g (omega arith)) (λ (g : eqb x.log 0 ≡ false). rw g i) (decide (eqb x.log 0))))
      (decide (eqb (key x) (l * 4294967296 + p)))

-- ---- how many are log 0's
pub of_few : (ms : List Mark) → length (of_log 0 ms) ≤ length ms
unfolding of_log
of_few [] = omega arith
of_few (x ∷ ms) = ⊎_elim (λ (e : eqb x.log 0 ≡ true). rw e (omega (arith, of_few ms))) (λ (e : eqb x.log 0 ≡ false). rw e (omega (arith, of_few ms))) (decide (eqb x.log 0))

pub more_first : (m : Mark) (ms : List Mark) → length (of_log 0 (insert m ms)) ≡ length (of_log 0 ms) + plus (eqb m.log 0) 0
unfolding insert of_log
more_first m [] = ⊎_elim (λ (e : eqb m.log 0 ≡ true). rw e) (λ (e : eqb m.log 0 ≡ false). rw e) (decide (eqb m.log 0))
more_first m (x ∷ ms) =
    ⊎_elim
    (λ (e : ltb (key x) (key m) ≡ true).
    rw e (⊎_elim (λ (g : eqb x.log 0 ≡ true). rw g (omega (arith, more_first m ms))) (λ (g : eqb x.log 0 ≡ false). rw g (more_first m ms)) (decide (eqb x.log 0))))
    (λ (e : ltb (key x) (key m) ≡ false).
    rw e (⊎_elim (λ (g : eqb m.log 0 ≡ true). rw g (omega arith)) (λ (g : eqb m.log 0 ≡ false). rw g (omega arith)) (decide (eqb m.log 0))))
    (decide (ltb (key x) (key m)))

-- ---- what is told of two lists, one after the other
below_append : (k : ℕ) (xs ys : List Mark) → below k (xs ++ ys) ≡ below k xs + below k ys
unfolding below
below_append k [] ys = omega arith
below_append k (x ∷ xs) ys = omega (arith, plus_is (ltb (key x) k) (below k (xs ++ ys)), plus_is (ltb (key x) k) (below k xs), below_append k xs ys)

has_append : (k : ℕ) (xs ys : List Mark) → has_key k (xs ++ ys) ≡ (has_key k xs || has_key k ys)
unfolding has_key
has_append k [] ys = refl
has_append k (x ∷ xs) ys = ap (λ b. eqb (key x) k || b) (has_append k xs ys) ∙ or_more (eqb (key x) k) (has_key k xs) (has_key k ys)

pub tally_append : (k : ℕ) (xs ys : List Mark) → both_tallies (tally k xs) (tally k ys) ≡ tally k (xs ++ ys)
tally_append k xs ys = rw (length-append xs ys, of_append 0 xs ys, length-append (of_log 0 xs) (of_log 0 ys), below_append k xs ys, has_append k xs ys)
