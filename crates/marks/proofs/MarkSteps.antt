-- What the code meets, over plain values: one mark, and a pass over a list of them. Assumes nothing.
use Prim.Native.Nat.{ℕ, zero, suc, ◌+◌, ◌-◌, ◌*◌, ◌≤◌, ◌<◌}
use mathlib.Core.Path.{◌≡◌, refl, sym, ap, ◌∙◌}
use mathlib.Core.Logic.{⊎_elim}
use mathlib.Core.Bool.{Bool, true, false, ◌||◌, cond}
use mathlib.Core.List.{List, [], ◌∷◌}
use native.Mathlib.Omega.{arith}
use lib.Dec.{ltb, eqb}
use Rattle.std.specs.Int.{w32, from_be_bytes, from_bool}
use lib.ListN.{length, take, drop, get_or, length-drop}
use lib.Seq.{take_all, drop-drop}
use Rattle.rules.specs.declared.Shape.{Shape}
use Rattle.rules.specs.declared.Shape.TheVariants.{Whole, InLog}
use Rattle.rules.specs.declared.Mark.{Mark}
use Rattle.rules.specs.Answer.{ok, refused, ◌>>=◌, need◌or◌then◌, later}
use Rattle.rules.specs.Mark.{key, size, number4, log_in, mark_in, fits, mark_fits, marks_in, plus, of_log}
use Rattle.rules.proofs.AnswerLaws.{bind_in, later_in}
use Rattle.rules.proofs.Codec.{decide}
use Rattle.marks.specs.declared.Tally.{Tally}
use Rattle.marks.specs.Lists.{passing, below, has_key, tally, both_tallies}

-- ---- numbers and marks
pub four_number : (bs : List ℕ) → from_be_bytes w32 (get_or bs 0 0 ∷ get_or bs 1 0 ∷ get_or bs 2 0 ∷ get_or bs 3 0 ∷ []) ≡ number4 bs
unfolding number4
four_number bs = omega arith

pub size_least : (f : Shape) → 7 ≤ size f
size_least Whole = omega arith
size_least (InLog l) = omega arith

pub mark_is : (f : Shape) (bs : List ℕ) (n l p : ℕ) → n ≡ size f → l ≡ log_in f bs → p ≡ number4 bs
    → ◌≡◌ {A = Mark} (record { log = l; place = p; station = get_or bs (n - 3) 0; comment = get_or bs (n - 2) 0 }) (mark_in f bs)
unfolding mark_in
mark_is f bs n l p e g h = rw (e, g, h)

-- the part of a slice from a place to its end, as the code has it
abbrev pub tail : ℕ → List ℕ → List ℕ
tail at body = take (length body - at) (drop at body)

pub tail_is : (at : ℕ) (body : List ℕ) → tail at body ≡ drop at body
tail_is at body = take_all (length body - at) (drop at body) (omega (arith, length-drop at body))

-- ---- a pass over marks

passing_none : (f : Shape) (least : ℕ) (bs : List ℕ) → passing f least 0 bs ≡ []
unfolding passing
passing_none f least bs = refl

passing_fault : (f : Shape) (least n : ℕ) (bs : List ℕ) → mark_fits f least bs ≡ false → passing f least (suc n) bs ≡ []
unfolding passing
passing_fault f least n bs e = rw e

passing_step : (f : Shape) (least n : ℕ) (bs : List ℕ) → mark_fits f least bs ≡ true → passing f least (suc n) bs ≡ mark_in f bs ∷ passing f (suc (key (mark_in f bs))) n (drop (size f) bs)
unfolding passing
passing_step f least n bs e = rw e

or_none_lem : (b : Bool) → (b || false) ≡ b
or_none_lem true = refl
or_none_lem false = refl

pub or_more : (a b c : Bool) → (a || (b || c)) ≡ ((a || b) || c)
or_more true b c = refl
or_more false b c = refl

none_after : (k : ℕ) (t : Tally) → both_tallies t (tally k []) ≡ t
unfolding below has_key of_log
none_after k t =
    let a : t.count + 0 ≡ t.count = omega arith in
    let b : t.first + 0 ≡ t.first = omega arith in
    let c : t.below + 0 ≡ t.below = omega arith in
    rw (a, b, c, or_none_lem t.found)

of_count : (m : Mark) (ms : List Mark) → length (of_log 0 (m ∷ ms)) ≡ plus (eqb m.log 0) 0 + length (of_log 0 ms)
unfolding of_log
of_count m ms = go (eqb m.log 0)
  where
    go : (t : Bool) → length (cond t (m ∷ of_log 0 ms) (of_log 0 ms)) ≡ plus t 0 + length (of_log 0 ms)
    go true = omega arith
    go false = omega arith

pub plus_is : (t : Bool) (n : ℕ) → plus t n ≡ plus t 0 + n
plus_is true n = omega arith
plus_is false n = omega arith

pub plus_bool : (t : Bool) → from_bool t ≡ plus t 0
plus_bool true = refl
plus_bool false = refl

pub bool_few : (t : Bool) → from_bool t ≤ 1
bool_few true = omega arith
bool_few false = omega arith

-- a mark more was told of
abbrev more : ℕ → Tally → Mark → Tally
more k t m = record { count = t.count + 1; first = t.first + plus (eqb m.log 0) 0; below = t.below + plus (ltb (key m) k) 0; found = t.found || eqb (key m) k }

more_after : (k : ℕ) (t : Tally) (m : Mark) (ms : List Mark) → both_tallies t (tally k (m ∷ ms)) ≡ both_tallies (more k t m) (tally k ms)
unfolding below has_key
more_after k t m ms =
    let a : t.count + suc (length ms) ≡ t.count + 1 + length ms = omega arith in
    let b : t.first + length (of_log 0 (m ∷ ms)) ≡ t.first + plus (eqb m.log 0) 0 + length (of_log 0 ms) = omega (arith, of_count m ms) in
    let c : t.below + plus (ltb (key m) k) (below k ms) ≡ t.below + plus (ltb (key m) k) 0 + below k ms = omega (arith, plus_is (ltb (key m) k) (below k ms)) in
    rw (a, b, c, or_more t.found (eqb (key m) k) (has_key k ms))

-- what was told of the marks before number i, with what is told of the others, is what is told of all
pub record Passed (f : Shape) (n : ℕ) (body : List ℕ) (k least : ℕ) (t : Tally) (i : ℕ) : Type 0 where
  pub count : t.count ≡ i
  pub first : t.first ≤ i
  pub low : t.below ≤ i
  pub left : both_tallies t (tally k (passing f least (n - i) (drop (i * size f) body))) ≡ tally k (passing f 0 n body)

suc_left : (n i : ℕ) → i < n → n - i ≡ suc (n - (i + 1))
suc_left n i h = omega arith

module _ (f : Shape) (n : ℕ) (body : List ℕ) (k least : ℕ) (t : Tally) (i : ℕ) (p : Passed f n body k least t i) where
  ends : passing f least (n - i) (drop (i * size f) body) ≡ [] → t ≡ tally k (passing f 0 n body)
  ends e = sym (none_after k t) ∙ ap (λ ms. both_tallies t (tally k ms)) (sym e) ∙ p.left

  fits_here : (m : Mark) (z : ℕ) → z ≡ size f → m ≡ mark_in f (tail (i * z) body) → fits m (get_or (tail (i * z) body) (z - 1) 0) least ≡ mark_fits f least (drop (i * size f) body)
  unfolding mark_fits
  fits_here m z ez em = rw (em, ez, tail_is (i * size f) body)

  -- nothing is told of a mark at fault, nor of those after it
  pub passed_fault : (m : Mark) (z : ℕ) → i < n → z ≡ size f → m ≡ mark_in f (tail (i * z) body) → fits m (get_or (tail (i * z) body) (z - 1) 0) least ≡ false
      → t ≡ tally k (passing f 0 n body)
  passed_fault m z l ez em h =
      ends (ap (λ j. passing f least j (drop (i * size f) body)) (suc_left n i l) ∙ passing_fault f least (n - (i + 1)) (drop (i * size f) body) (sym (fits_here m z ez em) ∙ h))

  pub passed_all : n ≤ i → t ≡ tally k (passing f 0 n body)
  passed_all l = let z : n - i ≡ 0 = omega arith in ends (ap (λ j. passing f least j (drop (i * size f) body)) z ∙ passing_none f least (drop (i * size f) body))

  pub passed_more : (m : Mark) (z q : ℕ) → i < n → z ≡ size f → m ≡ mark_in f (tail (i * z) body) → fits m (get_or (tail (i * z) body) (z - 1) 0) least ≡ true → q ≡ key m
      → Passed f n body k (q + 1) (record { count = t.count + 1; first = t.first + from_bool (eqb m.log 0); below = t.below + from_bool (ltb q k); found = t.found || eqb q k }) (i + 1)
  passed_more m z q l ez em h eq =
      let g : mark_fits f least (drop (i * size f) body) ≡ true = sym (fits_here m z ez em) ∙ h in
      let em' : mark_in f (drop (i * size f) body) ≡ m = ap (mark_in f) (sym (tail_is (i * size f) body)) ∙ ap (λ y. mark_in f (tail (i * y) body)) (sym ez) ∙ sym em in
      let d : drop (size f) (drop (i * size f) body) ≡ drop ((i + 1) * size f) body = drop-drop (size f) (i * size f) body ∙ ap (λ y. drop y body) (step f) in
      let s : suc (key m) ≡ q + 1 = omega (arith, eq) in
      let e : passing f least (n - i) (drop (i * size f) body) ≡ m ∷ passing f (q + 1) (n - (i + 1)) (drop ((i + 1) * size f) body) =
      ap (λ j. passing f least j (drop (i * size f) body)) (suc_left n i l) ∙ passing_step f least (n - (i + 1)) (drop (i * size f) body) g ∙ rw (em', s, d) in
      record {
        count = omega (arith, p.count);
        first = omega (arith, p.first, bool_few (eqb m.log 0));
        low = omega (arith, p.low, bool_few (ltb q k));
        left =
            rw (plus_bool (eqb m.log 0), plus_bool (ltb q k), ap (λ y. ltb y k) eq, ap (λ y. eqb y k) eq)
            (sym (more_after k t m (passing f (q + 1) (n - (i + 1)) (drop ((i + 1) * size f) body))) ∙ ap (λ ms. both_tallies t (tally k ms)) (sym e) ∙ p.left);
      }
    where
      step : (f : Shape) → i * size f + size f ≡ (i + 1) * size f
      step Whole = omega arith
      step (InLog j) = omega arith

-- ---- the list that is read: all its marks pass, or the first at fault is the one after those that do

marks_step : (f : Shape) (least n : ℕ) (bs : List ℕ) → mark_fits f least bs ≡ true
    → marks_in f least (suc n) bs ≡ (later (size f) (marks_in f (suc (key (mark_in f bs))) n (drop (size f) bs)) >>= (λ ms. ok (mark_in f bs ∷ ms)))
unfolding marks_in need◌or◌then◌
marks_step f least n bs e = rw e

marks_here : (f : Shape) (least n : ℕ) (bs : List ℕ) → mark_fits f least bs ≡ false → marks_in f least (suc n) bs ≡ refused 33 0
unfolding marks_in need◌or◌then◌
marks_here f least n bs e = rw e

pub fault_in : (f : Shape) (least n : ℕ) (bs : List ℕ) → length (passing f least n bs) < n → marks_in f least n bs ≡ refused 33 (length (passing f least n bs) * size f)
unfolding ◌>>=◌ later
fault_in f least zero bs h = absurd (omega arith)
fault_in f least (suc n) bs h =
    ⊎_elim
    (λ (e : mark_fits f least bs ≡ true).
    let s : length (passing f least (suc n) bs) ≡ suc (length (passing f (suc (key (mark_in f bs))) n (drop (size f) bs))) = ap length (passing_step f least n bs e) in
    let q : size f + length (passing f (suc (key (mark_in f bs))) n (drop (size f) bs)) * size f ≡ length (passing f least (suc n) bs) * size f =
    sym (ap (λ k. k * size f) s ∙ omega arith) in
    rw (marks_step f least n bs e, fault_in f (suc (key (mark_in f bs))) n (drop (size f) bs) (omega arith)) (ap (refused 33) q))
    (λ (e : mark_fits f least bs ≡ false).
    let z : 0 ≡ length (passing f least (suc n) bs) * size f = sym (ap (λ ms. length ms * size f) (passing_fault f least n bs e) ∙ omega arith) in
    rw (marks_here f least n bs e) (ap (refused 33) z))
    (decide (mark_fits f least bs))

-- where all pass, they are the marks that are read
pub marks_pass : (f : Shape) (least n : ℕ) (bs : List ℕ) → n ≤ length (passing f least n bs) → (marks_in f least n bs ≡ ok (passing f least n bs)) × (length (passing f least n bs) ≡ n)
unfolding marks_in passing ◌>>=◌ later
marks_pass f least zero bs h = (refl, refl)
marks_pass f least (suc n) bs h =
    ⊎_elim
    (λ (e : mark_fits f least bs ≡ true).
    let s : length (passing f least (suc n) bs) ≡ suc (length (passing f (suc (key (mark_in f bs))) n (drop (size f) bs))) = ap length (passing_step f least n bs e) in
    let (r, l) = marks_pass f (suc (key (mark_in f bs))) n (drop (size f) bs) (omega arith) in
    (marks_step f least n bs e ∙ bind_in _ (later_in (size f) r) (ap ok (sym (passing_step f least n bs e))), s ∙ ap suc l))
    (λ (e : mark_fits f least bs ≡ false). absurd (omega (arith, ap length (passing_fault f least n bs e))))
    (decide (mark_fits f least bs))
