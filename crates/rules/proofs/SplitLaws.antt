-- What holds of rising marks, and of one log's marks among them (W-211): the two logs' marks end to end are the marks. Assumes nothing.
use Prim.Native.Nat.{ℕ, zero, suc, ◌≤◌}
use mathlib.Core.Path.{◌≡◌, refl, sym, ap, ◌∙◌, subst}
use mathlib.Core.Logic.{⊎_elim, ◌⊎◌, inl, inr}
use mathlib.Core.Bool.{Bool, true, false}
use mathlib.Core.List.{List, [], ◌∷◌, ◌++◌}
use native.Mathlib.Omega.{arith}
use lib.Dec.{T, eqb, eqb→eq, eqb_refl}
use borrow.Author.Tests.{eq-eqb, ne_eqb, eqb-true, eqb-false}
use Rattle.rules.specs.declared.Mark.{Mark}
use Rattle.rules.specs.declared.Shape.{Shape}
use Rattle.rules.specs.declared.Shape.TheVariants.{Whole, InLog}
use Rattle.rules.specs.Mark.{key, rising, of_log}
use Rattle.rules.proofs.MarkLaws.{Rises, rises, rising_in, rising_nil}

-- ---- rising marks
pub lower : (f : Shape) (least least' : ℕ) (ms : List Mark) → least' ≤ least → T (rising f least ms) → T (rising f least' ms)
lower f least least' [] h r = rising_nil f least'
lower f least least' (m ∷ ms) h r =
    let s : Rises f least m ms = rises f least m ms r in
    rising_in f least' m ms (record { legal = s.legal; shape = s.shape; above = omega (arith, s.above); more = s.more })

widen : (l least : ℕ) (ms : List Mark) → T (rising (InLog l) least ms) → T (rising Whole least ms)
widen l least [] r = rising_nil Whole least
widen l least (m ∷ ms) r =
    let s : Rises (InLog l) least m ms = rises (InLog l) least m ms r in
    rising_in Whole least m ms (record { legal = s.legal; shape = tt; above = s.above; more = widen l (suc (key m)) ms s.more })

-- ---- one log's
of_log_in : (l : ℕ) (m : Mark) (ms : List Mark) → m.log ≡ l → of_log l (m ∷ ms) ≡ m ∷ of_log l ms
unfolding of_log
of_log_in l m ms e = rw (eq-eqb m.log l e)

of_log_out : (l : ℕ) (m : Mark) (ms : List Mark) → (m.log ≡ l → ⊥) → of_log l (m ∷ ms) ≡ of_log l ms
unfolding of_log
of_log_out l m ms e = rw (ne_eqb m.log l e)

of_nil : (l : ℕ) → of_log l [] ≡ []
unfolding of_log
of_nil l = refl

is_log : (l : ℕ) (m : Mark) → (m.log ≡ l) ⊎ (m.log ≡ l → ⊥)
is_log l m = go (eqb m.log l) refl
  where
    go : (t : Bool) → eqb m.log l ≡ t → (m.log ≡ l) ⊎ (m.log ≡ l → ⊥)
    go true e = inl (eqb-true m.log l e)
    go false e = inr (eqb-false m.log l e)

pub pick : (l least least' : ℕ) (ms : List Mark) → least' ≤ least → T (rising Whole least ms) → T (rising (InLog l) least' (of_log l ms))
pick l least least' [] h r = rw (of_nil l) (rising_nil (InLog l) least')
pick l least least' (m ∷ ms) h r =
    let s : Rises Whole least m ms = rises Whole least m ms r in
    ⊎_elim
    (λ (e : m.log ≡ l).
    rw (of_log_in l m ms e) (rising_in (InLog l) least' m (of_log l ms)
    (record { legal = s.legal; shape = subst (λ x. T (eqb m.log x)) e (eqb_refl m.log); above = omega (arith, s.above); more = pick l (suc (key m)) (suc (key m)) ms (omega arith) s.more })))
    (λ (e : m.log ≡ l → ⊥). rw (of_log_out l m ms e) (pick l (suc (key m)) least' ms (omega (arith, s.above)) s.more))
    (is_log l m)

high : (least : ℕ) (ms : List Mark) → 4294967296 ≤ least → T (rising Whole least ms) → (of_log 0 ms ≡ []) × (of_log 1 ms ≡ ms)
high least [] h r = (of_nil 0, of_nil 1)
high least (m ∷ ms) h r =
    let s : Rises Whole least m ms = rises Whole least m ms r in
    let e : m.log ≡ 1 = omega (arith, s.above, s.legal.log, s.legal.place) in
    let (a, b) = high (suc (key m)) ms (omega (arith, s.above)) s.more in
    (of_log_out 0 m ms (λ z. omega arith) ∙ a, of_log_in 1 m ms e ∙ ap (λ x. m ∷ x) b)

pub split : (least : ℕ) (ms : List Mark) → T (rising Whole least ms) → of_log 0 ms ++ of_log 1 ms ≡ ms
split least [] r = rw (of_nil 0, of_nil 1)
split least (m ∷ ms) r =
    let s : Rises Whole least m ms = rises Whole least m ms r in
    ⊎_elim
    (λ (e : m.log ≡ 0).
    rw (of_log_in 0 m ms e, of_log_out 1 m ms (λ z. omega arith)) (ap (λ x. m ∷ x) (split (suc (key m)) ms s.more)))
    (λ (e : m.log ≡ 0 → ⊥).
    let g : m.log ≡ 1 = one_of m.log e s.legal.log in
    let (a, b) = high (suc (key m)) ms (omega arith) s.more in
    rw (of_log_out 0 m ms e, of_log_in 1 m ms g, a, b))
    (is_log 0 m)
  where
    one_of : (n : ℕ) → (n ≡ 0 → ⊥) → n ≤ 1 → n ≡ 1
    one_of zero h l = absurd (h refl)
    one_of (suc n) h l = omega arith

own_log : (l least : ℕ) (m : Mark) (ms : List Mark) → Rises (InLog l) least m ms → m.log ≡ l
own_log l least m ms s = eqb→eq m.log l s.shape

-- log 1's marks stand above all of log 0's
above_all : (cs : List Mark) → T (rising (InLog 1) 0 cs) → T (rising (InLog 1) 4294967296 cs)
above_all [] r = rising_nil (InLog 1) 4294967296
above_all (m ∷ ms) r =
    let s : Rises (InLog 1) 0 m ms = rises (InLog 1) 0 m ms r in
    rising_in (InLog 1) 4294967296 m ms (record { legal = s.legal; shape = s.shape; above = omega (arith, own_log 1 0 m ms s); more = s.more })

pub join : (least : ℕ) (as' cs : List Mark) → least ≤ 4294967296 → T (rising (InLog 0) least as') → T (rising (InLog 1) 0 cs) → T (rising Whole least (as' ++ cs))
join least [] cs h r t = lower Whole 4294967296 least cs h (widen 1 4294967296 cs (above_all cs t))
join least (m ∷ as') cs h r t =
    let s : Rises (InLog 0) least m as' = rises (InLog 0) least m as' r in
    rising_in Whole least m (as' ++ cs)
    (record { legal = s.legal; shape = tt; above = s.above; more = join (suc (key m)) as' cs (omega (arith, own_log 0 least m as' s, s.legal.place)) s.more t })

pub of_own : (l least : ℕ) (ms : List Mark) → T (rising (InLog l) least ms) → of_log l ms ≡ ms
of_own l least [] r = of_nil l
of_own l least (m ∷ ms) r =
    let s : Rises (InLog l) least m ms = rises (InLog l) least m ms r in
    of_log_in l m ms (own_log l least m ms s) ∙ ap (λ x. m ∷ x) (of_own l (suc (key m)) ms s.more)

pub of_other : (l k least : ℕ) (ms : List Mark) → (l ≡ k → ⊥) → T (rising (InLog l) least ms) → of_log k ms ≡ []
of_other l k least [] n r = of_nil k
of_other l k least (m ∷ ms) n r =
    let s : Rises (InLog l) least m ms = rises (InLog l) least m ms r in
    of_log_out k m ms (λ e. n (sym (own_log l least m ms s) ∙ e)) ∙ of_other l k (suc (key m)) ms n s.more

pub of_append : (l : ℕ) (as' cs : List Mark) → of_log l (as' ++ cs) ≡ of_log l as' ++ of_log l cs
of_append l [] cs = rw (of_nil l)
of_append l (m ∷ as') cs =
    ⊎_elim
    (λ (e : m.log ≡ l). rw (of_log_in l m (as' ++ cs) e, of_log_in l m as' e) (ap (λ x. m ∷ x) (of_append l as' cs)))
    (λ (e : m.log ≡ l → ⊥). rw (of_log_out l m (as' ++ cs) e, of_log_out l m as' e) (of_append l as' cs))
    (is_log l m)
