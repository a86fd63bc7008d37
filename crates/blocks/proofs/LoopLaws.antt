-- Things end to end, as a loop takes them one by one: what is left is read by the same rule, its places counted on.
--
-- In order: answers further on; octets of a list; what one thing takes; that it does not matter how many things may be read; one turn of a loop.
-- Assumes nothing.
use Prim.Native.Nat.{ℕ, zero, suc, ◌+◌, ◌-◌, ◌≤◌, ◌<◌}
use mathlib.Core.Path.{◌≡◌, refl, sym, ap, ◌∙◌, subst}
use mathlib.Core.List.{List, [], ◌∷◌}
use mathlib.Core.Bool.{Bool, true, false}
use Rattle.std.specs.Bool.{◌==◌}
use Rattle.std.specs.Prelude.{◌≢◌}
use borrow.Author.Tests.{eqb-true, eqb-false}
use native.Mathlib.Omega.{arith}
use native.Mathlib.Nat.{add_assoc, zero-add, le_refl}
use lib.ListN.{length, drop, get_or, length-append}
use lib.Seq.{drop_at}
use mir.Syntax.{w8}
use mir.Val.{Fits}
use Rattle.rules.specs.Answer.{Answer, ok, refused, ◌>>=◌, later, Read, Write}
use Rattle.rules.specs.Block.{read_up_to, read_all}
use Rattle.rules.proofs.AnswerLaws.{refused_ok, ok_inj, bind_in, bind_elim, later_inv, Octets, Split, Laws, Starts, after}

-- ---- answers further on

pub later_later : {A : Type 0} (j k : ℕ) (x : Answer A) → later j (later k x) ≡ later (j + k) x
unfolding later
later_later j k (ok a) = refl
later_later j k (refused n p) = ap (refused n) (sym (add_assoc j k p))

pub later_zero : {A : Type 0} (x : Answer A) → later 0 x ≡ x
unfolding later
later_zero (ok a) = refl
later_zero (refused n p) = ap (refused n) (zero-add p)

-- what is made of a value has its place with it
pub later_made : {A B C : Type 0} (k : ℕ) (x : Answer A) (f : A → B) (g : B → Answer C)
    → (later k (x >>= λ a. ok (f a)) >>= g) ≡ (later k x >>= λ a. g (f a))
unfolding later ◌>>=◌
later_made k (ok a) f g = refl
later_made k (refused n p) f g = refl

-- what is made of a value that is not there
pub made_refused : {A B : Type 0} (x : Answer A) (f : A → B) (n p : ℕ) → (x >>= λ a. ok (f a)) ≡ refused n p → x ≡ refused n p
unfolding ◌>>=◌
made_refused (ok a) f n p h = refused_ok (sym h)
made_refused (refused m q) f n p h = (cc)

-- two ways on from one answer, where they agree on its value
pub bind_on : {A B : Type 0} (x : Answer A) (f g : A → Answer B) → ((a : A) → x ≡ ok a → f a ≡ g a) → (x >>= f) ≡ (x >>= g)
unfolding ◌>>=◌
bind_on (ok a) f g h = h a refl
bind_on (refused n p) f g h = refl

-- ---- octets of a list

-- whether any are left
pub some_left : (t : Bool) (n : ℕ) → t ≡ (n == 0) → t ≡ false → 0 < n
some_left t n e f = let h : n ≢ 0 = eqb-false n 0 (sym e ∙ f) in omega arith

pub none_left : (t : Bool) (n : ℕ) → t ≡ (n == 0) → t ≡ true → n ≡ 0
none_left t n e f = eqb-true n 0 (sym e ∙ f)

-- the bytes of a slice are octets
pub octets_each : (bs : List ℕ) → ((i : ℕ) → Fits w8 (get_or bs i 0)) → Octets bs
octets_each [] h = tt
octets_each (b ∷ bs) h = ((h 0).fits, octets_each bs (λ i. h (suc i)))

pub octets_at_lem : (bs : List ℕ) (i : ℕ) → Octets bs → get_or bs i 0 < 256
octets_at_lem [] i o = omega arith
octets_at_lem (b ∷ bs) zero o = o.0
octets_at_lem (b ∷ bs) (suc i) o = octets_at_lem bs i o.1

-- ---- what one thing takes: some octets, and what is left is the list from there on

pub record Taken (bs rest : List ℕ) (n : ℕ) : Type 0 where
  pub some : 0 < n
  pub whole : n + length rest ≡ length bs
  pub left : rest ≡ drop n bs

module _ {A : Type 0} {r : Read A} {w : Write A} (laws : Laws r w) (starts : Starts r) where
  -- what is written of one thing is not empty
  some_out : (a : A) (out : List ℕ) → w a ≡ ok out → 0 < length out
  some_out a [] h = absurd (starts a [] (laws.back a [] [] h))
  some_out a (b ∷ out) h = omega arith

  pub taken_out : (a : A) (bs rest : List ℕ) (s : Split w a bs rest) → Taken bs rest (length s.out)
  taken_out a bs rest s =
      record {
        some = some_out a s.out s.writes;
        whole = sym (ap length s.joins ∙ length-append s.out rest);
        left = sym (ap (drop (length s.out)) s.joins ∙ drop_at s.out rest (length s.out) refl);
      }

  pub taken : (a : A) (bs rest : List ℕ) → Octets bs → r bs ≡ ok (a, rest) → Taken bs rest (length bs - length rest)
  taken a bs rest o h =
      let s : Split w a bs rest = laws.forth a bs rest o h in
      let t : Taken bs rest (length s.out) = taken_out a bs rest s in
      let e : length s.out ≡ length bs - length rest = omega (arith, t.whole) in
      subst (Taken bs rest) e t

  -- ---- as many things as there are octets are enough

  up_to-enough : (f g : ℕ) (bs : List ℕ) → Octets bs → length bs ≤ f → length bs ≤ g → read_up_to r f bs ≡ read_up_to r g bs
  unfolding read_up_to
  up_to-enough zero zero bs o l m = refl
  up_to-enough zero (suc g) [] o l m = refl
  up_to-enough (suc f) zero [] o l m = refl
  up_to-enough (suc f) (suc g) [] o l m = refl
  up_to-enough zero (suc g) (b ∷ bs) o l m = absurd (omega arith)
  up_to-enough (suc f) zero (b ∷ bs) o l m = absurd (omega arith)
  up_to-enough (suc f) (suc g) (b ∷ bs) o l m =
      bind_on (r (b ∷ bs)) _ _ λ y e.
      let t : Taken (b ∷ bs) y.1 (suc (length bs) - length y.1) = taken y.0 (b ∷ bs) y.1 o e in
      let s : Split w y.0 (b ∷ bs) y.1 = laws.forth y.0 (b ∷ bs) y.1 o e in
      ap (λ z. later (suc (length bs) - length y.1) z >>= λ as'. ok (y.0 ∷ as'))
      (up_to-enough f g y.1 (after s o) (omega (arith, t.some)) (omega (arith, t.some)))

  -- there are no more of them than octets
  up_to-few : (f : ℕ) (bs : List ℕ) (vs : List A) → read_up_to r f bs ≡ ok vs → length vs ≤ f
  unfolding read_up_to
  up_to-few zero [] vs h = rw (← ok_inj h) (omega arith)
  up_to-few zero (b ∷ bs) vs h = refused_ok h
  up_to-few (suc f) [] vs h = rw (← ok_inj h) (omega arith)
  up_to-few (suc f) (b ∷ bs) vs h =
      bind_elim _ _ h λ y p h₁.
      bind_elim _ _ h₁ λ us q h₂.
      rw (← ok_inj h₂) (omega (arith, up_to-few f y.1 us (later_inv _ _ q)))

  pub all_few : (bs : List ℕ) (vs : List A) → read_all r bs ≡ ok vs → length vs ≤ length bs
  unfolding read_all
  all_few bs vs h = up_to-few (length bs) bs vs h

  -- ---- one turn of a loop, whatever is then made of the things

  pub all_end : {B : Type 0} (k : ℕ) (bs : List ℕ) (g : List A → Answer B) → length bs ≡ 0 → (later k (read_all r bs) >>= g) ≡ g []
  unfolding read_all read_up_to later ◌>>=◌
  all_end k [] g e = refl
  all_end k (b ∷ bs) g e = absurd (omega arith)

  pub all_stop : {B : Type 0} (k : ℕ) (bs : List ℕ) (g : List A → Answer B) (n p : ℕ) → 0 < length bs → r bs ≡ refused n p
      → (later k (read_all r bs) >>= g) ≡ refused n (k + p)
  unfolding read_all read_up_to later ◌>>=◌
  all_stop k [] g n p l h = absurd (omega arith)
  all_stop k (b ∷ bs) g n p l h = rw h

  pub all_turn : {B : Type 0} (k : ℕ) (bs rest : List ℕ) (a : A) (g : List A → Answer B) → Octets bs → r bs ≡ ok (a, rest)
      → (later k (read_all r bs) >>= g) ≡ (later (k + (length bs - length rest)) (read_all r rest) >>= λ as'. g (a ∷ as'))
  unfolding read_all read_up_to
  all_turn k [] rest a g o h = absurd (starts a rest h)
  all_turn k (b ∷ bs) rest a g o h =
      let t : Taken (b ∷ bs) rest (suc (length bs) - length rest) = taken a (b ∷ bs) rest o h in
      let s : Split w a (b ∷ bs) rest = laws.forth a (b ∷ bs) rest o h in
      ap (λ z. later k z >>= g) (bind_in _ h refl)
      ∙ later_made k (later (suc (length bs) - length rest) (read_up_to r (length bs) rest)) (λ as'. a ∷ as') g
      ∙ ap (λ z. z >>= λ as'. g (a ∷ as')) (later_later k (suc (length bs) - length rest) (read_up_to r (length bs) rest))
      ∙ ap (λ z. later (k + (suc (length bs) - length rest)) z >>= λ as'. g (a ∷ as'))
      (up_to-enough (length bs) (length rest) rest (after s o) (omega (arith, t.some)) (le_refl _))
