-- A run of parts that are alike: taken from the front of a list, or cut out of it. Assumes nothing.
use Prim.Native.Nat.{ℕ, zero, suc, ◌+◌, ◌*◌, ◌≤◌, ◌<◌}
use mathlib.Core.Path.{◌≡◌, refl, sym, ap, ap₂, ◌∙◌}
use mathlib.Core.List.{List, [], ◌∷◌, ◌++◌}
use native.Mathlib.Omega.{arith}
use native.Mathlib.Nat.{suc-mul, add_comm}
use borrow.Author.Tests.{ne_eqb}
use lib.Dec.{le→leb, leb→le}
use lib.IntN.{ℤ}
use lib.ListN.{length, take, drop, replicate, length-append, length-drop}
use lib.Seq.{take_at, drop_at, take-add, drop-drop, length-take-le}
use Rattle.rules.specs.Answer.{ok}
use Rattle.rules.specs.Field.{Field, arity}
use Rattle.rules.specs.Format.{PartValues}
use Rattle.rules.specs.FieldList.{take_parts}
use Rattle.rules.proofs.AnswerLaws.{bind_in, bind_elim, need_in, need_elim, if_true, if_false}
use Rattle.writing.specs.Write.{parts_from}

pub record Run (g : List Field) (c hi : ℕ) (fs : List ℤ) : Type 0 where
  pub us : PartValues
  pub count : length us ≡ c
  pub taken : take_parts (replicate c g) fs ≡ ok (us, drop (c * arity g) fs)
  pub parts : parts_from (replicate hi g) (take (c * arity g) fs) ≡ ok us

none_cut : (g : List Field) (hi : ℕ) → parts_from (replicate hi g) [] ≡ ok []
unfolding parts_from
none_cut g zero = need_in _ _ tt refl
none_cut g (suc hi) = if_true _ refl refl

pub run : (g : List Field) (c hi : ℕ) (fs : List ℤ) → 0 < arity g → c ≤ hi → c * arity g ≤ length fs → Run g c hi fs
unfolding take_parts parts_from
run g zero hi fs z h l =
    let e : 0 * arity g ≡ 0 = omega arith in
    record { us = []; count = refl; taken = ap (λ x. ok ([], drop x fs)) (sym e); parts = ap (λ x. parts_from (replicate hi g) (take x fs)) e ∙ none_cut g hi }
run g (suc c) zero fs z h l = absurd (omega arith)
run g (suc c) (suc hi) fs z h l =
    let a = arity g in
    let m : suc c * a ≡ a + c * a = suc-mul c a ∙ add_comm (c * a) a in
    let l₁ : a ≤ length fs = omega arith in
    let l₂ : c * a ≤ length (drop a fs) = omega (arith, length-drop a fs) in
    let r : Run g c hi (drop a fs) = run g c hi (drop a fs) z (omega arith) l₂ in
    let t : length (take a fs) ≡ a = length-take-le a fs l₁ in
    let w : take (suc c * a) fs ≡ take a fs ++ take (c * a) (drop a fs) = ap (λ x. take x fs) m ∙ take-add a (c * a) fs in
    let n : length (take (suc c * a) fs) ≡ a + c * a = ap length w ∙ length-append (take a fs) (take (c * a) (drop a fs)) ∙ ap₂ ◌+◌ t (length-take-le (c * a) (drop a fs) l₂) in
    record {
      us = take a fs ∷ r.us;
      count = ap suc r.count;
      taken = need_in _ _ (le→leb a (length fs) l₁) (bind_in _ r.taken (ap (λ x. ok (take a fs ∷ r.us, x)) (drop-drop (c * a) a fs ∙ ap (λ x. drop x fs) (sym m))));
      parts =
          if_false _ (ne_eqb (length (take (suc c * a) fs)) 0 (λ (e : length (take (suc c * a) fs) ≡ 0). absurd (omega arith)))
          (need_in _ _ (le→leb a (length (take (suc c * a) fs)) (omega arith))
          (bind_in _ (ap (parts_from (replicate hi g)) (ap (drop a) w ∙ drop_at (take a fs) (take (c * a) (drop a fs)) a t) ∙ r.parts)
          (ap (λ x. ok (x ∷ r.us)) (ap (take a) w ∙ take_at (take a fs) (take (c * a) (drop a fs)) a t))));
    }

-- so many can be taken where they are there
pub run_there : (g : List Field) (c : ℕ) (fs : List ℤ) (us : PartValues) (rest : List ℤ) → take_parts (replicate c g) fs ≡ ok (us, rest) → c * arity g ≤ length fs
unfolding take_parts
run_there g zero fs us rest h = omega arith
run_there g (suc c) fs us rest h =
    need_elim _ _ _ h λ t h₁.
    bind_elim _ _ h₁ λ x p h₂.
    let m : suc c * arity g ≡ c * arity g + arity g = suc-mul c (arity g) in
    omega (arith, run_there g c (drop (arity g) fs) x.0 x.1 p, length-drop (arity g) fs, leb→le (arity g) (length fs) t)
