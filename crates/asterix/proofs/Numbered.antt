-- Answers whose refusals have numbers from a least to a greatest: what keeps them so. Assumes nothing.
use Prim.Native.Nat.{ℕ, ◌+◌}
use mathlib.Core.Path.{◌≡◌, refl, sym, subst}
use mathlib.Core.Bool.{Bool, true, false, ◌&&◌}
use mathlib.Core.Option.{Option, none, some}
use lib.Dec.{T, leb}
use Rattle.rules.specs.Answer.{Answer, ok, refused, ◌>>=◌, need◌or◌then◌, when◌then◌else◌, expect◌or◌, later}
use Rattle.rules.proofs.AnswerLaws.{refused_ok}

module _ (lo hi : ℕ) where
  abbrev pub Number : ℕ → Type 0
  Number n = T (leb lo n && leb n hi)

  abbrev pub Numbered : {A : Type 0} → Answer A → Type 0
  Numbered m = (n p : ℕ) → m ≡ refused n p → Number n

  pub done : {A : Type 0} (a : A) → Numbered (ok a)
  done a n p e = refused_ok (sym e)

  pub refusal : {A : Type 0} (m q : ℕ) → Number m → Numbered {A = A} (refused m q)
  refusal m q h n p e = let z : m ≡ n = cc in subst Number z h

  pub test : {A : Type 0} (t : Bool) (m : ℕ) (x : Answer A) → Number m → Numbered x → Numbered (need t or m then x)
  unfolding need◌or◌then◌
  test true m x h i = i
  test false m x h i = refusal m 0 h

  pub either : {A : Type 0} (t : Bool) (x y : Answer A) → Numbered x → Numbered y → Numbered (when t then x else y)
  unfolding when◌then◌else◌
  either true x y h i = h
  either false x y h i = i

  pub lookup : {A : Type 0} (x : Option A) (m : ℕ) → Number m → Numbered (expect x or m)
  unfolding expect◌or◌
  lookup none m h = refusal m 0 h
  lookup (some a) m h = done a

  pub step : {A B : Type 0} (m : Answer A) (f : A → Answer B) → Numbered m → ((a : A) → m ≡ ok a → Numbered (f a)) → Numbered (m >>= f)
  unfolding ◌>>=◌
  step (ok a) f h i = i a refl
  step (refused m q) f h i = λ n p e. h n p (cc)

  pub on : {A : Type 0} (k : ℕ) (m : Answer A) → Numbered m → Numbered (later k m)
  unfolding later
  on k (ok a) h = done a
  on k (refused m q) h = refusal m (k + q) (h m q refl)
