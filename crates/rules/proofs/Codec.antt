-- The two laws of a reading rule and the bytes that it reads: what may be written is read back, whatever follows; and what is read was written.
-- Assumes nothing.
use Prim.Native.Nat.{ℕ}
use mathlib.Core.Path.{◌≡◌, refl, subst}
use mathlib.Core.Logic.{◌⊎◌, inl, inr}
use mathlib.Core.Bool.{Bool, true, false, ◌&&◌}
use mathlib.Core.List.{List, ◌++◌}
use lib.Dec.{T}
use Rattle.rules.specs.Answer.{ok, Read}
use Rattle.rules.proofs.AnswerLaws.{Octets, octets_right}

-- ---- tests
pub and_inv : (a b : Bool) → T (a && b) → T a × T b
and_inv true b h = (tt, h)
and_inv false b h = absurd h

pub and_in : (a b : Bool) → T a → T b → T (a && b)
and_in true b p q = q
and_in false b p q = absurd p

pub is_true : (b : Bool) → T b → b ≡ true
is_true true h = refl
is_true false h = absurd h

pub true_is : (b : Bool) → b ≡ true → T b
true_is b h = rw h tt

pub decide : (b : Bool) → (b ≡ true) ⊎ (b ≡ false)
decide true = inl refl
decide false = inr refl

-- ---- THE TWO LAWS
pub record Codec {A : Type 0} (Good : A → Type 0) (bytes : A → List ℕ) (r : Read A) : Type 0 where
  pub back : (a : A) (rest : List ℕ) → Good a → r (bytes a ++ rest) ≡ ok (a, rest)
  pub forth : (a : A) (bs rest : List ℕ) → Octets bs → r bs ≡ ok (a, rest) → Good a × (bs ≡ bytes a ++ rest)

pub after : (bs x rest : List ℕ) → bs ≡ x ++ rest → Octets bs → Octets rest
after bs x rest e b = octets_right x rest (subst Octets e b)
