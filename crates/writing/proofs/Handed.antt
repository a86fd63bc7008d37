-- What an `unwrap` asks; a rule that ends with a value. Assumes nothing.
use Prim.Native.Nat.{ℕ}
use mathlib.Core.Path.{◌≡◌, refl}
use Rattle.std.specs.Prelude.{Result, Ok, Err, IsOk}
use Rattle.rules.specs.Answer.{Answer, ok, refused, ◌>>=◌}
use Rattle.rules.proofs.AnswerLaws.{refused_ok}
use Rattle.rules.specs.declared.faults.Fault.{Fault}
use Rattle.rules.specs.declared.faults.Refusal.{Refusal}
use Rattle.rules.specs.Told.{told, begun_as}

-- what answers a rule that passes
pub told_passes : {A : Type 0} (x : Result A Refusal) {m : Answer A} → told x ≡ m → ((n p : ℕ) → refused n p ≡ m → IsOk x) → IsOk x
told_passes (Ok a) e k = refl
told_passes (Err r) e k = k _ _ e

-- the same of what can be refused at its start alone
pub passes : {A B : Type 0} (f : A → B) (x : Result A Fault) {m : Answer B} → begun_as f x ≡ m → ((n p : ℕ) → refused n p ≡ m → IsOk x) → IsOk x
passes f (Ok a) e k = refl
passes f (Err r) e k = k _ _ e

-- what a rule that ends with a value refuses, its first steps refuse
pub refused_before : {A B : Type 0} (f : A → B) (m : Answer A) {n p : ℕ} → refused n p ≡ (m >>= (λ a. ok (f a))) → m ≡ refused n p
unfolding ◌>>=◌
refused_before f (ok a) e = refused_ok e
refused_before f (refused x y) e = cc
