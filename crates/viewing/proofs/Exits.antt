-- What the code answers where `?` leaves it, and what a call answered before its fault was moved. Assumes nothing.
use mathlib.Core.Path.{◌≡◌, refl, sym, ap, ap₂, ◌∙◌}
use Rattle.std.specs.Prelude.{ℕ, ◌+◌, Result, Ok, Err}
use Rattle.std.specs.Result.{IsErrAnd}
use Rattle.rules.specs.Answer.{Answer, ok, refused, later}
use Rattle.rules.specs.declared.faults.Fault.{Fault}
use Rattle.rules.specs.declared.faults.Refusal.{Refusal}
use Rattle.rules.specs.Told.{number_of, refusal_of, told}
use Rattle.rules.proofs.AnswerLaws.{refused_ok}
use Rattle.viewing.specs.Read.{begun}

pub from_start : {A : Type 0} (x : Result A Refusal) (f : Fault) → IsErrAnd x (λ r. (r.fault ≡ f) × (r.place ≡ 0)) → told x ≡ refused (number_of f) 0
from_start (Ok a) f h = absurd h
from_start (Err r) f h = ap₂ refused (ap number_of h.0) h.1

pub from_same : {A : Type 0} (x : Result A Refusal) (r : Refusal) → IsErrAnd x (λ s. s ≡ r) → told x ≡ refusal_of r
from_same (Ok a) r h = absurd h
from_same (Err s) r h = ap refusal_of h

pub from_fault : {A : Type 0} (x : Result A Fault) (f : Fault) → IsErrAnd x (λ g. g ≡ f) → begun x ≡ refused (number_of f) 0
from_fault (Ok a) f h = absurd h
from_fault (Err g) f h = ap (λ y. refused (number_of y) 0) h

-- a fault at a place
pub told_at : {A : Type 0} (r : Refusal) (f : Fault) (place : ℕ) → r.fault ≡ f → r.place ≡ place → refusal_of {A = A} r ≡ refused (number_of f) place
told_at r f place h g = ap₂ refused (ap number_of h) g

same_refusal : {A : Type 0} {k r j s : ℕ} → ◌≡◌ {A = Answer A} (refused k r) (refused j s) → (k ≡ j) × (r ≡ s)
same_refusal h = (cc, cc)

-- where a moved answer is one of a value, so was the first; where it is a refusal, the first was one, as far before
pub later_ok : {A : Type 0} (by : ℕ) (x y : Result A Refusal) (a : A) → told y ≡ later by (told x) → y ≡ Ok a → ok a ≡ told x
unfolding later
later_ok by (Ok b) y a h g = ap told (sym g) ∙ h
later_ok by (Err r) y a h g = refused_ok (sym (ap told (sym g) ∙ h))

pub later_err : {A : Type 0} (B : Type 0) (by : ℕ) (x y : Result A Refusal) (s : Refusal) → told y ≡ later by (told x) → y ≡ Err s
    → (k p : ℕ) × (refused k p ≡ told x) × (refusal_of {A = B} s ≡ refused k (by + p))
unfolding later
later_err B by (Ok b) y s h g = refused_ok (ap told (sym g) ∙ h)
later_err B by (Err r) y s h g = let (e, f) = same_refusal (ap told (sym g) ∙ h) in (number_of r.fault, r.place, refl, ap₂ refused e f)
