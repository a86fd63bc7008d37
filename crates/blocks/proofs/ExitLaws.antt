-- What a function answers where a `?` leaves it, in the rules' words, of a value that is said by a function. Assumes nothing.
use Rattle.std.specs.Prelude.{Result, Ok, Err}
use Rattle.std.specs.Result.{IsErrAnd}
use mathlib.Core.Path.{◌≡◌, ap}
use Rattle.rules.specs.Answer.{refused}
use Rattle.rules.specs.declared.faults.Fault.{Fault}
use Rattle.rules.specs.declared.faults.Refusal.{Refusal}
use Rattle.rules.specs.Told.{number_of, refusal_of, told_as, begun_as}
use Rattle.rules.proofs.ToldLaws.{refused_as}

-- the callee's own error
pub exit_is : {T E : Type 0} (r : Result T E) (e : E) → IsErrAnd r (λ y. y ≡ e) → r ≡ Err e
exit_is (Ok a) e h = absurd h
exit_is (Err y) e h = ap Err h

pub told_as-exit : {T B : Type 0} (f : T → B) (r : Result T Refusal) (e : Refusal) → IsErrAnd r (λ y. y ≡ e) → told_as f r ≡ refusal_of e
told_as-exit f r e h = ap (told_as f) (exit_is r e h)

pub begun_as-exit : {T B : Type 0} (f : T → B) (r : Result T Fault) (e : Fault) → IsErrAnd r (λ y. y ≡ e) → begun_as f r ≡ refused (number_of e) 0
begun_as-exit f r e h = ap (begun_as f) (exit_is r e h)

-- a fault that becomes a refusal at the start
pub told_as-from : {T B : Type 0} (f : T → B) (r : Result T Refusal) (e : Fault) → IsErrAnd r (λ y. (y.fault ≡ e) × (y.place ≡ 0)) → told_as f r ≡ refused (number_of e) 0
told_as-from f (Ok a) e h = absurd h
told_as-from f (Err y) e h = refused_as y e 0 h.0 h.1
