-- A refusal of a recording that is fed: what a `?` hands on, and what the code keeps of a piece's own. Assumes nothing.
use Rattle.std.specs.Prelude.{ℕ, Result, Ok, Err}
use Rattle.std.specs.Result.{IsErrAnd}
use mathlib.Core.Path.{◌≡◌, ap}
use Rattle.rules.specs.Answer.{Answer, refused}
use Rattle.blocks.proofs.ExitLaws.{exit_is}
use Rattle.recordings.specs.declared.Refused.{Refused}
use Rattle.recordings.specs.Answers.{kept_as}

pub kept_exit : {T B : Type 0} (f : T → B) (r : Result T Refused) (e : Refused) → IsErrAnd r (λ y. y ≡ e) → kept_as f r ≡ refused e.number e.place
kept_exit f r e h = ap (kept_as f) (exit_is r e h)

-- a fault is kept by its number
pub by_number : {A : Type 0} (n m p : ℕ) → n ≡ m → ◌≡◌ {A = Answer A} (refused n p) (refused m p)
by_number n m p e = ap (λ k. refused k p) e
