-- What each function of this crate answers, in the words of the rules. Assumes nothing.
use Rattle.std.specs.Prelude.{ℕ, Option, Some, None, Result}
use Rattle.rules.specs.Answer.{Answer, ok, refused}
use Rattle.rules.specs.Told.{begun_as}
use Rattle.rules.specs.declared.faults.Fault.{Fault}
use Rattle.sets.specs.declared.Fspec.{Fspec}
use Rattle.sets.specs.declared.messages.MessageRow.{MessageRow}

-- ---- the FSPEC

-- a set, and how many octets its FSPEC has
abbrev pub set_of : Result Fspec Fault → Answer (ℕ × ℕ)
set_of = begun_as (λ s. (s.set.bits, s.octets))

-- ---- what the message type asks for

-- the sets of a message type: what it must have, and what it must or may have
abbrev pub row_of : Option MessageRow → Answer (ℕ × ℕ)
row_of (Some r) = ok (r.must.bits, r.may.bits)
row_of None = refused 13 0

abbrev pub judged_of : Result (Unit {0}) Fault → Answer (Unit {0})
judged_of = begun_as (λ u. u)
