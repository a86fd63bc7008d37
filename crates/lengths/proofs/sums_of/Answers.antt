-- `lengths::sums_of` meets its contract: the table of each arm passes the test, by the same proof; and no profile is left out. Assumes nothing.
use mathlib.Core.Path.{refl}
use native.Mathlib.Omega.{arith}
use Rattle.rules.specs.Presence.{flags}
use Rattle.rules.specs.Catalogue.{categories}
use Rattle.rules.specs.Entry.{least_length}
use Rattle.lengths.specs.Least.{tested}
use Rattle.lengths.proofs.LeastLaws.{exact_at, exact_none}
use Rattle.lengths.proofs.sums_of.Goals as goal

pub returns-in-0 : goal.returns-in-0
unfolding tested least_length flags categories
returns-in-0 c = exact_at _ c.in-0.is refl

pub returns-in-1 : goal.returns-in-1
unfolding tested least_length flags categories
returns-in-1 c = exact_at _ c.in-1.is refl

pub returns-in-2 : goal.returns-in-2
unfolding tested least_length flags categories
returns-in-2 c = exact_at _ c.in-2.is refl

pub returns-in_default : goal.returns-in_default
unfolding categories
returns-in_default c = exact_none _ (omega arith)
