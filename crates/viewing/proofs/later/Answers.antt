-- `viewing::later` meets its contract. Assumes nothing.
use Rattle.rules.specs.Answer.{later}
use Rattle.viewing.proofs.later.Goals as goal

pub returns-in-Ok : goal.returns-in-Ok
unfolding later
returns-in-Ok g c = rw c.in-Ok.is

pub returns-in-Err : goal.returns-in-Err
unfolding later
returns-in-Err g c = rw (c.later.ensures, c.in-Err.is)
