-- `laying::put_last` meets its contract. Assumes nothing.
use Rattle.laying.proofs.LayLaws.{last_none, last_put}
use Rattle.laying.proofs.put_last.Goals as goal

pub returns-then-totals : goal.returns-then-totals
returns-then-totals c = last_put _ _ _ _ _ c.if-totals.true c.put_totals.ensures

pub returns-else-totals : goal.returns-else-totals
returns-else-totals c = last_none _ _ _ _ c.if-totals.false
