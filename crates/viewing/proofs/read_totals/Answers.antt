-- `viewing::read_totals` meets its contract. Assumes nothing.
use Rattle.viewing.proofs.TotalLaws.{totals_none, totals_some}
use Rattle.viewing.proofs.read_totals.Goals as goal

pub returns-then-totals : goal.returns-then-totals
returns-then-totals c = totals_some _ _ _ _ c.if-totals.true c.read_total.ensures

pub returns-else-totals : goal.returns-else-totals
returns-else-totals c = totals_none _ _ _ c.if-totals.false
