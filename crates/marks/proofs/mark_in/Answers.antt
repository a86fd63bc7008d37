-- `marks::mark_in` meets its contract. Assumes nothing.
use Rattle.marks.proofs.MarkSteps.{mark_is}
use Rattle.marks.proofs.mark_in.Goals as goal

pub returns : goal.returns
returns c = mark_is _ _ _ _ _ c.size_of-n.ensures.0 c.log_in.ensures c.number_4.ensures
