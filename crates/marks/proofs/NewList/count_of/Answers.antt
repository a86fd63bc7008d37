-- `marks::NewList::count_of` meets its contract. Assumes nothing.
use native.Mathlib.Omega.{arith}
use Rattle.marks.proofs.NumberLaws.{counting_all, counting_more}
use Rattle.marks.proofs.NewList.count_of.Goals as goal

pub loop-j-preserved : goal.loop-j-preserved
loop-j-preserved c =
    counting_more _ _ _ _ _ _ _ c.loop-j.invariant (omega (arith, c.loop-j-test.true, c.count-j-end.ensures.0)) c.mark.ensures c.from-total.ensures

pub returns-clause-is : goal.returns-clause-is
returns-clause-is c =
    counting_all _ _ _ _ _ c.loop-j.invariant (omega (arith, c.loop-j-test.false, c.count-j-end.ensures.0))
