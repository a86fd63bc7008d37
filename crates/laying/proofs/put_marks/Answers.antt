-- `laying::put_marks` meets its contract. Assumes nothing.
use Rattle.laying.proofs.PutLaws.{laid_all, laid_more}
use Rattle.laying.proofs.put_marks.Goals as goal

pub loop-j-preserved : goal.loop-j-preserved
loop-j-preserved c = laid_more _ _ _ _ _ _ _ _ _ c.loop-j.invariant c.size_of-size.ensures.0 _ _ c.loop-j-test.true c.mark.ensures c.put_mark.ensures

pub returns : goal.returns
returns c = laid_all _ _ _ _ _ _ _ _ _ c.loop-j.invariant c.size_of-size.ensures.0 c.loop-j-test.false
