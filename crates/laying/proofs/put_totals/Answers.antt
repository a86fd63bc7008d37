-- `laying::put_totals` meets its contract. Assumes nothing.
use borrow.Author.Rules.{rules}
use Rattle.laying.proofs.PutLaws.{totalled_all, totalled_more}
use Rattle.laying.proofs.put_totals.Goals as goal

pub loop-j-preserved : goal.loop-j-preserved
loop-j-preserved c =
    totalled_more _ _ _ _ _ _ _ _ _ c.loop-j.invariant c.loop-j-test.true c.from.ensures c.count_of.ensures.is (search rules) c.to_be_bytes.ensures c.put.ensures

pub returns : goal.returns
returns c = totalled_all _ _ _ _ _ _ c.put_head.ensures c.loop-j.invariant (search rules)
