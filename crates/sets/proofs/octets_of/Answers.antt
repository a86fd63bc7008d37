-- `sets::octets_of` meets its contract: at each turn, counting on from what is left gives what the whole gives. Assumes nothing.
use Rattle.sets.proofs.FspecLaws.{count_next, count_end, count_past}
use Rattle.sets.proofs.octets_of.Goals as goal

pub returns-then-left-eq0 : goal.returns-then-left-eq0
returns-then-left-eq0 c = count_end _ _ _ c.loop-n.invariant c.if-left-eq0.true

pub loop-n-preserved : goal.loop-n-preserved
loop-n-preserved c = count_next _ _ _ c.loop-n.invariant _ c.loop-n-test.true c.if-left-eq0.false c.weight-left.ensures

pub returns : goal.returns
returns c = count_past _ _ _ c.loop-n.invariant c.loop-n-test.false
