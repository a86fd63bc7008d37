-- `record::clock_at` meets its contract: three octets, the higher first. Assumes nothing.
use Rattle.measuring.proofs.EndLaws.{clock_past, clock_there}
use Rattle.measuring.proofs.record.clock_at.Goals as goal

pub returns-then-part-at : goal.returns-then-part-at
returns-then-part-at c = clock_past _ _ c.if-part-at.true

pub returns : goal.returns
returns c = clock_there _ _ c.if-part-at.false c.wide.ensures.0 c.wide-2.ensures.0 c.wide-3.ensures.0
