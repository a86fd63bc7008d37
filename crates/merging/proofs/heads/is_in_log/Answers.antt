-- `heads::is_in_log` meets its contract. Assumes nothing.
use Rattle.merging.proofs.HeadLaws.{out_low, out_past, in_high}
use Rattle.merging.proofs.heads.is_in_log.Goals as goal

pub returns-then-cursor : goal.returns-then-cursor
returns-then-cursor c = out_low _ _ c.if-cursor.true

pub returns-then-cursor-2 : goal.returns-then-cursor-2
returns-then-cursor-2 c = out_past _ _ c.if-cursor.false c.if-cursor-2.true

pub returns : goal.returns
returns c = in_high _ _ c.if-cursor.false c.if-cursor-2.false
