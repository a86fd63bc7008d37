-- `writing::write::is_absent` meets its contract: one number has the bits of `ABSENT`. Assumes nothing.
use Rattle.writing.proofs.AbsentLaws.{absent_bits}
use Rattle.writing.proofs.write.is_absent.Goals as goal

pub returns : goal.returns
returns c = absent_bits _ c.ranges.value
