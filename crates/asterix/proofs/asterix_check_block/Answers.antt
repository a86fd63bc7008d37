-- `asterix_check_block` meets its contract: in each case of `check_block`'s answer the struct is that of the rules' answer. Assumes nothing.
use Rattle.asterix.specs.Answers.{block_checked}
use Rattle.asterix.proofs.StructLaws.{block_checked_lem}
use Rattle.asterix.proofs.asterix_check_block.Goals as goal

pub returns-in-Ok : goal.returns-in-Ok
unfolding block_checked
returns-in-Ok c = block_checked_lem _ c.check_block.ensures c.in-Ok.is

pub returns-in-Err : goal.returns-in-Err
unfolding block_checked
returns-in-Err c = rw c.number.ensures (block_checked_lem _ c.check_block.ensures c.in-Err.is)
