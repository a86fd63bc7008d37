-- `asterix_write_item` meets its contract: in each case of `write_item`'s answer the struct is that of the rules' answer, and the output is as `write_item` leaves it. Assumes nothing.
use Rattle.asterix.proofs.StructLaws.{item_written_lem}
use Rattle.asterix.proofs.asterix_write_item.Goals as goal

pub returns-in-Ok : goal.returns-in-Ok
returns-in-Ok c = record { answer = item_written_lem _ c.write_item.ensures.answer c.in-Ok.is; left = c.write_item.ensures.left }

pub returns-in-Err : goal.returns-in-Err
returns-in-Err c = record { answer = rw c.number.ensures (item_written_lem _ c.write_item.ensures.answer c.in-Err.is); left = c.write_item.ensures.left }
