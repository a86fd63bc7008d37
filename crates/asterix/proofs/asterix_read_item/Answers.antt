-- `asterix_read_item` meets its contract: in each case of `read_item`'s answer the struct is that of the rules' answer, and the output is as `read_item` leaves it. Assumes nothing.
use Rattle.asterix.proofs.StructLaws.{item_read_lem}
use Rattle.asterix.proofs.asterix_read_item.Goals as goal

pub returns-in-Ok : goal.returns-in-Ok
returns-in-Ok c = record { answer = item_read_lem _ c.read_item.ensures.answer c.in-Ok.is; left = c.read_item.ensures.left }

pub returns-in-Err : goal.returns-in-Err
returns-in-Err c = record { answer = rw c.number.ensures (item_read_lem _ c.read_item.ensures.answer c.in-Err.is); left = c.read_item.ensures.left }
