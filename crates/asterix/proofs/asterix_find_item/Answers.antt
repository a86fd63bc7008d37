-- `asterix_find_item` meets its contract: in each case of `locate_item`'s answer the struct is that of the rules' answer. Assumes nothing.
use Rattle.asterix.proofs.StructLaws.{item_found_lem}
use Rattle.asterix.proofs.asterix_find_item.Goals as goal

pub returns-in-Ok : goal.returns-in-Ok
returns-in-Ok c = item_found_lem _ c.locate_item.ensures c.in-Ok.is

pub returns-in-Err : goal.returns-in-Err
returns-in-Err c = rw c.number.ensures (item_found_lem _ c.locate_item.ensures c.in-Err.is)
