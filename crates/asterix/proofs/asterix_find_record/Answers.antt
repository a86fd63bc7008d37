-- `asterix_find_record` meets its contract: in each case of `locate_record`'s answer the struct is that of the rules' answer. Assumes nothing.
use Rattle.asterix.proofs.StructLaws.{record_found_lem}
use Rattle.asterix.proofs.asterix_find_record.Goals as goal

pub returns-in-Ok : goal.returns-in-Ok
returns-in-Ok c = record_found_lem _ c.locate_record.ensures c.in-Ok.is

pub returns-in-Err : goal.returns-in-Err
returns-in-Err c = rw c.number.ensures (record_found_lem _ c.locate_record.ensures c.in-Err.is)
