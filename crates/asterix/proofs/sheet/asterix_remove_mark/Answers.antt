-- `asterix_remove_mark` meets its contract: the struct is that of the answer, and the output is as `remove_mark` leaves it. Assumes nothing.
use Rattle.asterix.proofs.SheetStructs.{sheet_written_lem}
use Rattle.asterix.proofs.sheet.asterix_remove_mark.Goals as goal

pub returns : goal.returns
returns c = record { answer = sheet_written_lem _ _ _ c.from.ensures c.remove_mark.ensures.value; left = c.remove_mark.ensures.out_after }
