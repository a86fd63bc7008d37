-- `asterix_add_mark` meets its contract: the struct is that of the answer, and the output is as `add_mark` leaves it. Assumes nothing.
use Rattle.asterix.proofs.SheetStructs.{sheet_written_lem}
use Rattle.asterix.proofs.sheet.asterix_add_mark.Goals as goal

pub returns : goal.returns
returns c = record { answer = sheet_written_lem _ _ _ c.from.ensures c.add_mark.ensures.value; left = c.add_mark.ensures.out_after }
