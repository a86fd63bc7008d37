-- `asterix_empty_sheet` meets its contract: the struct is that of the answer, and the output is as `empty_sheet` leaves it. Assumes nothing.
use Rattle.asterix.proofs.SheetStructs.{sheet_written_lem}
use Rattle.asterix.proofs.sheet.asterix_empty_sheet.Goals as goal

pub returns : goal.returns
returns c = record { answer = sheet_written_lem _ _ _ c.from.ensures c.empty_sheet.ensures.value; left = c.empty_sheet.ensures.out_after }
