-- `asterix_write_sheet` meets its contract: the struct is that of the answer, and the output is as `write_sheet` leaves it. Assumes nothing.
use mir.Syntax.{w64}
use mir.ValLaws.{to_z-of_z}
use Rattle.asterix.proofs.SheetStructs.{offset_written}
use Rattle.asterix.proofs.sheet.asterix_write_sheet.Goals as goal

pub returns : goal.returns
returns c =
    let told = offset_written _ _ c.args.marks.now c.args.out.now _ _ _ (to_z-of_z w64 c.args.offset c.ranges.offset) c.from.ensures (c.write_sheet.ensures.value, c.write_sheet.ensures.out_after) in
    record { answer = told.0; left = told.1 }
