-- `asterix_read_sheet` meets its contract: in each case of `read_sheet`'s answer the struct is that of the rules' answer. Assumes nothing.
use mathlib.Core.Path.{◌∙◌, ap₂}
use mir.Syntax.{w64}
use mir.ValLaws.{to_z-of_z}
use Rattle.asterix.proofs.SheetStructs.{sheet_told_lem}
use borrow.Author.Rules.{rules}
use Rattle.asterix.proofs.sheet.asterix_read_sheet.Goals as goal

pub returns-in-Ok : goal.returns-in-Ok
returns-in-Ok c =
    ap₂ (λ o m. record { number = 0; edition = c.in-Ok.read.edition; place = 0; offset = o; marks = m }) (to_z-of_z w64 c.in-Ok.read.offset (search rules)) c.from.ensures
    ∙ sheet_told_lem _ c.read_sheet.ensures c.in-Ok.is

pub returns-in-Err : goal.returns-in-Err
returns-in-Err c = rw c.number.ensures (sheet_told_lem _ c.read_sheet.ensures c.in-Err.is)
