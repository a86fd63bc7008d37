-- `sheets::read_sheet` meets its contract. Assumes nothing.
use mathlib.Core.Path.{◌∙◌, ap}
use borrow.Author.Rules.{rules}
use mir.Syntax.{w64}
use mir.ValLaws.{to_z-of_z}
use Rattle.viewing.proofs.Exits.{from_same}
use Rattle.sheets.proofs.ChangeSteps.{read_by, read_refused, read_told}
use Rattle.sheets.proofs.read_sheet.Goals as goal

pub returns-in_err-view : goal.returns-in_err-view
returns-in_err-view c = from_same _ _ c.from_residual.ensures.1 ∙ read_refused _ 0 _ _ c.in_err-view.ensures

pub returns : goal.returns
returns c = ap (read_by c.in_ok-view.view) (to_z-of_z w64 c.in_ok-view.view.offset (search rules)) ∙ read_told _ 0 _ c.in_ok-view.ensures
