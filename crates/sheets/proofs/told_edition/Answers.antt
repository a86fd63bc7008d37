-- `sheets::told_edition` meets its contract. Assumes nothing.
use Rattle.rules.specs.SheetForm.{form}
use Rattle.sheets.proofs.ChangeSteps.{told_high, told_low}
use Rattle.sheets.proofs.told_edition.Goals as goal

pub returns-then-byte-lt-LEAST : goal.returns-then-byte-lt-LEAST
returns-then-byte-lt-LEAST c = told_low form _ c.if-byte-lt-LEAST.true

pub returns : goal.returns
returns c = told_high form _ _ c.if-byte-lt-LEAST.false c.edition_of.ensures
