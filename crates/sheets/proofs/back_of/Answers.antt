-- `sheets::back_of` meets its contract. Assumes nothing.
use mathlib.Core.Path.{◌∙◌}
use Rattle.rules.specs.SheetForm.{form}
use Rattle.sheets.proofs.ChangeSteps.{back_else, back_same}
use Rattle.sheets.proofs.back_of.Goals as goal

pub returns-then-edition-ge-LEAST : goal.returns-then-edition-ge-LEAST
returns-then-edition-ge-LEAST c = back_same form c.args.edition c.if-edition-ge-LEAST.true

pub returns : goal.returns
returns c = c.unwrap_or.ensures ∙ back_else form c.args.edition _ c.if-edition-ge-LEAST.false c.edition_of.ensures
