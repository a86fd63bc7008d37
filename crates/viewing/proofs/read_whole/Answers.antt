-- `viewing::read_whole` meets its contract. Assumes nothing.
use mathlib.Core.Path.{◌∙◌}
use Rattle.viewing.proofs.Exits.{from_same}
use Rattle.viewing.proofs.ListLaws.{whole_marks, whole_refused}
use Rattle.viewing.proofs.read_whole.Goals as goal

pub returns-in_err-tally : goal.returns-in_err-tally
returns-in_err-tally c = from_same _ _ c.from_residual.ensures.1 ∙ whole_refused _ c.args.key _ _ _ c.in_err-tally.ensures

pub returns : goal.returns
returns c = whole_marks _ c.args.key _ _ c.in_ok-tally.ensures
