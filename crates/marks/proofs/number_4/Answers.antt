-- `marks::number_4` meets its contract. Assumes nothing.
use mathlib.Core.Path.{◌∙◌}
use Rattle.marks.proofs.MarkSteps.{four_number}
use Rattle.marks.proofs.number_4.Goals as goal

pub returns : goal.returns
returns c = c.from_be_bytes.ensures ∙ four_number c.args.bs.now
