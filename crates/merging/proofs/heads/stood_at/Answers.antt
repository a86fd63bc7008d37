-- `heads::stood_at` meets its contract: the part that is measured is the block's from the cursor on. Assumes nothing.
use mathlib.Core.Path.{◌∙◌}
use Rattle.merging.proofs.HeadLaws.{stood_is}
use Rattle.merging.proofs.heads.stood_at.Goals as goal

pub returns : goal.returns
returns c = c.stood.ensures ∙ stood_is _ _ _ c.measure.ensures
