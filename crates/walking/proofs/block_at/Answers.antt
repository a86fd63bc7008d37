-- `block_at` meets its contract: the cursor's own block, or what `open_at` answers. Assumes nothing.
use mathlib.Core.Path.{◌∙◌}
use Rattle.walking.proofs.StepLaws.{block_here, block_open}
use Rattle.walking.proofs.block_at.Goals as goal

pub returns-then-cursor : goal.returns-then-cursor
returns-then-cursor c = block_here _ _ c.if-cursor.true

pub returns : goal.returns
returns c = c.open_at.ensures ∙ block_open _ _ c.if-cursor.false
