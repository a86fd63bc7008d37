-- `heads::cursor_at` meets its contract, by the block that is found. Assumes nothing.
use mathlib.Core.Path.{◌∙◌}
use Rattle.merging.proofs.HeadLaws.{cursor_found}
use Rattle.merging.proofs.heads.cursor_at.Goals as goal

pub returns-in-Ok : goal.returns-in-Ok
returns-in-Ok c = cursor_found _ _ _ c.in-Ok.ensures

pub returns-in-Err : goal.returns-in-Err
returns-in-Err c = c.last.ensures ∙ cursor_found _ _ _ c.in-Err.ensures
