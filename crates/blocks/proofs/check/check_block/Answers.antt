-- `check::check_block` meets its contract: checking a block is opening it. Assumes nothing.
use mathlib.Core.Path.{sym, ◌∙◌}
use Rattle.rules.proofs.ToldLaws.{handed}
use Rattle.blocks.proofs.HeadLaws.{check_stop, check_all}
use Rattle.blocks.proofs.check.check_block.Goals as goal

pub returns-in_err-opened : goal.returns-in_err-opened
returns-in_err-opened c = handed _ _ c.from_residual.ensures.1 ∙ sym (check_stop _ _ _ (sym c.in_err-opened.ensures))

pub returns : goal.returns
returns c = sym (check_all _ _ (sym c.in_ok-opened.ensures))
