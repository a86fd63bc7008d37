-- `heads::front_head` meets its contract: what is refused before is refused, and then LEN is right or it is not. Assumes nothing.
use mathlib.Core.Path.{sym, ◌∙◌}
use lib.Dec.{leb}
use borrow.Author.Tests.{le-leb, lt-leb}
use Rattle.blocks.proofs.ExitLaws.{begun_as-exit}
use Rattle.blocks.proofs.HeadLaws.{by_no_head, by_bad_len, by_head}
use Rattle.blocks.proofs.heads.front_head.Goals as goal

pub returns-in_err-head : goal.returns-in_err-head
returns-in_err-head c = begun_as-exit _ _ _ c.from_residual.ensures.1 ∙ sym (by_no_head leb _ _ _ (sym c.in_err-head.ensures))

pub returns-then-part-head : goal.returns-then-part-head
returns-then-part-head c = sym (by_bad_len leb _ _ (sym c.in_ok-head.ensures) (lt-leb _ _ c.if-part-head.true))

pub returns : goal.returns
returns c = sym (by_head leb _ _ (sym c.in_ok-head.ensures) (le-leb _ _ c.if-part-head.false))
