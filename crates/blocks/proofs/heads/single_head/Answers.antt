-- `heads::single_head` meets its contract: what is refused before is refused, and then LEN is right or it is not. Assumes nothing.
use mathlib.Core.Path.{sym, ◌∙◌}
use lib.Dec.{eqb}
use borrow.Author.Tests.{eq-eqb, ne_eqb}
use Rattle.blocks.proofs.ExitLaws.{begun_as-exit}
use Rattle.blocks.proofs.HeadLaws.{by_no_head, by_bad_len, by_head}
use Rattle.blocks.proofs.heads.single_head.Goals as goal

pub returns-in_err-head : goal.returns-in_err-head
returns-in_err-head c = begun_as-exit _ _ _ c.from_residual.ensures.1 ∙ sym (by_no_head eqb _ _ _ (sym c.in_err-head.ensures))

pub returns-then-head-block : goal.returns-then-head-block
returns-then-head-block c = sym (by_bad_len eqb _ _ (sym c.in_ok-head.ensures) (ne_eqb _ _ c.if-head-block.true))

pub returns : goal.returns
returns c = sym (by_head eqb _ _ (sym c.in_ok-head.ensures) (eq-eqb _ _ c.if-head-block.false))
