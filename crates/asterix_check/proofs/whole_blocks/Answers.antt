-- `whole_blocks` meets its contract. The loop's invariant: the whole blocks of what is left, and what was cut off, are those of all. Assumes nothing.
use mathlib.Core.Path.{◌∙◌}
use Rattle.rules.proofs.AnswerLaws.{to_end}
use Rattle.asterix_check.proofs.WholeLaws.{cut_again, cut_less, cut_end}
use Rattle.asterix_check.proofs.whole_blocks.Goals as goal

pub loop-next-smaller : goal.loop-next-smaller
loop-next-smaller c =
    cut_less c.loop-next.rest.now _ _ c.block_length.ensures c.in-Some.ensures.lookup.0.0 (c.in-Some.ensures.lookup.0.2 ∙ to_end c.loop-next.rest.now _)

pub loop-next-preserved : goal.loop-next-preserved
loop-next-preserved c =
    cut_again _ c.loop-next.rest.now _ _ c.loop-next.invariant c.block_length.ensures c.in-Some.ensures.lookup.0.0
    (c.in-Some.ensures.lookup.0.2 ∙ to_end c.loop-next.rest.now _)

pub returns : goal.returns
returns c = cut_end _ _ _ c.loop-next.invariant c.block_length.ensures c.in_default.ensures.lookup.0
