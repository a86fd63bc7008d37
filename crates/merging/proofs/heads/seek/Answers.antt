-- `heads::seek` meets its contract. The loop's invariant: what is sought among the records still to come is what is sought among all. The measure is how
-- many are still to come. Assumes nothing.
use mathlib.Core.Path.{sym, ◌∙◌}
use native.Mathlib.Omega.{arith}
use Rattle.blocks.proofs.LoopLaws.{octets_each}
use Rattle.merging.proofs.HeadLaws.{head_fits}
use Rattle.merging.proofs.SeekLaws.{seek_holds, seek_hit, seek_more, seek_last, seek_miss, fewer}
use Rattle.merging.proofs.heads.seek.Goals as goal

pub loop-at-init : goal.loop-at-init
loop-at-init c = seek_holds _ _ _ _ (octets_each c.args.recording.now c.type_inv.recording) c.start.ensures c.stand-at.ensures

pub returns-then-at-place : goal.returns-then-at-place
returns-then-at-place c = seek_hit _ _ _ c.loop-at.invariant (sym c.is_head.ensures ∙ c.loop-at-test.true) c.if-at-place.true

pub behind-next-requires : goal.behind-next-requires
behind-next-requires c = omega (arith, head_fits _ _ (sym c.is_head.ensures ∙ c.loop-at-test.true))

pub loop-at-smaller : goal.loop-at-smaller
loop-at-smaller c = fewer _ _ _ c.loop-at.invariant _ _ (sym c.is_head.ensures ∙ c.loop-at-test.true) c.behind-next.ensures c.stand-at-in-loop-at.ensures

pub loop-at-preserved : goal.loop-at-preserved
loop-at-preserved c = seek_more _ _ _ c.loop-at.invariant _ _ (sym c.is_head.ensures ∙ c.loop-at-test.true) c.if-at-place.false c.behind-next.ensures c.stand-at-in-loop-at.ensures

pub returns-then-place-recording : goal.returns-then-place-recording
returns-then-place-recording c = seek_last _ _ _ c.loop-at.invariant (sym c.is_head.ensures ∙ c.loop-at-test.false) c.if-place-recording.true

pub returns : goal.returns
returns c = seek_miss _ _ _ c.loop-at.invariant (sym c.is_head.ensures ∙ c.loop-at-test.false) c.if-place-recording.false
