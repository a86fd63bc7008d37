-- `record::items_from` meets its contract: at each turn, the FRNs that are left end where the whole set does. Assumes nothing.
use mathlib.Core.Path.{ap, ◌∙◌}
use native.Mathlib.Omega.{arith}
use Rattle.sets.proofs.SetLaws.{octets_all}
use Rattle.measuring.proofs.EndLaws.{stand_first, stand_next, stand_near, stand_end}
use Rattle.measuring.proofs.record.items_from.Goals as goal

pub loop-frn-init : goal.loop-frn-init
loop-frn-init c = stand_first _ _ _ _ c.requires.0 (ap (λ s. s.left) c.into_iter-frn-iterator.ensures.into_iter_gives ∙ c.frns-frn-items.ensures)

pub overflow_add-at : goal.overflow_add-at
overflow_add-at c =
    record { fits = omega (arith, stand_near _ _ _ _ _ _ (stand_next _ _ _ _ _ _ c.loop-frn.invariant _ _ c.in-Some.ensures.steps c.octets_at-at.ensures) (octets_all c.args.part.now c.type_inv.part), c.requires.1) }

pub loop-frn-preserved : goal.loop-frn-preserved
loop-frn-preserved c = stand_next _ _ _ _ _ _ c.loop-frn.invariant _ _ c.in-Some.ensures.steps c.octets_at-at.ensures

pub returns : goal.returns
returns c = stand_end _ _ _ _ _ _ c.loop-frn.invariant c.in-None.ensures.steps.0
