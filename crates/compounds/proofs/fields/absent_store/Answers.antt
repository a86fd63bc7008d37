-- `compounds::fields::absent_store` meets its contract: what is left to store makes of the output what all makes. Assumes nothing.
use mathlib.Core.Path.{refl}
use Rattle.compounds.proofs.FieldLaws.{absent_begun, absent_turn, absent_ended}
use Rattle.compounds.proofs.fields.absent_store.Goals as goal

pub loop-at-init : goal.loop-at-init
loop-at-init c = absent_begun _ _ _

pub loop-at-preserved : goal.loop-at-preserved
loop-at-preserved c = absent_turn _ _ _ _ _ c.loop-at.invariant c.loop-at-test.true

pub returns : goal.returns
returns c = (refl, absent_ended _ _ _ _ _ c.loop-at.invariant c.loop-at-test.false)
