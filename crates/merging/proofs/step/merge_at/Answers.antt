-- `step::merge_at` meets its contract: by how a run of the two logs begins. Assumes nothing.
use mathlib.Core.Path.{ap, ◌∙◌}
use mir.Syntax.{w64}
use mir.ValLaws.{to_z-of_z}
use Rattle.blocks.proofs.LoopLaws.{octets_each}
use Rattle.merging.specs.Run.{begin_of}
use Rattle.merging.proofs.StepLaws.{at_closed, at_ready}
use Rattle.merging.proofs.step.merge_at.Goals as goal

pub returns-in-Ok : goal.returns-in-Ok
returns-in-Ok c = at_ready c.args.log_a.now c.args.log_b.now c.args.place_a c.args.place_b c.args.offset (octets_each c.args.log_a.now c.type_inv.log_a) (octets_each c.args.log_b.now c.type_inv.log_b) _ (c.in-Ok.ensures ∙ ap (begin_of c.args.log_a.now c.args.log_b.now) (to_z-of_z w64 c.args.offset c.ranges.offset)) _ c.step_from.ensures

pub returns-in-Err : goal.returns-in-Err
returns-in-Err c = at_closed c.args.log_a.now c.args.log_b.now c.args.place_a c.args.place_b c.args.offset (octets_each c.args.log_a.now c.type_inv.log_a) (octets_each c.args.log_b.now c.type_inv.log_b) _ (c.in-Err.ensures ∙ ap (begin_of c.args.log_a.now c.args.log_b.now) (to_z-of_z w64 c.args.offset c.ranges.offset))
