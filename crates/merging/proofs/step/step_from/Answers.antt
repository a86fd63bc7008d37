-- `step::step_from` meets its contract: by what is found in each log, at the offset that the turn is of. Assumes nothing.
use Rattle.blocks.proofs.LoopLaws.{octets_each}
use Rattle.merging.proofs.StepLaws.{at_23a, at_23b, at_end, at_next}
use Rattle.merging.proofs.step.step_from.Goals as goal

pub returns-in_default : goal.returns-in_default
returns-in_default c = λ o t. at_23a c.args.log_a.now c.args.log_b.now c.args.place_a c.args.place_b _ c.seek.ensures o c.in_default.is

pub returns-in_default-seek : goal.returns-in_default-seek
returns-in_default-seek c = λ o t. at_23b c.args.log_a.now c.args.log_b.now c.args.place_a c.args.place_b _ c.seek.ensures o _ c.in-Some.is _ c.seek-2.ensures c.in_default-seek.is

pub returns-in_default-step : goal.returns-in_default-step
returns-in_default-step c = λ o t. at_end c.args.log_a.now c.args.log_b.now c.args.place_a c.args.place_b _ c.seek.ensures o _ c.in-Some.is _ c.seek-2.ensures (octets_each c.args.log_a.now c.type_inv.log_a) (octets_each c.args.log_b.now c.type_inv.log_b) _ c.in-Some-seek.is _ t c.in_default-step.ensures

pub returns : goal.returns
returns c = λ o t. at_next c.args.log_a.now c.args.log_b.now c.args.place_a c.args.place_b _ c.seek.ensures o _ c.in-Some.is _ c.seek-2.ensures (octets_each c.args.log_a.now c.type_inv.log_a) (octets_each c.args.log_b.now c.type_inv.log_b) _ c.in-Some-seek.is _ t _ c.in-Some-step.ensures
