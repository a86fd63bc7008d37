-- `run::begin_merge` meets its contract: each way out is a case of the rule, in its order. Assumes nothing.
use mathlib.Core.Path.{sym, ap, ◌∙◌}
use mir.Syntax.{w64}
use mir.ValLaws.{to_z-of_z}
use Rattle.rules.specs.Merge.{mod_day, in_range}
use Rattle.merging.proofs.MoveLaws.{begin_a, begin_b, begin_22, begin_ready}
use Rattle.merging.proofs.run.begin_merge.Goals as goal

pub returns-in-Err : goal.returns-in-Err
returns-in-Err c = begin_a _ _ _ _ _ c.in-Err.ensures

pub returns-in-Err-check_recording : goal.returns-in-Err-check_recording
returns-in-Err-check_recording c = begin_b _ _ _ _ c.in_default.ensures _ _ c.in-Err-check_recording.ensures

pub returns-then-not-in_range : goal.returns-then-not-in_range
returns-then-not-in_range c = begin_22 _ _ c.args.offset _ c.in_default.ensures _ c.in_default-check_recording.ensures (sym (c.in_range.ensures ∙ ap in_range (to_z-of_z w64 c.args.offset c.ranges.offset)) ∙ c.if-not-in_range.true)

pub returns : goal.returns
returns c = begin_ready _ _ c.args.offset _ c.in_default.ensures _ c.in_default-check_recording.ensures (sym (c.in_range.ensures ∙ ap in_range (to_z-of_z w64 c.args.offset c.ranges.offset)) ∙ c.if-not-in_range.false) _ _ _ _ _ c.start.ensures c.stand.ensures c.start-2.ensures c.stand-2.ensures (c.turn_of.ensures ∙ ap mod_day (to_z-of_z w64 c.args.offset c.ranges.offset))
