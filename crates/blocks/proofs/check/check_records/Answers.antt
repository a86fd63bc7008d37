-- `check::check_records` meets its contract. The loop's invariant: the rule on what is left, counted on, is the rule on the whole. The measure is
-- the length of what is left. Assumes nothing.
use Prim.Native.Nat.{◌-◌}
use mathlib.Core.Path.{refl, sym, ◌∙◌}
use native.Mathlib.Omega.{arith}
use Rattle.sets.specs.Sets.{category_at}
use Rattle.blocks.proofs.LoopLaws.{octets_each, some_left, none_left}
use Rattle.blocks.proofs.RecordLaws.{Accepted, ended_accepted, ended_refused, count_end, count_stop, count_again}
use Rattle.rules.proofs.AnswerLaws.{to_end}
use Rattle.rules.proofs.ToldLaws.{handed}
use Rattle.blocks.proofs.check.check_records.Goals as goal
use Rattle.blocks.proofs.check.check_records.Goals.{In_ok-end}

-- the record of this turn
accepted : (c : In_ok-end) → Accepted (category_at c.args.profile) c.loop-rest.at c.loop-rest.rest.now c.in_ok-end.end
accepted c = ended_accepted _ _ c.loop-rest.rest.now _ c.loop-rest.invariant.octets c.in_ok-end.ensures

pub loop-rest-init : goal.loop-rest-init
loop-rest-init c = record { room = c.requires; few = omega arith; octets = octets_each c.args.part.now c.type_inv.part; same = refl }

pub returns-in_err-end : goal.returns-in_err-end
returns-in_err-end c =
    handed _ _ c.from_residual.ensures.1
    ∙ sym (count_stop _ _ _ _ _ _ (some_left _ _ c.is_empty.ensures c.loop-rest-test.true) (ended_refused _ _ _ _ _ c.in_err-end.ensures))
    ∙ c.loop-rest.invariant.same

pub overflow_sub-used : goal.overflow_sub-used
overflow_sub-used c = omega (arith, (accepted (goal.at.overflow_sub-used c).In_ok-end).low)

pub slice_bounds-rest-count : goal.slice_bounds-rest-count
slice_bounds-rest-count c = omega (arith, (accepted (goal.at.slice_bounds-rest-count c).In_ok-end).low, (accepted (goal.at.slice_bounds-rest-count c).In_ok-end).high)

pub slice_bounds-rest-start : goal.slice_bounds-rest-start
slice_bounds-rest-start c = omega (arith, (accepted (goal.at.slice_bounds-rest-start c).In_ok-end).low, (accepted (goal.at.slice_bounds-rest-start c).In_ok-end).high)

pub slice_bounds-rest-end : goal.slice_bounds-rest-end
slice_bounds-rest-end c = omega (arith, (accepted (goal.at.slice_bounds-rest-end c).In_ok-end).low, (accepted (goal.at.slice_bounds-rest-end c).In_ok-end).high)

pub loop-rest-smaller : goal.loop-rest-smaller
loop-rest-smaller c = omega (arith, (accepted (goal.at.loop-rest-smaller c).In_ok-end).low, (accepted (goal.at.loop-rest-smaller c).In_ok-end).high)

pub loop-rest-preserved : goal.loop-rest-preserved
loop-rest-preserved c =
    count_again _ _ _ c.loop-rest.rest.now _ _ _ _ c.loop-rest.invariant (accepted (goal.at.loop-rest-preserved c).In_ok-end) (to_end c.loop-rest.rest.now (c.in_ok-end.end - c.loop-rest.at))

pub returns : goal.returns
returns c = sym (count_end _ _ _ _ (none_left _ _ c.is_empty.ensures c.loop-rest-test.false)) ∙ c.loop-rest.invariant.same
