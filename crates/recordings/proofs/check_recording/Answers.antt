-- `check_recording` meets its contract. The loop's invariant: the rule on what is left, counted on, is the rule on the whole. The measure is the
-- length of what is left. Assumes nothing.
use mathlib.Core.Path.{sym, ap, ◌∙◌}
use native.Mathlib.Omega.{arith}
use Rattle.rules.specs.Told.{refusal_of}
use Rattle.rules.proofs.AnswerLaws.{to_end}
use Rattle.blocks.specs.Answers.{front_said}
use Rattle.blocks.proofs.LoopLaws.{octets_each, some_left, none_left}
use Rattle.blocks.proofs.InsideLaws.{front_inside}
use Rattle.recordings.proofs.CountLaws.{FrontTaken, front_taken, counts_end, counts_stop, check_start, check_again}
use Rattle.recordings.proofs.check_recording.Goals as goal
use Rattle.recordings.proofs.check_recording.Goals.{In-Ok}

-- the block of this turn
accepted : (c : In-Ok) → FrontTaken c.loop-rest.rest.now (front_said c.in-Ok.front)
accepted c = front_taken c.loop-rest.rest.now _ c.loop-rest.invariant.octets (sym c.in-Ok.ensures)

pub loop-rest-init : goal.loop-rest-init
loop-rest-init c = check_start _ (octets_each c.args.recording.now c.type_inv.recording)

pub later-requires : goal.later-requires
later-requires c = omega (arith, front_inside c.loop-rest.rest.now c.loop-rest.invariant.octets _ _ (sym c.in-Err.ensures), c.loop-rest.invariant.place_is)

pub returns-in-Err : goal.returns-in-Err
returns-in-Err c =
    ap refusal_of c.later.ensures
    ∙ sym (counts_stop _ _ _ _ _ _ (some_left _ _ c.is_empty.ensures c.loop-rest-test.true) (sym c.in-Err.ensures))
    ∙ c.loop-rest.invariant.same

pub slice_bounds-rest-count : goal.slice_bounds-rest-count
slice_bounds-rest-count c = omega (arith, (accepted (goal.at.slice_bounds-rest-count c).In-Ok).within)

pub slice_bounds-rest-start : goal.slice_bounds-rest-start
slice_bounds-rest-start c = omega (arith, (accepted (goal.at.slice_bounds-rest-start c).In-Ok).within)

pub overflow_add-place : goal.overflow_add-place
overflow_add-place c = omega (arith, (accepted (goal.at.overflow_add-place c).In-Ok).within)

pub overflow_add-counts-in-loop-rest : goal.overflow_add-counts-in-loop-rest
overflow_add-counts-in-loop-rest c = omega (arith, (accepted (goal.at.overflow_add-counts-in-loop-rest c).In-Ok).within, (accepted (goal.at.overflow_add-counts-in-loop-rest c).In-Ok).few)

pub loop-rest-smaller : goal.loop-rest-smaller
loop-rest-smaller c = omega (arith, (accepted (goal.at.loop-rest-smaller c).In-Ok).within, (accepted (goal.at.loop-rest-smaller c).In-Ok).some)

pub loop-rest-preserved : goal.loop-rest-preserved
loop-rest-preserved c =
    check_again _ c.loop-rest.rest.now _ _ _ _ _ c.loop-rest.invariant (accepted (goal.at.loop-rest-preserved c).In-Ok) (to_end c.loop-rest.rest.now c.in-Ok.front.len)

pub returns : goal.returns
returns c = sym (counts_end _ _ _ _ (none_left _ _ c.is_empty.ensures c.loop-rest-test.false)) ∙ c.loop-rest.invariant.same
