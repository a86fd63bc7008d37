-- `find::seek_record` meets its contract. The loop's invariant: the rule on what is left, with as many fewer to pass, is the rule on the whole. Assumes nothing.
use Rattle.std.specs.Prelude.{◌≢◌}
use Prim.Native.Nat.{◌+◌, ◌-◌}
use mathlib.Core.Path.{◌≡◌, sym, ap, ◌∙◌}
use native.Mathlib.Omega.{arith}
use native.Mathlib.Nat.{sub-zero}
use Rattle.rules.proofs.AnswerLaws.{to_end}
use Rattle.rules.proofs.ToldLaws.{handed}
use Rattle.blocks.proofs.LoopLaws.{octets_each}
use Rattle.blocks.proofs.RecordLaws.{MapTaken}
use Rattle.finding.specs.Found.{seek_at, found_in}
use Rattle.finding.proofs.SeekLaws.{first_of, first_bad, seek_end, seek_here, seek_again, located_at}
use Rattle.finding.proofs.find.seek_record.Goals as goal
use Rattle.finding.proofs.find.seek_record.Goals.{In_ok-end, In_ok-map}

-- the record of this turn
passed : (c : In_ok-end) → MapTaken c.args.profile c.loop-passed.at c.loop-passed.rest.now c.in_ok-end.field-0
passed c = first_of _ _ c.loop-passed.rest.now _ c.loop-passed.invariant.octets c.in_ok-end.ensures

-- the record that is sought
here : (c : In_ok-map) → MapTaken c.args.profile c.loop-passed.at c.loop-passed.rest.now c.in_ok-map.map
here c = first_of _ _ c.loop-passed.rest.now _ c.loop-passed.invariant.octets c.in_ok-map.ensures

pub loop-passed-init : goal.loop-passed-init
loop-passed-init c = record { room = c.requires.0; octets = octets_each c.args.part.now c.type_inv.part; records = c.requires.1; same = ap (seek_at _ c.args.from c.args.part.now) (sub-zero c.args.n) }

-- none is left
pub returns-in_err-end : goal.returns-in_err-end
returns-in_err-end c =
    let b = first_bad _ _ c.loop-passed.rest.now _ _ c.loop-passed.invariant.records c.in_err-end.ensures in
    handed _ _ c.from_residual.ensures.1 ∙ ap found_in (b.1 ∙ sym (seek_end _ _ _ _ b.0) ∙ c.loop-passed.invariant.same)

pub returns-in_err-map : goal.returns-in_err-map
returns-in_err-map c =
    let b = first_bad _ _ c.loop-passed.rest.now _ _ c.loop-passed.invariant.records c.in_err-map.ensures in
    handed _ _ c.from_residual-in_err-map.ensures.1 ∙ ap found_in (b.1 ∙ sym (seek_end _ _ _ _ b.0) ∙ c.loop-passed.invariant.same)

pub overflow_sub-rest : goal.overflow_sub-rest
overflow_sub-rest c = omega (arith, (passed (goal.at.overflow_sub-rest c).In_ok-end).accepted.low)

pub slice_bounds-rest-count : goal.slice_bounds-rest-count
slice_bounds-rest-count c = omega (arith, (passed (goal.at.slice_bounds-rest-count c).In_ok-end).accepted.high)

pub slice_bounds-rest-start : goal.slice_bounds-rest-start
slice_bounds-rest-start c = omega (arith, (passed (goal.at.slice_bounds-rest-start c).In_ok-end).accepted.high)

pub loop-passed-preserved : goal.loop-passed-preserved
loop-passed-preserved c =
    let left : c.args.n - c.loop-passed._passed ≢ 0 = omega arith in
    let less : c.args.n - (c.loop-passed._passed + 1) ≡ c.args.n - c.loop-passed._passed - 1 = omega arith in
    seek_again _ _ _ _ c.loop-passed.rest.now _ _ _ _ _ c.loop-passed.invariant (passed (goal.at.loop-passed-preserved c).In_ok-end).accepted
    (to_end c.loop-passed.rest.now (c.in_ok-end.field-0.end - c.loop-passed.at)) left less

pub overflow_sub-result : goal.overflow_sub-result
overflow_sub-result c = omega (arith, (here (goal.at.overflow_sub-result c).In_ok-map).accepted.low)

pub returns : goal.returns
returns c =
    let n : c.args.n - c.loop-passed._passed ≡ 0 = omega arith in
    located_at (here (goal.at.returns c).In_ok-map)
    (sym c.loop-passed.invariant.same ∙ seek_here _ _ c.loop-passed.rest.now _ _ c.loop-passed.invariant.octets c.loop-passed.invariant.records (here (goal.at.returns c).In_ok-map).accepted n)
