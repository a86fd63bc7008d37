-- `many::next_records` meets its contract. The loop's invariant: what is stored and what is still to come make the whole. Assumes nothing.
use mathlib.Core.Path.{◌≡◌, sym, ap, ◌∙◌}
use mathlib.Core.Option.{some}
use lib.ListN.{length}
use native.Mathlib.Omega.{arith}
use Rattle.blocks.proofs.LoopLaws.{octets_each}
use Rattle.merging.specs.Run.{log_is, which_is, which_of}
use Rattle.merging.proofs.MoveLaws.{picked}
use Rattle.merging.proofs.ManyLaws.{running_full, running_none, running_fits, running_within, held_first, held_which, held_on, side_at, side_head}
use Rattle.merging.proofs.many.next_records.Goals as goal
use Rattle.merging.proofs.many.next_records.Goals.{In-Some}

pub loop-n-init : goal.loop-n-init
loop-n-init c = held_first _ _ c.args.merge _ _ c.new.ensures c.new-2.ensures

pub returns-in_default : goal.returns-in_default
returns-in_default c =
    let told = running_none _ _ _ _ _ _ _ _ c.loop-n.invariant.run c.loop-n-test.true
    (sym (ap which_is c.in_default.is) ∙ held_which _ _ _ _ _ _ _ _ _ c.loop-n.invariant _ c.first_by.ensures) in
    record { answer = told.0; left = told.1 }

-- whose record goes
goes : (c : In-Some) → some (log_is c.in-Some.log) ≡ which_of c.args.merge.turn (length c.args.log_a.now) (side_at c.loop-n.sides 0).head (length c.args.log_b.now) (side_at c.loop-n.sides 1).head
goes c = sym (ap which_is c.in-Some.is) ∙ held_which _ _ _ _ _ _ _ _ _ c.loop-n.invariant _ c.first_by.ensures

pub behind-requires : goal.behind-requires
behind-requires c =
    running_fits _ _ _ _ _ _ _ _ c.loop-n.invariant.run c.loop-n-test.true _ (goes (goal.at.behind-requires c).In-Some) _ (side_head c.loop-n.sides c.in-Some.log _ c.number-i.ensures) _
    (omega (arith, c.well_formed)) (omega (arith, c.well_formed))

pub stand_in-after-requires : goal.stand_in-after-requires
stand_in-after-requires c =
    running_within _ _ _ _ _ _ _ _ c.loop-n.invariant.run c.loop-n-test.true _ (goes (goal.at.stand_in-after-requires c).In-Some) _ (side_head c.loop-n.sides c.in-Some.log _ c.number-i.ensures) _
    (picked (log_is c.in-Some.log) _ _ c.pick.ensures) _ c.behind.ensures

pub loop-n-preserved : goal.loop-n-preserved
loop-n-preserved c =
    held_on _ _ _ _ _ _ _ _ _ c.loop-n.invariant _ c.first_by.ensures c.loop-n-test.true (octets_each c.args.log_a.now c.type_inv.log_a) (octets_each c.args.log_b.now c.type_inv.log_b)
    c.in-Some.log (ap which_is c.in-Some.is) _ c.number-i.ensures _ c.put.ensures _ (picked (log_is c.in-Some.log) _ _ c.pick.ensures) _ c.behind.ensures _ c.stand_in-after.ensures

pub returns : goal.returns
returns c =
    let told = running_full _ _ _ _ _ _ _ _ c.loop-n.invariant.run (omega (arith, c.loop-n-test.false, c.loop-n.auto.n-end)) in
    record { answer = told.0; left = told.1 }
