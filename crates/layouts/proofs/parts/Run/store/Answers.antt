-- `layouts::parts::Run::store` meets its contract: what is left to store makes of the output what all makes. Assumes nothing.
use Prim.Native.Nat.{◌<◌}
use native.Mathlib.Omega.{arith}
use Rattle.layouts.proofs.StoreLaws.{store_begun, holds_cons, first_stored, part_stored, parts_stored}
use Rattle.layouts.proofs.parts.Run.store.Goals as goal
use Rattle.layouts.proofs.parts.Run.store.Goals.{In-loop-done}

more : (c : In-loop-done) → 0 < c.loop-done.run.count
more c = omega (arith, c.loop-done.invariant.left, c.loop-done-test.true)

pub loop-done-init : goal.loop-done-init
loop-done-init c = record { left = omega arith; parts = store_begun _ _ _ _ c.requires.there }

pub first_store-next-requires : goal.first_store-next-requires
first_store-next-requires c =
    let v = c.loop-done.invariant.parts in
    let m = more (goal.at.first_store-next-requires c).In-loop-done in
    let f = first_stored v m in
    record {
      step_bound = (v.few, f.inside, f.sound, omega (arith, f.spans, v.place, c.requires.there.2));
      group_bound = let r = c.loop-done.run in omega (arith, holds_cons r.step r.group r.count m, v.room, c.requires.room);
    }

pub rest-run-requires : goal.rest-run-requires
rest-run-requires c =
    let v = c.loop-done.invariant.parts in
    let m = more (goal.at.rest-run-requires c).In-loop-done in
    let f = first_stored v m in
    (v.few, m, f.inside, omega (arith, f.spans, v.place, c.requires.there.2))

pub loop-done-preserved : goal.loop-done-preserved
loop-done-preserved c =
    let m = more (goal.at.loop-done-preserved c).In-loop-done in
    record {
      left = rw c.rest-run.ensures (omega (arith, m, c.loop-done.invariant.left));
      parts = part_stored c.loop-done.invariant.parts m c.rest-run.ensures c.first_store-next.ensures;
    }

pub returns : goal.returns
returns c = parts_stored c.loop-done.invariant.parts (omega (arith, c.loop-done.invariant.left, c.loop-done-test.false, c.loop-done.auto))
