-- `layouts::parts::Run::is_legal` meets its contract: what is left to check says what all says. Assumes nothing.
use Prim.Native.Nat.{◌<◌}
use native.Mathlib.Omega.{arith}
use Rattle.layouts.proofs.PartLaws.{check_begun, first_checked, check_bad, check_good, check_end}
use Rattle.layouts.proofs.parts.Run.is_legal.Goals as goal
use Rattle.layouts.proofs.parts.Run.is_legal.Goals.{In-loop-done}

more : (c : In-loop-done) → 0 < c.loop-done.run.count
more c = omega (arith, c.loop-done.invariant.left, c.loop-done-test.true)

pub loop-done-init : goal.loop-done-init
loop-done-init c = record { left = omega arith; parts = check_begun _ _ c.requires }

pub first_legal-requires : goal.first_legal-requires
first_legal-requires c =
    let v = c.loop-done.invariant.parts in
    let f = first_checked v (more (goal.at.first_legal-requires c).In-loop-done) in
    (v.few, f.inside, f.sound, omega (arith, f.spans, v.place, c.requires.2))

pub returns-then-not-first_legal : goal.returns-then-not-first_legal
returns-then-not-first_legal c =
    check_bad c.loop-done.invariant.parts (more (goal.at.returns-then-not-first_legal c).In-loop-done) c.first_legal.ensures c.if-not-first_legal.true

pub rest-run-requires : goal.rest-run-requires
rest-run-requires c =
    let v = c.loop-done.invariant.parts in
    let m = more (goal.at.rest-run-requires c).In-loop-done in
    let f = first_checked v m in
    (v.few, m, f.inside, omega (arith, f.spans, v.place, c.requires.2))

pub loop-done-preserved : goal.loop-done-preserved
loop-done-preserved c =
    let m = more (goal.at.loop-done-preserved c).In-loop-done in
    record {
      left = rw c.rest-run.ensures (omega (arith, m, c.loop-done.invariant.left));
      parts = check_good c.loop-done.invariant.parts m c.first_legal.ensures c.if-not-first_legal.false c.rest-run.ensures;
    }

pub returns : goal.returns
returns c = check_end c.loop-done.invariant.parts (omega (arith, c.loop-done.invariant.left, c.loop-done-test.false, c.loop-done.auto))
