-- `writing::compound::lay_row` meets its contract. The loop's invariant: the subfields that are left, laid where the next one goes, make the output that is
-- to be (`Stepping`). The measure is how many bits are left. Assumes nothing.
use Prim.Native.Nat.{◌+◌}
use mathlib.Core.Path.{ap}
use native.Mathlib.Omega.{arith}
use Rattle.writing.proofs.BitTurns.{sub_many, sized_says, stepping, step_all, step_in, step_fits, step}
use Rattle.writing.proofs.compound.lay_row.Goals as goal

pub overflow_add-end : goal.overflow_add-end
overflow_add-end c = omega (arith, c.requires.first_bound.0, sub_many)

pub loop-i-init : goal.loop-i-init
loop-i-init c = stepping _ _ _ _ _ c.requires.first_bound.1 c.requires.at_in_bounds

pub of-requires : goal.of-requires
of-requires c = step_in _ _ _ _ _ _ _ _ _ _ _ c.loop-i.invariant c.loop-i-test.true c.requires.first_bound.0

pub lay_place-x-requires : goal.lay_place-x-requires
lay_place-x-requires c =
    let t = step _ _ _ _ _ _ _ _ _ _ _ c.loop-i.invariant c.loop-i-test.true c.of.ensures in
    record { passes = t.passes; at_in_bounds = t.fit }

pub mark-bits-requires : goal.mark-bits-requires
mark-bits-requires c = step_fits _ _ _ _ _ _ _ _ _ _ _ c.loop-i.invariant c.loop-i-test.true c.is_some.result

pub overflow_add-q : goal.overflow_add-q
overflow_add-q c =
    let t = step _ _ _ _ _ _ _ _ _ _ _ c.loop-i.invariant c.loop-i-test.true c.of.ensures in
    let says = sized_says _ _ _ _ t.passes (ap (λ x. x.octets) c.lay_place-x.ensures.told) c.is_some.ensures c.unwrap_or-q.ensures in
    omega (arith, t.fit, says.1, c.loop-i.invariant.long, c.well_formed)

pub loop-i-preserved : goal.loop-i-preserved
loop-i-preserved c =
    let t = step _ _ _ _ _ _ _ _ _ _ _ c.loop-i.invariant c.loop-i-test.true c.of.ensures in
    let told = c.lay_place-x.ensures.told in
    let says = sized_says _ _ _ _ t.passes (ap (λ x. x.octets) told) c.is_some.ensures c.unwrap_or-q.ensures in
    t.next c.lay_place-x.ensures.laid (says.0, (ap (λ x. x.next) told, ap (λ s. c.loop-i.q + s) says.1)) c.mark-bits.ensures

pub shape_of-out : goal.shape_of-out
shape_of-out c = c.loop-i.invariant.long

pub overflow_sub-result : goal.overflow_sub-result
overflow_sub-result c = omega (arith, (step_all _ _ _ _ _ _ _ _ _ _ _ c.loop-i.invariant c.loop-i-test.false).1.1.1)

-- all bits are laid
pub returns : goal.returns
returns c = let told = step_all _ _ _ _ _ _ _ _ _ _ _ c.loop-i.invariant c.loop-i-test.false in
    record { laid = told.0; told = (told.1.0, (told.1.1.0, omega (arith, told.1.1.1))) }
