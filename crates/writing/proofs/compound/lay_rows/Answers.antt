-- `writing::compound::lay_rows` meets its contract. The loop's invariant: the subfields that are left, laid where the next one goes, and the primary octets
-- that are left make the output that is to be (`Filling`). The measure is how many primary octets are left. Assumes nothing.
use Prim.Native.Nat.{◌+◌, ◌<◌}
use mathlib.Core.Path.{sym, ap, subst}
use native.Mathlib.Omega.{arith}
use lib.Dec.{ltb}
use Rattle.writing.proofs.BitTurns.{sub_many}
use Rattle.writing.proofs.PrimaryTurns.{filling, fill_all, fill, fill_in, fill_fits, fill_place}
use Rattle.writing.proofs.compound.lay_rows.Goals as goal

pub loop-row-init : goal.loop-row-init
loop-row-init c = filling _ _ _ _ c.row-l.ensures c.requires.passes.1 c.requires.values_in_bounds

pub overflow_add-first : goal.overflow_add-first
overflow_add-first c = omega (arith, fill_in _ _ _ _ _ _ _ _ _ c.loop-row.invariant c.loop-row-test.true c.requires.passes.0, sub_many)

pub overflow_mul-first : goal.overflow_mul-first
overflow_mul-first c = omega (arith, fill_in _ _ _ _ _ _ _ _ _ c.loop-row.invariant c.loop-row-test.true c.requires.passes.0, sub_many)

pub lay_row-x-requires : goal.lay_row-x-requires
lay_row-x-requires c =
    let t = fill _ _ _ _ _ _ _ _ _ c.loop-row.invariant c.loop-row-test.true in
    record { first_bound = (fill_in _ _ _ _ _ _ _ _ _ c.loop-row.invariant c.loop-row-test.true c.requires.passes.0, t.passes); at_in_bounds = t.fit }

pub overflow_add-row : goal.overflow_add-row
overflow_add-row c = omega (arith, fill_in _ _ _ _ _ _ _ _ _ c.loop-row.invariant c.loop-row-test.true c.requires.passes.0, sub_many)

pub mark-requires : goal.mark-requires
mark-requires c =
    omega (arith, fill_fits _ _ _ _ _ _ _ _ _ c.loop-row.invariant c.loop-row-test.true (ltb (c.loop-row.row + 1) c.args.count) c.lay_row-x.ensures.told.0)

pub lay_number-requires : goal.lay_number-requires
lay_number-requires c =
    let i = c.loop-row.invariant in
    let h = c.loop-row-test.true in record { size_bound = (omega arith, subst (λ x. x < 256) (sym c.mark.ensures) (fill_fits _ _ _ _ _ _ _ _ _ i h (ltb (c.loop-row.row + 1) c.args.count) c.lay_row-x.ensures.told.0)); size_in_bounds = fill_place _ _ _ _ _ _ _ _ _ i h c.lay_row-x.ensures.laid }

pub overflow_add-q : goal.overflow_add-q
overflow_add-q c =
    omega (arith, (fill _ _ _ _ _ _ _ _ _ c.loop-row.invariant c.loop-row-test.true).fit, c.lay_row-x.ensures.told.1.1, c.loop-row.invariant.long, c.well_formed)

pub loop-row-preserved : goal.loop-row-preserved
loop-row-preserved c =
    let told = c.lay_row-x.ensures.told in
    (fill _ _ _ _ _ _ _ _ _ c.loop-row.invariant c.loop-row-test.true).next c.lay_row-x.ensures.laid (told.0, (told.1.0, ap (λ s. c.loop-row.q + s) told.1.1)) c.mark.ensures c.lay_number.ensures

pub shape_of-out : goal.shape_of-out
shape_of-out c = c.loop-row.invariant.long

-- all is laid
pub returns : goal.returns
returns c = fill_all _ _ _ _ _ _ _ _ _ c.loop-row.invariant c.loop-row-test.false
