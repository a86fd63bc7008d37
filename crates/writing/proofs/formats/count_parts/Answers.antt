-- `writing::formats::count_parts` meets its contract. The loop's invariant: the parts so far and those that are left make the count of all (`Counting`).
-- The measure is how many parts there may still be. Assumes nothing.
use Prim.Native.Nat.{◌+◌, ◌*◌, ◌≤◌, ◌<◌}
use mathlib.Core.Path.{◌∙◌}
use native.Mathlib.Omega.{arith}
use Rattle.rules.proofs.ToldLaws.{refused_as, handed}
use Rattle.writing.proofs.PartTurns.{counting, count_all, count_over, part_in_lem, count_no, size_fits, counted}
use Rattle.writing.proofs.formats.count_parts.Goals as goal
use Rattle.writing.proofs.formats.count_parts.Goals.{After-struct_known-1}

-- the sizes of the parts so far
fits_at : (c : After-struct_known-1)
    → (c.loop-at.size + c.group_at-g.result.octets ≤ 8 * (c.loop-at.count + 1))
    × (c.loop-at.count < 255)
fits_at c =
    size_fits _ _ _ _ _ _ c.loop-at.invariant
    c.loop-at-test.true c.if-most-count.false _
    c.part_group-group.ensures.1 c.group_at-g.ensures

pub loop-at-init : goal.loop-at-init
loop-at-init c =
    counting _ _ c.row-l.ensures

-- more values than parts
pub returns-then-most-count : goal.returns-then-most-count
returns-then-most-count c =
    refused_as _ _ _ c.at.ensures.is c.at.ensures.place
    ∙ count_over _ _ _ _ _ _ c.loop-at.invariant c.loop-at-test.true c.if-most-count.true

pub part_group-group-requires : goal.part_group-group-requires
part_group-group-requires c =
    part_in_lem _ _ _ _ _ _ c.loop-at.invariant c.loop-at-test.true c.if-most-count.false

pub pack_part-requires : goal.pack_part-requires
pack_part-requires c =
    c.part_group-group.ensures.0

-- a part that cannot be packed
pub returns-in_err-part : goal.returns-in_err-part
returns-in_err-part c =
    handed _ _ c.from_residual.ensures.1
    ∙ count_no _ _ _ _ _ _ c.loop-at.invariant c.loop-at-test.true c.if-most-count.false _ c.part_group-group.ensures.1 c.in_err-part.ensures

pub group_at-g-requires : goal.group_at-g-requires
group_at-g-requires c =
    c.part_group-group.ensures.0

pub overflow_add-size : goal.overflow_add-size
overflow_add-size c =
    omega (arith, fits_at (goal.at.overflow_add-size c).After-struct_known-1)

pub overflow_add-count : goal.overflow_add-count
overflow_add-count c =
    omega (arith, fits_at (goal.at.overflow_add-count c).After-struct_known-1)

pub loop-at-smaller : goal.loop-at-smaller
loop-at-smaller c =
    omega (arith, c.if-most-count.false)

pub loop-at-preserved : goal.loop-at-preserved
loop-at-preserved c =
    counted _ _ _ _ _ _ c.loop-at.invariant
    c.loop-at-test.true c.if-most-count.false _
    c.part_group-group.ensures.1 c.group_at-g.ensures
    c.in_ok-part.ensures

-- no value is left
pub returns : goal.returns
returns c =
    count_all _ _ _ _ _ _ c.loop-at.invariant c.loop-at-test.false
