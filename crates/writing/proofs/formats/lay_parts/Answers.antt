-- `writing::formats::lay_parts` meets its contract. The loop's invariant: the parts that are left, laid at the place where the next one goes, make the output
-- that is to be (`Placing`). The measure is how many parts are left. Assumes nothing.
use Prim.Native.Nat.{◌*◌, ◌^◌, ◌<◌}
use mathlib.Core.Path.{sym, ap, ◌∙◌, subst}
use native.Mathlib.Omega.{arith}
use Rattle.rules.specs.Told.{told}
use Rattle.writing.proofs.Handed.{told_passes}
use Rattle.writing.proofs.PartTurns.{placing, group_in_lem, packs, Placed, placed, placed_all}
use Rattle.writing.proofs.formats.lay_parts.Goals as goal
use Rattle.writing.proofs.formats.lay_parts.Goals.{After-group_at-g}

-- a part was packed
placed_at : (c : After-group_at-g)
    → Placed c.args.layout.place
    c.args.values.now
    c.args.count
    c.args.start
    c.args.out.now
    c.is_chained-chained.result
    c.loop-part.out
    c.loop-part.part c.loop-part.from
    c.loop-part.at c.unwrap-packed.result.number c.unwrap-packed.result.next
    c.group_at-g.result.octets
placed_at c =
    placed _ _ _ _ _ _ _ _ _ _ c.loop-part.invariant c.loop-part-test.true _
    c.part_group-group.ensures.1 c.group_at-g.ensures
    (sym (ap told c.unwrap-packed.ensures) ∙ c.pack_part.ensures)

pub loop-part-init : goal.loop-part-init
loop-part-init c =
    placing _ _ _ _ _ _ c.row-l.ensures c.is_chained-chained.ensures c.requires.values_value c.requires.values_in_bounds

pub part_group-group-requires : goal.part_group-group-requires
part_group-group-requires c =
    group_in_lem _ _ _ _ _ _ _ _ _ _ c.loop-part.invariant c.loop-part-test.true

pub pack_part-requires : goal.pack_part-requires
pack_part-requires c =
    c.part_group-group.ensures.0

-- every part was packed before
pub unwrap-packed-requires : goal.unwrap-packed-requires
unwrap-packed-requires c = told_passes _ c.pack_part.ensures (λ n p. packs _ _ _ _ _ _ _ _ _ _ c.loop-part.invariant c.loop-part-test.true _ c.part_group-group.ensures.1)

pub group_at-g-requires : goal.group_at-g-requires
group_at-g-requires c =
    c.part_group-group.ensures.0

pub overflow_add-part : goal.overflow_add-part
overflow_add-part c =
    omega (arith, c.loop-part-test.true)

pub mark-requires : goal.mark-requires
mark-requires c =
    (placed_at (goal.at.mark-requires c).After-group_at-g).wide

pub lay_number-requires : goal.lay_number-requires
lay_number-requires c =
    let t = placed_at (goal.at.lay_number-requires c).After-group_at-g in
    record { size_bound = (t.short, subst (λ x. x < 2 ^ (8 * c.group_at-g.result.octets)) (sym c.mark.ensures) t.fits); size_in_bounds = t.fit }

pub overflow_add-at : goal.overflow_add-at
overflow_add-at c =
    omega (arith, (placed_at (goal.at.overflow_add-at c).After-group_at-g).fit, c.loop-part.invariant.long, c.well_formed)

pub loop-part-preserved : goal.loop-part-preserved
loop-part-preserved c =
    (placed_at (goal.at.loop-part-preserved c).After-group_at-g).next c.mark.ensures c.lay_number.ensures

pub shape_of-out : goal.shape_of-out
shape_of-out c =
    c.loop-part.invariant.long

-- all parts are laid
pub returns : goal.returns
returns c =
    placed_all _ _ _ _ _ _ _ _ _ _ c.loop-part.invariant c.loop-part-test.false
