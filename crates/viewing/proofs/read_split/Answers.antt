-- `viewing::read_split` meets its contract: one list of marks, then the other. Assumes nothing.
use Prim.Native.Nat.{◌+◌, ◌*◌}
use mathlib.Core.Path.{◌∙◌, ap, sym}
use native.Mathlib.Omega.{arith}
use Rattle.rules.specs.SheetForm.{form}
use Rattle.rules.specs.Told.{told}
use Rattle.rules.proofs.SheetForms.{small}
use Rattle.marks.proofs.MarkSteps.{tail}
use Rattle.viewing.proofs.Exits.{from_same, later_err, later_ok}
use Rattle.viewing.proofs.ListLaws.{are_octets, fmap_refused, length_tail, list_place_in, split_few, split_marks, split_refused, split_refused_2, split_room, split_small}
use Rattle.viewing.proofs.read_split.Goals as goal

pub returns-in_err-low : goal.returns-in_err-low
returns-in_err-low c =
    from_same _ _ c.from_residual.ensures.1 ∙ split_refused form.limit c.args.key small c.args.bs.now (are_octets c.args.bs.now c.type_inv.bs) _ _ c.in_err-low.ensures

pub overflow_mul-at : goal.overflow_mul-at
overflow_mul-at c = omega (arith, (split_room form.limit c.args.key small c.args.bs.now (are_octets c.args.bs.now c.type_inv.bs) _ c.in_ok-low.ensures).1)

pub overflow_add-at : goal.overflow_add-at
overflow_add-at c = omega (arith, (split_room form.limit c.args.key small c.args.bs.now (are_octets c.args.bs.now c.type_inv.bs) _ c.in_ok-low.ensures).1)

pub slice_bounds-read_list-count : goal.slice_bounds-read_list-count
slice_bounds-read_list-count c = omega (arith, (split_room form.limit c.args.key small c.args.bs.now (are_octets c.args.bs.now c.type_inv.bs) _ c.in_ok-low.ensures).0)

pub slice_bounds-read_list-start : goal.slice_bounds-read_list-start
slice_bounds-read_list-start c = omega (arith, (split_room form.limit c.args.key small c.args.bs.now (are_octets c.args.bs.now c.type_inv.bs) _ c.in_ok-low.ensures).0)

pub overflow_sub-low : goal.overflow_sub-low
overflow_sub-low c = omega (arith, (split_room form.limit c.args.key small c.args.bs.now (are_octets c.args.bs.now c.type_inv.bs) _ c.in_ok-low.ensures).1)

pub later-requires : goal.later-requires
later-requires c = λ e h.
    omega (
      arith,
      (split_room form.limit c.args.key small c.args.bs.now (are_octets c.args.bs.now c.type_inv.bs) _ c.in_ok-low.ensures).1,
      list_place_in 6 _ _ (tail _ c.args.bs.now) _ _ (fmap_refused _ _ _ _ (ap told (sym h) ∙ c.read_list-2.ensures)),
      length_tail (3 + c.in_ok-low.low.count * 7) c.args.bs.now,
    )

pub returns-in_err-high : goal.returns-in_err-high
returns-in_err-high c =
    let (k, p, q, e) = later_err _ _ _ _ _ c.later.ensures c.in_err-high.was in
    from_same _ _ c.from_residual-in_err-high.ensures.1 ∙ e
    ∙ split_refused_2 form.limit c.args.key small c.args.bs.now (are_octets c.args.bs.now c.type_inv.bs) _ c.in_ok-low.ensures k p (q ∙ c.read_list-2.ensures)

pub overflow_add-result : goal.overflow_add-result
overflow_add-result c =
    omega (arith, split_few form.limit c.args.key small c.args.bs.now (are_octets c.args.bs.now c.type_inv.bs) _ c.in_ok-low.ensures _ (later_ok _ _ _ _ c.later.ensures c.in_ok-high.was ∙ c.read_list-2.ensures))

pub both_tallies-requires : goal.both_tallies-requires
both_tallies-requires c =
    split_small form.limit c.args.key small c.args.bs.now (are_octets c.args.bs.now c.type_inv.bs) _ c.in_ok-low.ensures _ (later_ok _ _ _ _ c.later.ensures c.in_ok-high.was ∙ c.read_list-2.ensures)

pub returns : goal.returns
returns c =
    split_marks form.limit c.args.key small c.args.bs.now (are_octets c.args.bs.now c.type_inv.bs) _ c.in_ok-low.ensures _ (later_ok _ _ _ _ c.later.ensures c.in_ok-high.was ∙ c.read_list-2.ensures) _ c.both_tallies.ensures
