-- `compounds::fields::subfields_fields` meets its contract: what is left to list makes of the output what all makes. Assumes nothing.
use Prim.Native.Nat.{◌<◌, ◌+◌, ◌-◌}
use mathlib.Core.Path.{◌≡◌, sym, subst}
use native.Mathlib.Omega.{arith}
use lib.Pow.{pow_pos}
use Rattle.rules.proofs.AnswerLaws.{Octets}
use Rattle.layouts.proofs.OctetLaws.{octets_known}
use Rattle.compounds.proofs.SubfieldLaws.{subfields_few}
use Rattle.compounds.proofs.FieldLaws.{list_begun, list_passes, list_room, list_fits, list_turned, list_ended}
use Rattle.compounds.proofs.fields.subfields_fields.Goals as goal
use Rattle.compounds.proofs.fields.subfields_fields.Goals.{In-loop-i}

octets : (c : In-loop-i) → Octets c.args.s.now
octets c = octets_known c.args.s.now (λ i. omega (arith, c.type_inv.s i))

-- there is one more
more : (c : In-loop-i) → 0 < c.args.first + c.args.places - c.loop-i.i
more c = omega (arith, c.loop-i-test.true)

pub overflow_add-end : goal.overflow_add-end
overflow_add-end c = record { fits = omega (arith, subfields_few, c.requires.places_bound.0) }

pub loop-i-init : goal.loop-i-init
loop-i-init c =
    let p = c.requires.passes in
    let e : c.args.first + c.args.places - c.args.first ≡ c.args.places = omega arith in
    (p.0, p.1, rw e (list_begun _ _ _ _ _ _ c.requires.places_bound_2 p.1))

pub pow2-weight-requires : goal.pow2-weight-requires
pow2-weight-requires c = omega (arith, c.loop-i.invariant.2.from, c.requires.places_bound.1)

pub slice_bounds-place_fields-count : goal.slice_bounds-place_fields-count
slice_bounds-place_fields-count c = c.loop-i.invariant.2.there

pub slice_bounds-place_fields-start : goal.slice_bounds-place_fields-start
slice_bounds-place_fields-start c = c.loop-i.invariant.2.there

pub place_fields-stored-requires : goal.place_fields-stored-requires
place_fields-stored-requires c =
    let at = (goal.at.place_fields-stored-requires c).In-loop-i in
    let w = c.loop-i.invariant.2 in (
      omega (arith, c.loop-i-test.true, c.requires.places_bound.0),
      list_room _ _ _ _ _ _ _ _ _ _ _ w (more at) (octets at) c.pow2-weight.ensures,
      list_passes _ _ _ _ _ _ _ _ _ _ _ w (more at) (octets at) c.pow2-weight.ensures,
    )

pub nonzero_rem-left : goal.nonzero_rem-left
nonzero_rem-left c = subst (λ x. 0 < x) (sym c.pow2-weight.ensures) (pow_pos _)

pub overflow_add-at : goal.overflow_add-at
overflow_add-at c =
    let at = (goal.at.overflow_add-at c).In-loop-i in
    record { fits = omega (arith, list_fits _ _ _ _ _ _ _ _ _ _ _ c.loop-i.invariant.2 (more at) (octets at) c.pow2-weight.ensures _ _ c.place_fields-stored.ensures, c.well_formed.1.1.1.0.0) }

pub loop-i-preserved : goal.loop-i-preserved
loop-i-preserved c =
    let at = (goal.at.loop-i-preserved c).In-loop-i in
    let v = c.loop-i.invariant in
    let e : c.args.first + c.args.places - c.loop-i.i - 1 ≡ c.args.first + c.args.places - (c.loop-i.i + 1) = omega arith in
    (v.0, v.1, rw (← e) (list_turned _ _ _ _ _ _ _ _ _ _ _ v.2 (more at) (octets at) c.pow2-weight.ensures _ _ c.place_fields-stored.ensures))

pub returns : goal.returns
returns c = list_ended _ _ _ _ _ _ _ _ _ _ _ _ c.loop-i.invariant.2 (omega (arith, c.loop-i-test.false)) c.loop-i.invariant.1
