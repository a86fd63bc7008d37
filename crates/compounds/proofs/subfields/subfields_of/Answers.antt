-- `compounds::subfields::subfields_of` meets its contract: what the bits left say is what all say. Assumes nothing.
use Prim.Native.Nat.{◌+◌, ◌-◌, ◌%◌, ◌<◌, ◌≤◌}
use lib.ListN.{length}
use mathlib.Core.Path.{◌≡◌, sym, subst}
use native.Mathlib.Omega.{arith}
use lib.Pow.{pow_pos}
use Rattle.std.proofs.lemmas.Result.{err_from_is_err_and}
use Rattle.rules.proofs.AnswerLaws.{Octets}
use Rattle.layouts.proofs.OctetLaws.{octets_known}
use Rattle.compounds.proofs.SubfieldLaws.{subfields_few, Walking, walk_begun, walk_refused, walk_fits, walk_turned, walk_ended}
use Rattle.compounds.proofs.subfields.subfields_of.Goals as goal
use Rattle.compounds.proofs.subfields.subfields_of.Goals.{In-loop-i, In_ok-octets}

-- there is one more
more : (c : In-loop-i) → 0 < c.args.first + c.args.places - c.loop-i.i
more c = omega (arith, c.loop-i-test.true)

-- a turn, where the subfield is read
turned : (c : In_ok-octets)
    → (c.loop-i.at + c.in_ok-octets.octets ≤ length c.args.s.now)
    × Walking c.args.first c.args.places c.args.bits c.args.s.now
    (c.loop-i.i + 1) (c.args.first + c.args.places - c.loop-i.i - 1) (c.loop-i.left % c.pow2-weight.result)
    (c.loop-i.at + c.in_ok-octets.octets)
turned c =
    let w = c.loop-i.invariant in
    let h : 0 < c.args.first + c.args.places - c.loop-i.i = omega (arith, c.loop-i-test.true) in
    let o : Octets c.args.s.now = octets_known c.args.s.now (λ i. omega (arith, c.type_inv.s i)) in
    (walk_fits _ _ _ _ _ _ _ _ w h c.pow2-weight.ensures _ _ o c.in_ok-octets.ensures, walk_turned _ _ _ _ _ _ _ _ w h c.pow2-weight.ensures _ _ o c.in_ok-octets.ensures)

pub overflow_add-end : goal.overflow_add-end
overflow_add-end c = record { fits = omega (arith, subfields_few, c.requires.0) }

pub loop-i-init : goal.loop-i-init
loop-i-init c =
    let e : c.args.first + c.args.places - c.args.first ≡ c.args.places = omega arith in
    rw e (walk_begun _ _ _ _ c.requires.2)

pub pow2-weight-requires : goal.pow2-weight-requires
pow2-weight-requires c = omega (arith, c.loop-i.invariant.from, c.requires.1)

pub slice_bounds-place_of-count : goal.slice_bounds-place_of-count
slice_bounds-place_of-count c = c.loop-i.invariant.there

pub slice_bounds-place_of-start : goal.slice_bounds-place_of-start
slice_bounds-place_of-start c = c.loop-i.invariant.there

pub place_of-requires : goal.place_of-requires
place_of-requires c = omega (arith, c.loop-i-test.true, c.requires.0)

pub returns-in_err-octets : goal.returns-in_err-octets
returns-in_err-octets c =
    let p = err_from_is_err_and c.from_residual.result c.from_residual.ensures.1 in
    rw p.1
    (rw p.2 (walk_refused _ _ _ _ _ _ _ _ c.loop-i.invariant (more (goal.at.returns-in_err-octets c).In-loop-i) c.pow2-weight.ensures _ _ c.in_err-octets.ensures))

pub nonzero_rem-left : goal.nonzero_rem-left
nonzero_rem-left c = subst (λ x. 0 < x) (sym c.pow2-weight.ensures) (pow_pos _)

pub overflow_add-at : goal.overflow_add-at
overflow_add-at c = record { fits = omega (arith, (turned (goal.at.overflow_add-at c).In_ok-octets).0, c.well_formed.1.1.1.0.0) }

pub loop-i-preserved : goal.loop-i-preserved
loop-i-preserved c =
    let e : c.args.first + c.args.places - c.loop-i.i - 1 ≡ c.args.first + c.args.places - (c.loop-i.i + 1) = omega arith in
    rw (← e) (turned (goal.at.loop-i-preserved c).In_ok-octets).1

pub returns : goal.returns
returns c = walk_ended _ _ _ _ _ _ _ _ c.loop-i.invariant (omega (arith, c.loop-i-test.false))
