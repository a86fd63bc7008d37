-- `writing::compound::size_row` meets its contract. The loop's invariant: the bits and octets so far, with those that are left, are those of the primary
-- octet (`Summing`). The measure is how many bits are left. Assumes nothing.
use mathlib.Core.Path.{◌≡◌, ap, ◌∙◌}
use native.Mathlib.Omega.{arith}
use Rattle.rules.specs.Answer.{ok}
use Rattle.tables.specs.Tables.{subfield_at}
use Rattle.writing.specs.Compound.{place_size}
use Rattle.rules.proofs.ToldLaws.{handed}
use Rattle.writing.proofs.BitTurns.{sub_many, summing, sum_all, bit_in, sum_no, mark_fits_lem, sum_short, sum_next}
use Rattle.writing.proofs.compound.size_row.Goals as goal
use Rattle.writing.proofs.compound.size_row.Goals.{In_ok-place}

-- the subfield was sized
sized_at : (c : In_ok-place)
    → ok c.in_ok-place.place
    ≡ place_size (subfield_at c.loop-i.i) c.args.values.now c.loop-i.k
sized_at c =
    c.in_ok-place.ensures ∙ ap (λ x. place_size x c.args.values.now c.loop-i.k) c.of.ensures

pub overflow_add-end : goal.overflow_add-end
overflow_add-end c = omega (arith, c.requires, sub_many)

pub loop-i-init : goal.loop-i-init
loop-i-init c = summing _ _ _

pub of-requires : goal.of-requires
of-requires c = bit_in _ _ _ _ _ _ _ _ c.loop-i.invariant c.loop-i-test.true c.requires

-- no values of a subfield
pub returns-in_err-place : goal.returns-in_err-place
returns-in_err-place c =
    handed _ _ c.from_residual.ensures.1
    ∙ sum_no _ _ _ _ _ _ _ _ c.loop-i.invariant c.loop-i-test.true (c.in_err-place.ensures ∙ ap (λ x. place_size x c.args.values.now c.loop-i.k) c.of.ensures)

pub mark-bits-requires : goal.mark-bits-requires
mark-bits-requires c = mark_fits_lem _ _ _ _ _ _ _ _ c.loop-i.invariant c.loop-i-test.true c.is_some.result

pub overflow_add-size : goal.overflow_add-size
overflow_add-size c = omega (arith, sum_short _ _ _ _ _ _ _ _ c.loop-i.invariant c.loop-i-test.true (sized_at (goal.at.overflow_add-size c).In_ok-place) c.is_some.ensures c.unwrap_or-size.ensures, c.loop-i.invariant.end_is, c.loop-i-test.true)

pub loop-i-preserved : goal.loop-i-preserved
loop-i-preserved c = sum_next _ _ _ _ _ _ _ _ c.loop-i.invariant c.loop-i-test.true (sized_at (goal.at.loop-i-preserved c).In_ok-place) c.is_some.ensures c.unwrap_or-size.ensures c.mark-bits.ensures

-- all bits are summed
pub returns : goal.returns
returns c = sum_all _ _ _ _ _ _ _ _ c.loop-i.invariant c.loop-i-test.false
