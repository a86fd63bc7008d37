-- `compounds::subfields::compound_of` meets its contract. Assumes nothing.
use Prim.Native.Nat.{◌+◌, ◌≤◌}
use lib.ListN.{length}
use mathlib.Core.Path.{◌≡◌, sym}
use native.Mathlib.Omega.{arith}
use Rattle.std.proofs.lemmas.Result.{err_from_is_err_and}
use Rattle.rules.specs.Answer.{ok}
use Rattle.layouts.proofs.OctetLaws.{octets_known}
use Rattle.compounds.specs.Compound.{compound_read, size_from}
use Rattle.compounds.proofs.PrimaryLaws.{primaries_few, small_said, primary_small}
use Rattle.compounds.proofs.SubfieldLaws.{rows_in, primary_there, compound_refused, compound_stopped, compound_size}
use Rattle.compounds.proofs.subfields.compound_of.Goals as goal
use Rattle.compounds.proofs.subfields.compound_of.Goals.{In_ok-long}

pub returns-in_err-primary : goal.returns-in_err-primary
returns-in_err-primary c =
    let p = err_from_is_err_and c.from_residual.result c.from_residual.ensures.1 in
    rw p.1 (rw (p.2.0, p.2.1) (compound_refused _ _ _ _ c.in_err-primary.ensures))

pub overflow_mul-first : goal.overflow_mul-first
overflow_mul-first c = record { fits = omega (arith, primaries_few, c.requires.0, c.requires.1) }

pub slice_bounds-subfields_of-count : goal.slice_bounds-subfields_of-count
slice_bounds-subfields_of-count c = primary_there c.args.l _ _ _ c.in_ok-primary.ensures

pub slice_bounds-subfields_of-start : goal.slice_bounds-subfields_of-start
slice_bounds-subfields_of-start c = primary_there c.args.l _ _ _ c.in_ok-primary.ensures

pub subfields_of-requires : goal.subfields_of-requires
subfields_of-requires c = (
  rows_in _ _ c.requires.0 c.requires.1,
  omega (arith, c.requires.2),
  (small_said _ _ _ (primary_small _ _ _ (octets_known c.args.s.now (λ i. omega (arith, c.type_inv.s i)))) (sym c.in_ok-primary.ensures)).0,
)

pub returns-in_err-long : goal.returns-in_err-long
returns-in_err-long c =
    let p = err_from_is_err_and c.from_residual-in_err-long.result c.from_residual-in_err-long.ensures.1 in
    rw p.1 (rw p.2 (compound_stopped _ _ _ _ c.in_ok-primary.ensures _ _ c.in_err-long.ensures))

-- its subfields
read_at : (c : In_ok-long)
    → (c.in_ok-primary.primary.count + c.in_ok-long.long ≤ length c.args.s.now)
    × (ok (0, c.in_ok-primary.primary.count + c.in_ok-long.long) ≡ size_from 0 (compound_read c.args.l c.args.s.now))
read_at c = compound_size _ _ _ _ c.in_ok-primary.ensures _ _ (octets_known c.args.s.now (λ i. omega (arith, c.type_inv.s i))) c.in_ok-long.ensures

pub overflow_add-result : goal.overflow_add-result
overflow_add-result c = record { fits = omega (arith, (read_at (goal.at.overflow_add-result c).In_ok-long).0, c.well_formed.1.0.0) }

pub returns : goal.returns
returns c = (read_at (goal.at.returns c).In_ok-long).1
