-- `compounds::fields::item_fields` meets its contract. Assumes nothing.
use mathlib.Core.Path.{sym}
use native.Mathlib.Omega.{arith}
use Rattle.rules.proofs.AnswerLaws.{Octets}
use Rattle.layouts.proofs.OctetLaws.{octets_known}
use Rattle.compounds.proofs.PrimaryLaws.{primaries_few, small_said, primary_small}
use Rattle.compounds.proofs.SubfieldLaws.{Compounded, compounded, plain_room, rows_in, primary_there}
use Rattle.compounds.proofs.FieldLaws.{plain_fits, plain_kept, primary_passes, named_passes, compound_kept}
use Rattle.compounds.proofs.fields.item_fields.Goals as goal
use Rattle.compounds.proofs.fields.item_fields.Goals.{In-Compound}

pub parts_fields-requires : goal.parts_fields-requires
parts_fields-requires c = (c.requires.0, plain_fits c.args.l _ _ c.requires.2 c.in_default.not-Compound, omega (arith, plain_room c.args.l c.requires.1 c.in_default.not-Compound))

pub returns-in_default : goal.returns-in_default
returns-in_default c = plain_kept c.args.l c.args.s.now c.args.parts c.requires.2 c.args.out.now _ c.in_default.not-Compound _ c.parts_fields.ensures

-- a compound item's row
row_at : (c : In-Compound) → Compounded c.args.l
row_at c = compounded c.args.l c.requires.1 c.in-Compound.is

pub overflow_sub-octets : goal.overflow_sub-octets
overflow_sub-octets c = (row_at (goal.at.overflow_sub-octets c).In-Compound).order

pub primary_of-requires : goal.primary_of-requires
primary_of-requires c = let r = row_at (goal.at.primary_of-requires c).In-Compound in (omega (arith, r.order, r.inside), omega (arith, r.few))

-- what was checked has its primary octets
pub unreachable-requires : goal.unreachable-requires
unreachable-requires c = primary_passes c.args.l c.args.s.now c.args.parts c.requires.2 c.in-Compound.is _ _ c.in_default-primary_of.ensures

pub slice_bounds-subfields-count : goal.slice_bounds-subfields-count
slice_bounds-subfields-count c = primary_there c.args.l _ _ _ c.in-Ok.ensures

pub slice_bounds-subfields-start : goal.slice_bounds-subfields-start
slice_bounds-subfields-start c = primary_there c.args.l _ _ _ c.in-Ok.ensures

pub overflow_mul-first : goal.overflow_mul-first
overflow_mul-first c = let r = row_at (goal.at.overflow_mul-first c).In-Compound in record { fits = omega (arith, primaries_few, r.order, r.inside) }

pub overflow_mul-octets : goal.overflow_mul-octets
overflow_mul-octets c = let r = row_at (goal.at.overflow_mul-octets c).In-Compound in record { fits = omega (arith, r.few) }

pub subfields_fields-requires : goal.subfields_fields-requires
subfields_fields-requires c =
    let r = row_at (goal.at.subfields_fields-requires c).In-Compound in
    let o : Octets c.args.s.now = octets_known c.args.s.now (λ i. omega (arith, c.type_inv.s i)) in
    record {
      places_bound = (rows_in _ _ r.order r.inside, omega (arith, r.few), (small_said _ _ _ (primary_small _ _ _ o) (sym c.in-Ok.ensures)).0);
      places_bound_2 = r.room;
      passes = named_passes c.args.l c.args.s.now c.args.parts c.requires.2 c.in-Compound.is _ _ c.in-Ok.ensures;
    }

pub returns-in-Ok : goal.returns-in-Ok
returns-in-Ok c = compound_kept c.args.l c.args.s.now c.args.parts c.requires.2 c.in-Compound.is _ _ c.in-Ok.ensures _ _ _ c.subfields_fields.ensures
