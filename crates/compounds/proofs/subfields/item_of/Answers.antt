-- `compounds::subfields::item_of` meets its contract. Assumes nothing.
use Rattle.std.proofs.lemmas.Result.{err_from_is_err_and}
use Rattle.compounds.proofs.SubfieldLaws.{compounded, shape_compound, shape_plain}
use Rattle.compounds.proofs.subfields.item_of.Goals as goal

pub compound_of-requires : goal.compound_of-requires
compound_of-requires c = let s = compounded c.args.l c.requires.1 c.in-Compound.is in (s.order, s.inside, s.few)

pub returns-in_err-long-in-Compound : goal.returns-in_err-long-in-Compound
returns-in_err-long-in-Compound c =
    let p = err_from_is_err_and c.from_residual.result c.from_residual.ensures.1 in
    rw p.1 (rw p.2 (shape_compound _ _ c.in-Compound.is c.in_err-long-in-Compound.ensures))

pub returns-in_ok-long-in-Compound : goal.returns-in_ok-long-in-Compound
returns-in_ok-long-in-Compound c = shape_compound _ _ c.in-Compound.is c.in_ok-long-in-Compound.ensures

pub returns-in_default : goal.returns-in_default
returns-in_default c = shape_plain _ _ c.in_default.not-Compound c.whole_of.ensures
