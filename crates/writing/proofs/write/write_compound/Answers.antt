-- `writing::write::write_compound` meets its contract: at each `return` the tests that led there say what the rules' `write_fields` answers (`ItemLaws`).
-- Assumes nothing.
use mathlib.Core.Path.{◌∙◌}
use Rattle.rules.proofs.ToldLaws.{refused_as, handed}
use Rattle.writing.proofs.ItemLaws.{compound_no, compound_lays, compound_fits, compound_full, compound_done}
use Rattle.writing.proofs.write.write_compound.Goals as goal

-- 16
pub returns-then-out-size : goal.returns-then-out-size
returns-then-out-size c = let told = compound_full _ _ _ c.requires _ _ c.in_ok-count.ensures c.if-out-size.true in
    record { answer = refused_as _ _ _ c.at.ensures.is c.at.ensures.place ∙ told.0; left = told.1 }

pub lay_rows-requires : goal.lay_rows-requires
lay_rows-requires c =
    record { passes = ((c.requires, compound_lays _ _ c.args.out.now c.requires _ _ c.in_ok-count.ensures)); values_in_bounds = compound_fits _ _ c.args.out.now c.requires _ _ c.in_ok-count.ensures c.if-out-size.false }

-- they are not its fields
pub returns-in_err-count : goal.returns-in_err-count
returns-in_err-count c = let told = compound_no _ _ _ c.requires c.in_err-count.ensures in
    record { answer = handed _ _ c.from_residual.ensures.1 ∙ told.0; left = told.1 }

-- the item is laid
pub returns : goal.returns
returns c = let told = compound_done _ _ _ c.requires _ _ c.in_ok-count.ensures c.if-out-size.false c.lay_rows.ensures in
    record { answer = told.0; left = told.1 }
