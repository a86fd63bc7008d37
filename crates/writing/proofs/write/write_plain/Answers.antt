-- `writing::write::write_plain` meets its contract: at each `return` the tests that led there say what the rules' `write_fields` answers (`ItemLaws`). Assumes
-- nothing.
use mathlib.Core.Path.{◌∙◌}
use Rattle.rules.proofs.ToldLaws.{refused_as, handed}
use Rattle.writing.proofs.ItemLaws.{plain_no, parts_few, plain_lays, plain_fits, plain_untold, plain_full, plain_done}
use Rattle.writing.proofs.write.write_plain.Goals as goal

pub are_told-requires : goal.are_told-requires
are_told-requires c = parts_few _ _ c.args.out.now c.requires _ c.values_of-n.ensures _ _ c.in_ok-count.ensures

-- a part is neither there nor said to be absent
pub returns-then-not-are_told : goal.returns-then-not-are_told
returns-then-not-are_told c = let told = plain_untold _ _ _ c.requires _ c.values_of-n.ensures _ _ c.in_ok-count.ensures c.are_told.ensures c.if-not-are_told.true in
    record { answer = refused_as _ _ _ c.at.ensures.is c.at.ensures.place ∙ told.0; left = told.1 }

-- 16
pub returns-then-out-size : goal.returns-then-out-size
returns-then-out-size c =
    let told = plain_full _ _ _ c.requires _ c.values_of-n.ensures _ _ c.in_ok-count.ensures c.are_told.ensures c.if-not-are_told.false c.if-out-size.true in
    record { answer = refused_as _ _ _ c.at-then-out-size.ensures.is c.at-then-out-size.ensures.place ∙ told.0; left = told.1 }

pub lay-requires : goal.lay-requires
lay-requires c =
    record { passes = (plain_lays _ _ c.args.out.now c.requires _ c.values_of-n.ensures _ _ c.in_ok-count.ensures); values_in_bounds = plain_fits _ _ c.args.out.now c.requires _ c.values_of-n.ensures _ _ c.in_ok-count.ensures c.if-out-size.false }

-- the values make no parts: as it was handed back
pub returns-in_err-count : goal.returns-in_err-count
returns-in_err-count c = let told = plain_no _ _ _ c.requires _ c.values_of-n.ensures c.in_err-count.ensures in
    record { answer = handed _ _ c.from_residual.ensures.1 ∙ told.0; left = told.1 }

-- the item is laid
pub returns : goal.returns
returns c =
    let told = plain_done _ _ _ c.requires _ c.values_of-n.ensures _ _ c.in_ok-count.ensures c.are_told.ensures c.if-not-are_told.false c.if-out-size.false c.lay.ensures.0 in
    record { answer = told.0; left = told.1 }
