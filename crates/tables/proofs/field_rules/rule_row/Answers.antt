-- `tables::field_rules::rule_row` meets its contract: the code's table is, row by row, the one that the rules' profiles give. Assumes nothing.
use Rattle.rules.specs.Catalogue.{categories}
use Rattle.tables.specs.FieldRules.{rule_rows, rules}
use Rattle.tables.specs.Tables.{groups, layouts}
use borrow.Author.Rules.{rules as steps}
use Rattle.tables.proofs.RuleLaws.{rule_row_lem}
use Rattle.tables.proofs.field_rules.rule_row.Goals as goal

pub offset_bounds-place : goal.offset_bounds-place
unfolding rules groups layouts categories
offset_bounds-place c = search steps

pub bounds-place : goal.bounds-place
unfolding rules groups layouts categories
bounds-place c = search steps

pub returns : goal.returns
unfolding rule_rows rules groups layouts categories
returns c = rule_row_lem c.args.place
