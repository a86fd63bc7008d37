-- `tables::field_rules::first_rule` meets its contract: the code's table is, row by row, the one that the rules' profiles give. Assumes nothing.
use mathlib.Core.Path.{refl}
use borrow.Author.Rules.{rules}
use Rattle.rules.specs.Catalogue.{categories}
use Rattle.tables.specs.FieldRules.{first_rule}
use Rattle.tables.specs.Tables.{groups, layouts}
use Rattle.tables.proofs.field_rules.first_rule.Goals as goal

pub bounds-group : goal.bounds-group
unfolding groups layouts categories
bounds-group c = search rules

pub returns : goal.returns
unfolding first_rule groups layouts categories
returns c = refl
