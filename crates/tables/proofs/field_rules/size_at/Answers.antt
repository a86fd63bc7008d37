-- `tables::field_rules::size_at` meets its contract: the code's table is, row by row, the one that the rules' profiles give. Assumes nothing.
use borrow.Author.Rules.{rules}
use Rattle.rules.specs.Catalogue.{categories}
use Rattle.tables.specs.FieldRules.{sizes}
use Rattle.tables.specs.Tables.{groups, layouts}
use Rattle.tables.proofs.RuleLaws.{size_of}
use Rattle.tables.proofs.field_rules.size_at.Goals as goal

pub bounds-group : goal.bounds-group
unfolding groups layouts categories
bounds-group c = search rules

pub returns : goal.returns
unfolding sizes groups layouts categories
returns c = size_of c.args.group
