-- `tables::field_rules::single_at` meets its contract: the code's table is, row by row, the one that the rules' profiles give. Assumes nothing.
use mathlib.Core.Path.{refl}
use Rattle.rules.specs.Catalogue.{categories}
use Rattle.tables.specs.FieldRules.{singles}
use Rattle.tables.specs.Tables.{group_at, groups, layout_at, layouts}
use Rattle.tables.proofs.field_rules.single_at.Goals as goal

pub returns : goal.returns
unfolding singles group_at groups layout_at layouts categories
returns c = refl
