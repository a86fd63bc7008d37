-- `tables::tables::range_at` meets its contract: the code's table is, row by row, the one that the rules' profiles give. Assumes nothing.
use mathlib.Core.Path.{refl}
use borrow.Author.Rules.{rules}
use Rattle.rules.specs.Catalogue.{categories}
use Rattle.tables.specs.Tables.{range_rows, ranges, fields, groups, layouts}
use Rattle.tables.proofs.tables.range_at.Goals as goal

pub offset_bounds-place : goal.offset_bounds-place
unfolding ranges fields groups layouts categories
offset_bounds-place c = search rules

pub bounds-place : goal.bounds-place
unfolding ranges fields groups layouts categories
bounds-place c = search rules

pub returns : goal.returns
unfolding range_rows ranges fields groups layouts categories
returns c = refl
