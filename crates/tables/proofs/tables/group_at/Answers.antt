-- `tables::tables::group_at` meets its contract: the row is read from its digits. Assumes nothing.
use borrow.Author.Rules.{rules}
use Rattle.rules.specs.Catalogue.{categories}
use Rattle.tables.specs.Tables.{group_words, groups, layouts}
use Rattle.tables.proofs.TableLaws.{group_digits_lem}
use Rattle.tables.proofs.tables.group_at.Goals as goal

pub offset_bounds-place : goal.offset_bounds-place
unfolding groups layouts categories
offset_bounds-place c = search rules

pub bounds-place : goal.bounds-place
unfolding groups layouts categories
bounds-place c = search rules

pub returns : goal.returns
unfolding group_words groups layouts categories
returns c = group_digits_lem c.args.place c.requires
