-- `tables::tables::layout_at` meets its contract: the row is read from its digits. Assumes nothing.
use borrow.Author.Rules.{rules}
use Rattle.rules.specs.Catalogue.{categories}
use Rattle.tables.specs.Tables.{layout_words, layouts}
use Rattle.tables.proofs.TableLaws.{layout_digits_lem}
use Rattle.tables.proofs.tables.layout_at.Goals as goal

pub offset_bounds-place : goal.offset_bounds-place
unfolding layouts categories
offset_bounds-place c = search rules

pub bounds-place : goal.bounds-place
unfolding layouts categories
bounds-place c = search rules

pub returns : goal.returns
unfolding layout_words layouts categories
returns c = rw (c.kind_of.ensures) (layout_digits_lem c.args.place c.requires)
