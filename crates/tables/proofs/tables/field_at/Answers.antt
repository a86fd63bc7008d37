-- `tables::tables::field_at` meets its contract: the row is read from its digits, and its range from the ranges. Assumes nothing.
use borrow.Author.Rules.{rules}
use Rattle.rules.specs.Catalogue.{categories}
use Rattle.tables.specs.Tables.{field_words, ranges, fields, groups, layouts}
use Rattle.tables.proofs.KindLaws.{holds_read}
use Rattle.tables.proofs.TableLaws.{field_digits_lem, field_kind, field_range, least_word, greatest_word}
use Rattle.tables.proofs.tables.field_at.Goals as goal

pub offset_bounds-place : goal.offset_bounds-place
unfolding fields groups layouts categories
offset_bounds-place c = search rules

pub bounds-place : goal.bounds-place
unfolding fields groups layouts categories
bounds-place c = search rules

pub range_at-least-requires : goal.range_at-least-requires
unfolding field_words ranges fields groups layouts categories
range_at-least-requires c = field_range c.args.place c.requires

pub holds_of-requires : goal.holds_of-requires
unfolding field_words ranges fields groups layouts categories
holds_of-requires c = field_kind c.args.place c.requires

pub returns : goal.returns
unfolding field_words ranges fields groups layouts categories
returns c = rw (c.range_at-least.ensures, least_word, greatest_word, holds_read _ _ c.holds_of.ensures) (field_digits_lem c.args.place c.requires)
