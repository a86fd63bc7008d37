-- `tables::tables::subfield_at` meets its contract: the code's table is, row by row, the one that the rules' profiles give. Assumes nothing.
use mathlib.Core.Path.{refl}
use borrow.Author.Rules.{rules}
use Rattle.rules.specs.Catalogue.{categories}
use Rattle.tables.specs.Tables.{subfields_in, subfield_at, layouts}
use Rattle.tables.proofs.TableLaws.{subfield_row}
use Rattle.tables.proofs.tables.subfield_at.Goals as goal

pub bounds-place : goal.bounds-place
unfolding subfields_in layouts categories
bounds-place c = search rules

pub returns : goal.returns
unfolding subfield_at subfields_in layouts categories
returns c = (refl, subfield_row c.args.place)
