-- `tables::tables::primary_at` meets its contract: the code's table is, row by row, the one that the rules' profiles give. Assumes nothing.
use mathlib.Core.Path.{refl}
use borrow.Author.Rules.{rules}
use Rattle.rules.specs.Presence.{number}
use Rattle.rules.specs.Catalogue.{categories}
use Rattle.tables.specs.Tables.{primaries_in, primaries, primary_at, layouts}
use Rattle.tables.proofs.tables.primary_at.Goals as goal

pub bounds-place : goal.bounds-place
unfolding primaries layouts categories
bounds-place c = search rules

pub returns : goal.returns
unfolding primary_at primaries_in primaries layouts number categories
returns c = refl
