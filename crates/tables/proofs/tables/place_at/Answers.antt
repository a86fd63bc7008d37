-- `tables::tables::place_at` meets its contract: the code's table is, row by row, the one that the rules' profiles give. Assumes nothing.
use mathlib.Core.Path.{ap}
use Rattle.rules.specs.Catalogue.{categories}
use Rattle.tables.specs.Tables.{place_pairs}
use Rattle.tables.proofs.TableLaws.{place_pair_lem}
use Rattle.tables.proofs.tables.place_at.Goals as goal

pub returns : goal.returns
unfolding place_pairs categories
returns c = ap (λ p. record { layout = p.0; reference = p.1 }) (place_pair_lem c.args.place)
