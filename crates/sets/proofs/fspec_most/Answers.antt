-- `sets::fspec_most` meets its contract: the table of profiles has how many octets an FSPEC has at most. Assumes nothing.
use mathlib.Core.Path.{ap, ◌∙◌}
use Rattle.tables.proofs.ProfileLaws.{row_octets_lem}
use Rattle.sets.proofs.fspec_most.Goals as goal

pub returns : goal.returns
returns c = ap (λ r. r.octets) c.profile_row.ensures ∙ row_octets_lem _
