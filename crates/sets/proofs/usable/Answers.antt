-- `sets::usable` meets its contract: the table of profiles has the FRNs that have an item. Assumes nothing.
use mathlib.Core.Path.{ap, ◌∙◌}
use Rattle.tables.proofs.ProfileLaws.{row_usable}
use Rattle.sets.specs.Steps.{usable_bits}
use Rattle.sets.proofs.usable.Goals as goal

pub returns : goal.returns
unfolding usable_bits
returns c = ap (λ r. r.usable) c.profile_row.ensures ∙ row_usable _
