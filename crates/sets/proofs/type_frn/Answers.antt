-- `sets::type_frn` meets its contract: the table of profiles has the FRN of the message type item. Assumes nothing.
use mathlib.Core.Path.{ap, ◌∙◌}
use Rattle.tables.proofs.ProfileLaws.{row_kind}
use Rattle.sets.specs.Steps.{type_frn}
use Rattle.sets.proofs.type_frn.Goals as goal

pub returns : goal.returns
unfolding type_frn
returns c = ap (λ r. r.kind) c.profile_row.ensures ∙ row_kind _
