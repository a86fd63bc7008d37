-- `asterix_least_length` meets its contract: the profile is that of the category. Assumes nothing.
use mathlib.Core.Path.{ap, ◌∙◌}
use Rattle.rules.specs.Catalogue.{categories}
use Rattle.rules.specs.Entry.{least_length}
use Rattle.asterix.proofs.asterix_least_length.Goals as goal

pub returns : goal.returns
returns c = c.least_length.ensures ∙ ap (λ i. least_length categories i c.args.place c.args.octet) c.profile_of.ensures
