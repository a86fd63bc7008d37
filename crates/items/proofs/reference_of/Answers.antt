-- `items::reference_of` meets its contract. Assumes nothing.
use mathlib.Core.Path.{ap, ◌∙◌}
use Rattle.items.specs.Answers.{reference_in}
use Rattle.items.proofs.PlaceLaws.{place_reference}
use Rattle.items.proofs.reference_of.Goals as goal

pub returns : goal.returns
returns c = place_reference _ c.in_ok-p.ensures.row.some c.in_ok-p.ensures.row.inside ∙ ap reference_in c.in_ok-p.ensures.place
