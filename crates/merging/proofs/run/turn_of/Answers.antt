-- `run::turn_of` meets its contract: by the sign. Assumes nothing.
use mathlib.Core.Path.{ap, ◌∙◌}
use mir.Syntax.{w64}
use mir.ValLaws.{to_z-of_z}
use lib.Signed.{mag}
use Rattle.merging.proofs.WhichLaws.{turn_neg, turn_pos}
use Rattle.merging.proofs.run.turn_of.Goals as goal

pub returns-then-amount-lt0 : goal.returns-then-amount-lt0
returns-then-amount-lt0 c = turn_neg _ _ _ (to_z-of_z w64 c.args.amount c.ranges.amount) c.if-amount-lt0.true (c.magnitude-n.ensures ∙ ap mag (to_z-of_z w64 c.args.amount c.ranges.amount))

pub returns : goal.returns
returns c = turn_pos _ _ _ (to_z-of_z w64 c.args.amount c.ranges.amount) c.if-amount-lt0.false (c.magnitude-n.ensures ∙ ap mag (to_z-of_z w64 c.args.amount c.ranges.amount))
