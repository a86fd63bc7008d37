-- `run::in_range` meets its contract: by the sign. Assumes nothing.
use mathlib.Core.Path.{ap, ◌∙◌}
use mir.Syntax.{w64}
use mir.ValLaws.{to_z-of_z}
use lib.Signed.{mag}
use Rattle.merging.proofs.WhichLaws.{range_neg, range_pos}
use Rattle.merging.proofs.run.in_range.Goals as goal

pub returns-then-offset-lt0 : goal.returns-then-offset-lt0
returns-then-offset-lt0 c = range_neg _ _ _ (to_z-of_z w64 c.args.offset c.ranges.offset) c.if-offset-lt0.true (c.magnitude-n.ensures ∙ ap mag (to_z-of_z w64 c.args.offset c.ranges.offset))

pub returns : goal.returns
returns c = range_pos _ _ _ (to_z-of_z w64 c.args.offset c.ranges.offset) c.if-offset-lt0.false (c.magnitude-n.ensures ∙ ap mag (to_z-of_z w64 c.args.offset c.ranges.offset))
