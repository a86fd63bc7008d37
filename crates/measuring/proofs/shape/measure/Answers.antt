-- `measuring::shape::measure` meets its contract: what a shape tells is the measure. Assumes nothing.
use mathlib.Core.Path.{sym}
use Rattle.measuring.proofs.ShapeLaws.{told_measure}
use Rattle.measuring.proofs.shape.measure.Goals as goal

pub returns-in-Some : goal.returns-in-Some
returns-in-Some c = told_measure c.args.category _ c.args.part.now c.in-Some.known c.profile_of-profile.ensures c.in-Some.ensures

pub returns-in-None : goal.returns-in-None
returns-in-None c = told_measure c.args.category _ c.args.part.now _ c.profile_of-profile.ensures (sym c.by_items.ensures)
