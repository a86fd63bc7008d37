-- `marks::mark_at` meets its contract. Assumes nothing.
use Rattle.marks.proofs.NumberLaws.{at_mark}
use Rattle.marks.proofs.mark_at.Goals as goal

pub returns : goal.returns
returns c = at_mark _ _ _ _ _ _ c.place_at-at.ensures c.shape_at-shape.ensures c.mark_in.ensures
