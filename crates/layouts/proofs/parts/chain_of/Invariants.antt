-- What the loop keeps.
use Rattle.layouts.proofs.ShapeLaws.{Chaining}
use Rattle.layouts.proofs.parts.chain_of.Given as goal

abbrev pub invariant-loop-g : goal.invariant-loop-g
invariant-loop-g l = Chaining l.first l.last l.s l.g l.at l.count
