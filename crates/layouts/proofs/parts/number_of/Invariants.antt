-- What the loop keeps.
use Rattle.layouts.proofs.OctetLaws.{Gathering}
use Rattle.layouts.proofs.parts.number_of.Given as goal

abbrev pub invariant-loop-x : goal.invariant-loop-x
invariant-loop-x l = Gathering l.octets l.n l.x-index
