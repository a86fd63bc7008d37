-- What the loop keeps.
use Rattle.sets.proofs.FspecLaws.{Counting}
use Rattle.sets.proofs.octets_of.Given as goal

abbrev pub invariant-loop-n : goal.invariant-loop-n
invariant-loop-n l = Counting l.bits l.left l.n
