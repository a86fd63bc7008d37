-- What the loop keeps.
use Rattle.writing.proofs.PartLaws.{Laying}
use Rattle.writing.proofs.formats.lay_number.Given as goal

abbrev pub invariant-loop-k : goal.invariant-loop-k
invariant-loop-k l = Laying l.n l.size l.at l.initial.out l.out l.k
