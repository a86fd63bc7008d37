-- What the loop keeps.
use Rattle.writing.proofs.BitTurns.{Summing}
use Rattle.writing.proofs.compound.size_row.Given as goal

abbrev pub invariant-loop-i : goal.invariant-loop-i
invariant-loop-i l = Summing l.first l.values l.at l.end l.i l.bits l.size l.k
