-- What the loop keeps.
use Rattle.writing.proofs.BitTurns.{Stepping}
use Rattle.writing.proofs.compound.lay_row.Given as goal

abbrev pub invariant-loop-i : goal.invariant-loop-i
invariant-loop-i l = Stepping l.first l.values l.at l.start l.initial.out l.end l.out l.i l.bits l.k l.q
