-- What the loop keeps.
use Rattle.writing.proofs.PrimaryTurns.{Filling}
use Rattle.writing.proofs.compound.lay_rows.Given as goal

abbrev pub invariant-loop-row : goal.invariant-loop-row
invariant-loop-row l = Filling l.fn.layout.place l.values l.count l.initial.out l.first l.out l.row l.at l.q
