-- What the loop keeps.
use Rattle.writing.proofs.PrimaryTurns.{Adding}
use Rattle.writing.proofs.compound.size_rows.Given as goal

abbrev pub invariant-loop-row : goal.invariant-loop-row
invariant-loop-row l = Adding l.fn.layout.place l.values l.rows l.first l.row l.count l.size l.at
