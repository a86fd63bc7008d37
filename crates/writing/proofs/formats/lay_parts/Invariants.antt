-- What the loop keeps.
use Rattle.writing.proofs.PartTurns.{Placing}
use Rattle.writing.proofs.formats.lay_parts.Given as goal

abbrev pub invariant-loop-part : goal.invariant-loop-part
invariant-loop-part l = Placing l.layout.place l.values l.count l.start l.initial.out l.chained l.out l.part l.from l.at
