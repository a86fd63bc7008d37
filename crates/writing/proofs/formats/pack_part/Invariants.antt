-- What the loop keeps.
use Rattle.writing.specs.Write.{group_in}
use Rattle.writing.proofs.PartLaws.{Packing}
use Rattle.writing.proofs.formats.pack_part.Given as goal

abbrev pub invariant-loop-i : goal.invariant-loop-i
invariant-loop-i l = Packing (group_in l.group).fields l.values l.at l.end l.i l.n l.k
