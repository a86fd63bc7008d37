-- What the loop keeps, and how much is left.
use Prim.Native.Nat.{◌-◌}
use Rattle.writing.proofs.PartTurns.{Counting}
use Rattle.writing.proofs.formats.count_parts.Given as goal

abbrev pub invariant-loop-at : goal.invariant-loop-at
invariant-loop-at l = Counting l.layout.place l.values l.most l.count l.size l.at

abbrev pub decreases-loop-at : goal.decreases-loop-at
decreases-loop-at l = l.most - l.count
