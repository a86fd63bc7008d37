-- What the loop keeps, and how much is left.
use lib.ListN.{length}
use Rattle.merging.specs.Heads.{left_of}
use Rattle.merging.proofs.SeekLaws.{Seeking}
use Rattle.merging.proofs.heads.seek.Given as goal

abbrev pub invariant-loop-at : goal.invariant-loop-at
invariant-loop-at l = Seeking l.recording l.place l.at

abbrev pub decreases-loop-at : goal.decreases-loop-at
decreases-loop-at l = length (left_of l.recording l.at)
