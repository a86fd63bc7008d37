-- What the loop keeps, and how much is left.
use lib.ListN.{length}
use Rattle.recordings.proofs.CountLaws.{Checking}
use Rattle.recordings.proofs.check_recording.Given as goal

abbrev pub invariant-loop-rest : goal.invariant-loop-rest
invariant-loop-rest l = Checking l.recording l.rest l.place l.counts.blocks l.counts.records

abbrev pub decreases-loop-rest : goal.decreases-loop-rest
decreases-loop-rest l = length l.rest
