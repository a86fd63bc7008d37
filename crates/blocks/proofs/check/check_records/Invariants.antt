-- What the loop keeps, and how much is left.
use lib.ListN.{length}
use Rattle.sets.specs.Sets.{category_at}
use Rattle.blocks.proofs.RecordLaws.{Counting}
use Rattle.blocks.proofs.check.check_records.Given as goal

abbrev pub invariant-loop-rest : goal.invariant-loop-rest
invariant-loop-rest l = Counting (category_at l.profile) l.part l.from l.rest l.at l.n

abbrev pub decreases-loop-rest : goal.decreases-loop-rest
decreases-loop-rest l = length l.rest
