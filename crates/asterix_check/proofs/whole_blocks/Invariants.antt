-- What the loop keeps, and how much is left.
use lib.ListN.{length}
use Rattle.asterix_check.proofs.WholeLaws.{Cutting}
use Rattle.asterix_check.proofs.whole_blocks.Given as goal

abbrev pub invariant-loop-next : goal.invariant-loop-next
invariant-loop-next l = Cutting l.part l.rest

abbrev pub decreases-loop-next : goal.decreases-loop-next
decreases-loop-next l = length l.rest
