-- What the loop keeps, and how much is left.
use Rattle.quick_records.proofs.RecordLaws.{Standing}
use Rattle.quick_records.proofs.record.later_items.Given as goal

abbrev pub invariant-loop-left : goal.invariant-loop-left
invariant-loop-left l = Standing l.profile l.bits l.part l.left l.rest

abbrev pub decreases-loop-left : goal.decreases-loop-left
decreases-loop-left l = l.left
