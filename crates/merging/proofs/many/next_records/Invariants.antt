-- What the loop keeps.
use Rattle.merging.proofs.ManyLaws.{Held}
use Rattle.merging.proofs.many.next_records.Given as goal

abbrev pub invariant-loop-n : goal.invariant-loop-n
invariant-loop-n l = Held l.log_a l.log_b l.fn.merge l.initial.out l.room l.n l.sides l.turn l.out
