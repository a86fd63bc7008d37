-- What the loop keeps.
use Rattle.adding.proofs.AddLaws.{Laying}
use Rattle.adding.proofs.add.lay_record.Given as goal

abbrev pub invariant-loop-k : goal.invariant-loop-k
invariant-loop-k l = Laying l.initial.out l.start l.items l.out l.k
