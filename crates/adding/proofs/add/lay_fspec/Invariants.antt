-- What the loop keeps.
use Rattle.sets.specs.Sets.{fspec_at}
use Rattle.adding.proofs.AddLaws.{Laying}
use Rattle.adding.proofs.add.lay_fspec.Given as goal

abbrev pub invariant-loop-k : goal.invariant-loop-k
invariant-loop-k l = Laying l.initial.out l.at (fspec_at l.profile l.set.bits) l.out l.k
