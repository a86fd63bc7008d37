-- What the loop keeps.
use Rattle.marks.specs.Lists.{new_marks}
use Rattle.laying.proofs.PutLaws.{Totalled}
use Rattle.laying.proofs.put_totals.Given as goal

abbrev pub invariant-loop-j : goal.invariant-loop-j
invariant-loop-j l = Totalled (new_marks l.list.change l.list.lists l.list.bytes.now) l.initial.out l.out l.at l.j
