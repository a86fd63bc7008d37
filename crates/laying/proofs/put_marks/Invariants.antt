-- What the loop keeps.
use Rattle.marks.specs.Lists.{new_at}
use Rattle.laying.proofs.PutLaws.{Laid}
use Rattle.laying.proofs.put_marks.Given as goal

abbrev pub invariant-loop-j : goal.invariant-loop-j
invariant-loop-j l = Laid (new_at l.list.change l.list.lists l.list.bytes.now) l.shape l.a l.b l.at l.initial.out l.out l.j
