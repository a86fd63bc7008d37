-- What the loop keeps.
use Rattle.marks.proofs.NumberLaws.{Counting}
use Rattle.marks.specs.Lists.{new_count, new_at}
use Rattle.marks.proofs.NewList.count_of.Given as goal

abbrev pub invariant-loop-j : goal.invariant-loop-j
invariant-loop-j l = Counting (new_at l.self.change l.self.lists l.self.bytes.now) (new_count l.self.change l.self.lists) l.station l.total l.j
