-- What the loop keeps.
use Rattle.marks.specs.Lists.{new_marks}
use Rattle.viewing.proofs.TotalLaws.{Agreed}
use Rattle.viewing.proofs.totals_agree.Given as goal

abbrev pub invariant-loop-j : goal.invariant-loop-j
invariant-loop-j l = Agreed (new_marks l.list.change l.list.lists l.list.bytes.now) l.body l.j
