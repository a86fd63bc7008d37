-- What the loop keeps.
use Rattle.marks.proofs.MarkSteps.{Passed}
use Rattle.marks.proofs.pass_marks.Given as goal

abbrev pub invariant-loop-i : goal.invariant-loop-i
invariant-loop-i l = Passed l.shape l.n l.body l.key l.least l.tally l.i
