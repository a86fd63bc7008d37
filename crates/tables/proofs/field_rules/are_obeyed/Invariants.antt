-- What the loop keeps.
use Rattle.tables.proofs.RuleLaws.{Asking}
use Rattle.tables.proofs.field_rules.are_obeyed.Given as goal

abbrev pub invariant-loop-i : goal.invariant-loop-i
invariant-loop-i l = Asking l.first l.end l.n l.i
