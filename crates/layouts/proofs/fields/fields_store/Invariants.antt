-- What the loop keeps.
use Rattle.layouts.proofs.StoreLaws.{Storing}
use Rattle.layouts.proofs.fields.fields_store.Given as goal

abbrev pub invariant-loop-i : goal.invariant-loop-i
invariant-loop-i l = Storing l.a l.e l.n l.at l.initial.out l.i l.rest l.left l.next l.out
