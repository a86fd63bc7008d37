-- What the loop keeps.
use Prim.Native.Nat.{◌+◌, ◌-◌}
use Rattle.compounds.proofs.FieldLaws.{Absent}
use Rattle.compounds.proofs.fields.absent_store.Given as goal

abbrev pub invariant-loop-at : goal.invariant-loop-at
invariant-loop-at l = Absent l.n l.start l.initial.out (l.start + l.n - l.at) l.at l.out
