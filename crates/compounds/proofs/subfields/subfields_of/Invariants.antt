-- What the loop keeps.
use Prim.Native.Nat.{◌+◌, ◌-◌}
use Rattle.compounds.proofs.SubfieldLaws.{Walking}
use Rattle.compounds.proofs.subfields.subfields_of.Given as goal

abbrev pub invariant-loop-i : goal.invariant-loop-i
invariant-loop-i l = Walking l.first l.places l.bits l.s l.i (l.first + l.places - l.i) l.left l.at
