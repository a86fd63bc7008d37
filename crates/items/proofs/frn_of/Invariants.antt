-- What the loop keeps, and how much is left.
use Prim.Native.Nat.{◌-◌}
use Rattle.tables.specs.Tables.{frn_count}
use Rattle.items.proofs.PlaceLaws.{Seeking}
use Rattle.items.proofs.frn_of.Given as goal

abbrev pub invariant-loop-frn : goal.invariant-loop-frn
invariant-loop-frn l = Seeking l.reference l.profile l.frn

abbrev pub decreases-loop-frn : goal.decreases-loop-frn
decreases-loop-frn l = frn_count - l.frn
