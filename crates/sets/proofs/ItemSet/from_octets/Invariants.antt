-- What the loop keeps.
use Prim.Native.Nat.{◌+◌, ◌-◌, ◌*◌, ◌^◌, ◌≤◌}
use mathlib.Core.Path.{◌≡◌}
use lib.ListN.{drop}
use Rattle.sets.specs.Sets.{set_at}
use Rattle.sets.specs.Steps.{set_from}
use Rattle.sets.proofs.ItemSet.from_octets.Given as goal

abbrev pub invariant-loop-used : goal.invariant-loop-used
invariant-loop-used l =
    (l.most ≤ 8)
    × (l.bits + 2 ^ (63 - 7 * l.used) ≤ 2 ^ 63)
    × (set_from l.profile (l.most - l.used) (drop l.used l.part) l.bits l.used ≡ set_at l.profile l.part)
