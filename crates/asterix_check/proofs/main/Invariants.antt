-- What came is inside the buffer, and so is what is still wanted of it. Assumes nothing.
use Prim.Native.Nat.{◌≤◌}
use mathlib.Core.Path.{◌≡◌}
use lib.ListN.{length}
use Rattle.asterix_check.proofs.main.Given as goal

abbrev pub invariant-loop : goal.invariant-loop
invariant-loop l = (length l.buffer ≡ 131072) × (l.pending.from ≤ l.pending.to) × (l.pending.to ≤ 131072)
