-- What the loop keeps: what is left to check says what all says.
use Prim.Native.Nat.{◌+◌}
use mathlib.Core.Path.{◌≡◌}
use Rattle.layouts.proofs.PartLaws.{Checking}
use Rattle.layouts.proofs.parts.Run.is_legal.Given as goal

abbrev pub invariant-loop-done : goal.invariant-loop-done
invariant-loop-done l = record { left : l.run.count + l._done ≡ l.fn.self.count; parts : Checking l.fn.self l.run l.s }
