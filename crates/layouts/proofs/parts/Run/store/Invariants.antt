-- What the loop keeps: what is left to store makes of the output what all makes.
use Prim.Native.Nat.{◌+◌}
use mathlib.Core.Path.{◌≡◌}
use Rattle.layouts.proofs.StoreLaws.{StoringRun}
use Rattle.layouts.proofs.parts.Run.store.Given as goal

abbrev pub invariant-loop-done : goal.invariant-loop-done
invariant-loop-done l = record { left : l.run.count + l._done ≡ l.fn.self.count; parts : StoringRun l.fn.self l.s l.initial.out l.start l.run l.next l.out }
