-- `record::before` meets its contract: the bits that are moved down and up again fit. Assumes nothing.
use Prim.Native.Nat.{◌+◌, ◌-◌}
use mathlib.Core.Path.{◌≡◌}
use native.Mathlib.Omega.{arith}
use lib.Pow.{shl_exact, shr_lt}
use Rattle.measuring.proofs.record.before.Goals as goal

pub returns : goal.returns
returns c = let e : c.args.frn + (64 - c.args.frn) ≡ 64 = omega (arith, c.requires) in shl_exact c.args.frn (64 - c.args.frn) 64 (shr_lt c.args.frn (64 - c.args.frn) (rw e (omega (arith, c.ranges.bits)))) (omega arith)
