-- `sets::presence` meets its contract: seven bits, shifted by 56 at most, lose none. Assumes nothing.
use native.Mathlib.Omega.{arith}
use lib.Pow.{shl_exact}
use Rattle.sets.proofs.presence.Goals as goal

pub returns : goal.returns
returns c = shl_exact 7 _ 64 (omega arith) (omega arith)
