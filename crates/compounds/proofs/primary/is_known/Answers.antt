-- `compounds::primary::is_known` meets its contract. Assumes nothing.
use mathlib.Core.Path.{ap}
use lib.Bits.{bit_and}
use lib.Dec.{eqb}
use Prim.Native.Nat.{◌/◌}
use Rattle.compounds.proofs.primary.is_known.Goals as goal

pub returns : goal.returns
returns c = ap (λ p. eqb (bit_and (c.args.x / 2) (p / 2)) (c.args.x / 2)) c.primary_at.ensures
