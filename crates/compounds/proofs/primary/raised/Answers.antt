-- `compounds::primary::raised` meets its contract. Assumes nothing.
use Prim.Native.Nat.{◌*◌, ◌/◌, ◌^◌}
use mathlib.Core.Path.{◌≡◌, ap₂}
use native.Mathlib.Omega.{arith}
use Rattle.compounds.proofs.PrimaryLaws.{raised_fits}
use borrow.Author.Rules.{rules}
use Rattle.compounds.proofs.primary.raised.Goals as goal

pub returns : goal.returns
returns c = ap₂ ◌*◌ c.wide.ensures.0 c.pow2.ensures

pub overflow_mul-result : goal.overflow_mul-result
overflow_mul-result c =
    let e : c.wide.result * c.pow2.result ≡ c.args.x / 2 * 2 ^ (7 * c.args.left) = ap₂ ◌*◌ c.wide.ensures.0 c.pow2.ensures in
    record { fits = omega (arith, raised_fits c.args.x c.args.left (search rules) c.requires) }
