-- `laying::put_start` meets its contract. Assumes nothing.
use mathlib.Core.Path.{◌∙◌, ap}
use native.Mathlib.Omega.{arith}
use lib.Seq.{sets}
use Rattle.laying.proofs.PutLaws.{start_is}
use Rattle.laying.proofs.put_start.Goals as goal

pub returns : goal.returns
returns c = c.put.ensures ∙ ap (sets c.args.out.now 0) (start_is c.args.edition c.args.code c.to_be_bytes.result (omega (arith, c.ranges.code)) c.to_be_bytes.ensures)
