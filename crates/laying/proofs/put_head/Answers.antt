-- `laying::put_head` meets its contract. Assumes nothing.
use mathlib.Core.Path.{◌∙◌, ap}
use native.Mathlib.Omega.{arith}
use lib.Seq.{sets}
use Rattle.laying.proofs.PutLaws.{head_is}
use Rattle.laying.proofs.put_head.Goals as goal

pub returns : goal.returns
returns c = c.put.ensures ∙ ap (sets c.args.out.now c.args.at) (head_is c.args.tag c.args.len c.to_be_bytes.result (omega (arith, c.ranges.len)) c.to_be_bytes.ensures)
