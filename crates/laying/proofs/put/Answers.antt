-- `laying::put` meets its contract. Assumes nothing.
use native.Mathlib.Omega.{arith}
use Rattle.laying.proofs.PutLaws.{put_part}
use Rattle.laying.proofs.put.Goals as goal

pub returns : goal.returns
returns c = rw c.copy_from_slice.ensures.after (put_part c.args.bytes.now c.args.out.now c.args.at _ (omega arith) (omega (arith, c.requires)))
