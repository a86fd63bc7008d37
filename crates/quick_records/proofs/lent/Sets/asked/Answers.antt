-- `quick_records::lent::Sets::asked` meets its contract: the rows are those of the rules' messages. Assumes nothing.
use native.Mathlib.Omega.{arith}
use Rattle.quick_records.proofs.ShapeLaws.{sets_read}
use Rattle.quick_records.proofs.lent.Sets.asked.Goals as goal

pub returns : goal.returns
returns c =
    (sets_read c.args.self.now.words.now c.args.self.now.sound _ (omega (arith, c.requires)), sets_read c.args.self.now.words.now c.args.self.now.sound _ (omega (arith, c.requires)))
