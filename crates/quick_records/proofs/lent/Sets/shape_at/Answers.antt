-- `quick_records::lent::Sets::shape_at` meets its contract: the shape is one of the table's. Assumes nothing.
use mathlib.Core.Path.{refl}
use Rattle.quick_records.proofs.ShapeLaws.{shape_read}
use Rattle.quick_records.proofs.lent.Sets.shape_at.Goals as goal

pub invariant_of-result : goal.invariant_of-result
invariant_of-result c = record { sound = shape_read c.args.self.now.words.now c.args.self.now.sound _ c.requires c.long.ensures c.long-2.ensures c.long-3.ensures refl }
