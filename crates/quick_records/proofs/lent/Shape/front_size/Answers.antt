-- `quick_records::lent::Shape::front_size` meets its contract. Assumes nothing.
use Rattle.quick_records.specs.Shape.{word_of}
use Rattle.quick_records.proofs.ShapeLaws.{front_told}
use Rattle.quick_records.proofs.lent.Shape.front_size.Goals as goal

pub returns-then-is_kept : goal.returns-then-is_kept
returns-then-is_kept c =
    front_told c.args.self.fspec (word_of c.args.self.item) c.args.self.rule c.args.part.now c.if-part-at.false c.if-part-size.false c.if-first-word.false
    c.octet-first.ensures.0 c.octet.ensures.0 c.octet-2.ensures.0 c.is_kept.ensures c.if-is_kept.true
