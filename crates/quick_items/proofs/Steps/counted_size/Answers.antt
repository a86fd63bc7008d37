-- `quick_items::Steps::counted_size` meets its contract. Assumes nothing.
use Rattle.quick_items.proofs.ItemLaws.{clean, sound_at, counted_told}
use Rattle.quick_items.proofs.Steps.counted_size.Goals as goal

pub returns : goal.returns
returns c =
    counted_told _ _ _ (sound_at _) (clean c.args.part.now c.type_inv.part) c.requires.0 (rw c.word_at-w.ensures c.requires.1) c.octet-n.ensures.0 c.octet-n.ensures.1
    c.if-n-w.false c.if-part-size.false
