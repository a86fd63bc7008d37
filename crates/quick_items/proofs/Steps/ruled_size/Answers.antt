-- `quick_items::Steps::ruled_size` meets its contract. Assumes nothing.
use Rattle.quick_items.proofs.ItemLaws.{clean, sound_at, asked_first, ruled_told}
use Rattle.quick_items.proofs.Steps.ruled_size.Goals as goal

pub returns-then-is_asked : goal.returns-then-is_asked
returns-then-is_asked c =
    ruled_told _ _ _ (sound_at _) (clean c.args.part.now c.type_inv.part) c.if-part-size.false
    _ _ (rw c.word_at-w.ensures c.requires.1) (asked_first _ _ _ c.first_three.ensures.0 c.is_asked.ensures c.if-is_asked.true)
