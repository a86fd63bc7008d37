-- `quick_items::Steps::free_size` meets its contract. Assumes nothing.
use native.Mathlib.Omega.{arith}
use Rattle.quick_items.proofs.ItemLaws.{clean, sound_at, free_told}
use Rattle.quick_items.proofs.Steps.free_size.Goals as goal

pub returns : goal.returns
returns c =
    free_told _ _ _ (sound_at _) (clean c.args.part.now c.type_inv.part) (rw c.word_at-size.ensures c.requires.1) c.if-size-eq0.false (omega arith) c.if-part-size.false
