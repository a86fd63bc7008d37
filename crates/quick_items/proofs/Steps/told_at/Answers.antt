-- `quick_items::Steps::told_at` meets its contract: the word of the place is sound, and says how the item is told. Assumes nothing.
use native.Mathlib.Omega.{arith}
use Rattle.quick_items.proofs.ItemLaws.{word_sound, kind_digit}
use Rattle.quick_items.proofs.Steps.told_at.Goals as goal

pub free_size-requires : goal.free_size-requires
free_size-requires c =
    (omega (arith, c.word_at-w.ensures), word_sound _ _ 0 c.args.self.now.sound c.args.place.known c.word_at-w.ensures (omega arith))

pub counted_size-requires : goal.counted_size-requires
counted_size-requires c =
    (omega arith, word_sound _ _ 2 c.args.self.now.sound c.args.place.known c.word_at-w.ensures (kind_digit _ c.in-Counted.ensures (omega arith)))

pub ruled_size-requires : goal.ruled_size-requires
ruled_size-requires c =
    (omega arith, word_sound _ _ 1 c.args.self.now.sound c.args.place.known c.word_at-w.ensures (kind_digit _ c.in-Ruled.ensures (omega arith)))
