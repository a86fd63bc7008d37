-- `quick_items::Steps::quick_at` meets its contract: the word of the place is sound, and says how the item is told. Assumes nothing.
use native.Mathlib.Omega.{arith}
use Rattle.quick_items.proofs.ItemLaws.{word_sound, kind_digit}
use Rattle.quick_items.proofs.Steps.quick_at.Goals as goal

pub extended_size-requires : goal.extended_size-requires
extended_size-requires c =
    (omega arith, word_sound _ _ 3 c.args.self.now.sound c.args.place.known c.word_at.ensures (kind_digit _ c.in-Extended.ensures (omega arith)))

pub twice_size-requires : goal.twice_size-requires
twice_size-requires c =
    (omega arith, word_sound _ _ 4 c.args.self.now.sound c.args.place.known c.word_at.ensures (kind_digit _ c.in-Twice.ensures (omega arith)))
