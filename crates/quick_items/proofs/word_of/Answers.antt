-- `quick_items::word_of` meets its contract. Assumes nothing.
use Rattle.quick_items.proofs.ItemLaws.{word_some, word_none}
use Rattle.quick_items.proofs.word_of.Goals as goal

pub returns-in-None : goal.returns-in-None
returns-in-None c = word_none _ _ _ c.in-None.ensures

pub returns-in-Some : goal.returns-in-Some
returns-in-Some c = word_some _ _ _ c.in-Some.ensures
