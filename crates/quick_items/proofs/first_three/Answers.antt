-- `quick_items::first_three` meets its contract: an octet that is missing counts as 0. Assumes nothing.
use Rattle.quick_items.proofs.ItemLaws.{only_one, only_two, all_three}
use Rattle.quick_items.proofs.first_three.Goals as goal

pub returns-then-part-lt2 : goal.returns-then-part-lt2
returns-then-part-lt2 c = only_one _ c.octet-one.ensures c.if-part-lt2.true

pub returns-then-part-lt3 : goal.returns-then-part-lt3
returns-then-part-lt3 c = only_two _ c.octet-one.ensures c.octet.ensures c.if-part-lt3.true

pub returns : goal.returns
returns c = all_three _ c.octet-one.ensures c.octet.ensures c.octet-2.ensures
