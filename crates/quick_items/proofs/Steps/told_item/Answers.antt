-- `quick_items::Steps::told_item` meets its contract: the row of the place says what the profile has there. Assumes nothing.
use Rattle.quick_items.proofs.ItemLaws.{at_place}
use Rattle.quick_items.proofs.Steps.told_item.Goals as goal

pub returns : goal.returns
returns c = at_place _ _ c.told_at.result c.args.part.now c.in_ok-place.ensures c.type_inv.part c.told_at.ensures
