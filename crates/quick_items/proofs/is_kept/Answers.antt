-- `quick_items::is_kept` meets its contract. Assumes nothing.
use Rattle.quick_items.proofs.ItemLaws.{rule_asks}
use Rattle.quick_items.proofs.is_kept.Goals as goal

pub returns : goal.returns
returns c = rule_asks _ _ _
