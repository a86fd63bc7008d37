-- `sets::ItemSet::empty` meets its contract: no bit is set. Assumes nothing.
use Rattle.sets.proofs.FlagLaws.{flags_none}
use Rattle.sets.proofs.ItemSet.empty.Goals as goal

pub returns : goal.returns
returns c = flags_none
