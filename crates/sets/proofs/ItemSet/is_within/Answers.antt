-- `sets::ItemSet::is_within` meets its contract: a conjunction of numbers is that of their flags. Assumes nothing.
use borrow.Author.Rules.{rules}
use Rattle.sets.proofs.FlagLaws.{and_within}
use Rattle.sets.proofs.ItemSet.is_within.Goals as goal

pub returns : goal.returns
returns c = and_within 64 _ _ (search rules) (search rules)
