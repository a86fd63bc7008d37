-- `sets::ItemSet::with` meets its contract: the bit of an FRN that is not there yet is added, and that sets its flag. Assumes nothing.
use borrow.Author.Rules.{rules}
use Rattle.sets.proofs.FlagLaws.{with_more, with_fits}
use Rattle.sets.proofs.ItemSet.with.Goals as goal

pub overflow_add-result : goal.overflow_add-result
overflow_add-result c = record { fits = with_fits _ _ _ _ (search rules) c.min-f.ensures c.has.ensures c.if-has.false c.weight.ensures }

pub returns : goal.returns
returns c = with_more _ _ _ _ (search rules) c.min-f.ensures c.has.ensures c.if-has.false c.weight.ensures
