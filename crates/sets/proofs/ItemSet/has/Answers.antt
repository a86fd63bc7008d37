-- `sets::ItemSet::has` meets its contract: the bit of an FRN is its flag. Assumes nothing.
use mathlib.Core.Path.{sym}
use borrow.Author.Rules.{rules}
use Rattle.sets.proofs.FlagLaws.{flag_past, has_bit}
use Rattle.sets.proofs.ItemSet.has.Goals as goal

pub returns-then-frn-ge64 : goal.returns-then-frn-ge64
returns-then-frn-ge64 c = sym (flag_past 64 _ _ c.if-frn-ge64.true)

pub returns : goal.returns
returns c = sym (has_bit _ _ (search rules) c.if-frn-ge64.false)
