-- `laying::put_lists` meets its contract. Assumes nothing.
use Rattle.laying.proofs.LayLaws.{split_put, whole_put}
use Rattle.laying.proofs.put_lists.Goals as goal

pub returns-then-split : goal.returns-then-split
returns-then-split c = split_put _ _ _ _ _ _ _ _ _ _ c.if-split.true c.count-n.ensures.0 c.requires.first_le_n.0 c.put_list-p.ensures c.put_list.ensures

pub returns-else-split : goal.returns-else-split
returns-else-split c = whole_put _ _ _ _ _ _ _ _ c.if-split.false c.count-n.ensures.0 c.put_list-else-split.ensures
