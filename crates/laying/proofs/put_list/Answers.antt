-- `laying::put_list` meets its contract. Assumes nothing.
use Rattle.laying.proofs.PutLaws.{list_put}
use Rattle.laying.proofs.put_list.Goals as goal

pub returns : goal.returns
returns c = list_put _ _ _ _ _ _ _ _ _ _ _ c.size_of.ensures.0 c.put_head.ensures c.put_marks.ensures
