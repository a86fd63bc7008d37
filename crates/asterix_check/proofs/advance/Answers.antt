-- `advance` meets its contract: what came says which turn it is. Assumes nothing.
use Prim.Native.Nat.{◌≤◌}
use mathlib.Core.Path.{◌∙◌}
use Rattle.asterix_check.proofs.WholeLaws.{whole_few, whole_front}
use Rattle.asterix_check.proofs.TurnLaws.{more_fits, turn_end, turn_stop, turn_on, stopped}
use Rattle.asterix_check.proofs.advance.Goals as goal
use Rattle.asterix_check.proofs.advance.Goals.{After-whole_blocks-whole}

-- the whole blocks lie in what came, and that in the buffer
few : (c : After-whole_blocks-whole) → c.whole_blocks-whole.result ≤ c.in-More.n
few c = whole_few _ _ _ c.whole_blocks-whole.ensures

pub slice_bounds-feed-end-in-More : goal.slice_bounds-feed-end-in-More
slice_bounds-feed-end-in-More c = whole_front _ _ c.args.buffer.now (few c) (more_fits _ _ _ c.requires c.in-More.is)

pub returns-in-End-clause-is : goal.returns-in-End-clause-is
returns-in-End-clause-is c = turn_end _ _ _ _ _ _ c.in-End.is c.feed.ensures c.finish.ensures

pub returns-then-is_err-clause-is : goal.returns-then-is_err-clause-is
returns-then-is_err-clause-is c =
    turn_stop _ _ _ _ _ _ c.in-More.is c.whole_blocks-whole.ensures c.feed-next.ensures _
    (stopped c.finish-known.result _ _ c.finish-known.ensures c.is_err.ensures.value ∙ c.if-is_err.true) c.finish-known.ensures

pub returns-else-is_err-clause-is : goal.returns-else-is_err-clause-is
returns-else-is_err-clause-is c =
    turn_on _ _ _ _ _ _ c.in-More.is c.whole_blocks-whole.ensures c.feed-next.ensures
    (stopped c.finish-known.result _ _ c.finish-known.ensures c.is_err.ensures.value ∙ c.if-is_err.false)

pub returns-else-is_err-clause-within : goal.returns-else-is_err-clause-within
returns-else-is_err-clause-within c = (few (goal.at.returns-else-is_err-clause-within c).After-whole_blocks-whole, more_fits _ _ _ c.requires c.in-More.is)
