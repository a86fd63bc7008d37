-- `quick_records::record::later_items` meets its contract: at each turn, walking on gives what the whole walk gives. Assumes nothing.
use Prim.Native.Nat.{◌-◌, ◌≤◌}
use mathlib.Core.Path.{◌≡◌, refl}
use native.Mathlib.Omega.{arith}
use lib.Count.{count_leading_zeros}
use lib.Pow.{pow_pos}
use lib.ListN.{length}
use Rattle.rules.specs.Answer.{ok}
use Rattle.items.specs.Answers.{check_at}
use Rattle.records.proofs.PlaceLaws.{check_within}
use Rattle.sets.proofs.FlagLaws.{First, first}
use Rattle.quick_records.proofs.RecordLaws.{stand_first, stand_next, stand_end}
use Rattle.quick_records.proofs.record.later_items.Goals as goal
use Rattle.quick_records.proofs.record.later_items.Goals.{After-weight-left, In_ok-n, In-loop-left}

pub loop-left-init : goal.loop-left-init
loop-left-init c = stand_first _ _ _ c.requires.1

-- the item with the highest bit that is left
of : (c : In-loop-left) → First c.loop-left.left (count_leading_zeros 64 c.loop-left.left)
of c = first c.loop-left.left c.loop-left-test.true (omega (arith, c.loop-left.invariant.below))

pub overflow_cast-frn : goal.overflow_cast-frn
overflow_cast-frn c = record { fits = omega (arith, (of (goal.at.overflow_cast-frn c).In-loop-left).few) }

item : (c : In_ok-n) → check_at c.args.profile (count_leading_zeros 64 c.loop-left.left) c.loop-left.rest.now ≡ ok c.in_ok-n.n
item c = c.in_ok-n.ensures

within : (c : In_ok-n) → c.in_ok-n.n ≤ length c.loop-left.rest.now
within c = check_within _ _ _ _ (item c)

pub slice_bounds-rest-count : goal.slice_bounds-rest-count
slice_bounds-rest-count c = within (goal.at.slice_bounds-rest-count c).In_ok-n

pub slice_bounds-rest-start : goal.slice_bounds-rest-start
slice_bounds-rest-start c = within (goal.at.slice_bounds-rest-start c).In_ok-n

pub weight-left-requires : goal.weight-left-requires
weight-left-requires c = (of (goal.at.weight-left-requires c).In-loop-left).few

there : (c : After-weight-left) → c.weight-left.result ≤ c.loop-left.left
there c = rw c.weight-left.ensures ((first c.loop-left.left c.loop-left-test.true (omega (arith, c.loop-left.invariant.below)))).there

pub overflow_sub-left : goal.overflow_sub-left
overflow_sub-left c = there (goal.at.overflow_sub-left c).After-weight-left

pub loop-left-smaller : goal.loop-left-smaller
loop-left-smaller c = omega (arith, there (goal.at.loop-left-smaller c).After-weight-left, c.weight-left.ensures, pow_pos (63 - count_leading_zeros 64 c.loop-left.left))

pub loop-left-preserved : goal.loop-left-preserved
loop-left-preserved c = rw c.weight-left.ensures (stand_next _ _ _ _ _ c.loop-left.invariant _ (of (goal.at.loop-left-preserved c).In-loop-left) _ (item (goal.at.loop-left-preserved c).In_ok-n))

pub returns : goal.returns
returns c = stand_end _ _ _ _ _ _ c.loop-left.invariant c.loop-left-test.false refl
