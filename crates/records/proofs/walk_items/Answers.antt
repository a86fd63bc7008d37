-- `records::walk_items` meets its contract: at each turn, walking on gives what the whole walk gives. Assumes nothing.
use Prim.Native.Nat.{◌≤◌}
use mathlib.Core.Path.{◌≡◌, sym, ap, ◌∙◌}
use native.Mathlib.Omega.{arith}
use lib.ListN.{length}
use lib.Seq.{length-take-le}
use Rattle.rules.specs.Answer.{ok}
use Rattle.rules.specs.Told.{refusal_of}
use Rattle.items.specs.Answers.{check_at, checked_of}
use Rattle.records.proofs.PlaceLaws.{check_near, check_within, check_few}
use Rattle.records.proofs.WalkLaws.{stand_begun, stand_end, stand_stop, stand_more, stand_item}
use Rattle.records.proofs.walk_items.Goals as goal
use Rattle.records.proofs.walk_items.Goals.{After-unwrap_err, In-Ok}

pub loop-frn-init : goal.loop-frn-init
loop-frn-init c = stand_begun _ _ _ _ c.requires.0 c.requires.1 c.requires.2 (ap (λ s. s.left) c.into_iter-frn-iterator.ensures.into_iter_gives ∙ c.frns-frn-items.ensures)

-- the item that is refused at this turn, in the rules' terms
barred : (c : After-unwrap_err) → check_at c.args.profile c.in-Some.frn c.loop-frn.rest.now ≡ refusal_of c.unwrap_err.result
barred c = sym c.item_check-item.ensures ∙ ap checked_of c.unwrap_err.ensures

pub later-requires : goal.later-requires
later-requires c = omega (arith, check_near _ _ _ _ _ (barred (goal.at.later-requires c).After-unwrap_err), c.loop-frn.invariant.room)

pub returns-in_default : goal.returns-in_default
returns-in_default c =
    ap refusal_of c.later.ensures
    ∙ stand_stop _ _ _ _ _ _ _ _ _ _ c.loop-frn.invariant _ _ c.in-Some.ensures.steps _ _ (barred (goal.at.returns-in_default c).After-unwrap_err)

-- the item at this turn, in the rules' terms
item : (c : In-Ok) → check_at c.args.profile c.in-Some.frn c.loop-frn.rest.now ≡ ok c.in-Ok.n
item c = sym c.item_check-item.ensures ∙ ap checked_of c.in-Ok.is

within : (c : In-Ok) → c.in-Ok.n ≤ length c.loop-frn.rest.now
within c = check_within _ _ _ _ (item c)

pub overflow_sub-map : goal.overflow_sub-map
overflow_sub-map c = omega (arith, check_few _ _ _ _ (item (goal.at.overflow_sub-map c).In-Ok))

pub offset_bounds-map-frn : goal.offset_bounds-map-frn
offset_bounds-map-frn c = record { fits = omega (arith, check_few _ _ _ _ (item (goal.at.offset_bounds-map-frn c).In-Ok)) }

pub bounds-map-frn : goal.bounds-map-frn
bounds-map-frn c = omega (arith, check_few _ _ _ _ (item (goal.at.bounds-map-frn c).In-Ok))

pub slice_bounds-type_octet-end : goal.slice_bounds-type_octet-end
slice_bounds-type_octet-end c = sym (length-take-le _ _ (within (goal.at.slice_bounds-type_octet-end c).In-Ok))

pub slice_bounds-rest-count : goal.slice_bounds-rest-count
slice_bounds-rest-count c = within (goal.at.slice_bounds-rest-count c).In-Ok

pub slice_bounds-rest-start : goal.slice_bounds-rest-start
slice_bounds-rest-start c = within (goal.at.slice_bounds-rest-start c).In-Ok

pub overflow_add-map : goal.overflow_add-map
overflow_add-map c = record { fits = omega (arith, within (goal.at.overflow_add-map c).In-Ok, c.loop-frn.invariant.room) }

pub overflow_add-map-in-loop-frn : goal.overflow_add-map-in-loop-frn
overflow_add-map-in-loop-frn c = record { fits = omega (arith, stand_more _ _ _ _ _ _ _ _ _ _ c.loop-frn.invariant _ _ c.in-Some.ensures.steps) }

pub loop-frn-preserved : goal.loop-frn-preserved
loop-frn-preserved c =
    stand_item _ _ _ _ _ _ _ _ _ _ c.loop-frn.invariant _ _ c.in-Some.ensures.steps _ _ _
    (item (goal.at.loop-frn-preserved c).In-Ok) c.type_frn-of.ensures c.type_octet-kind.ensures

pub returns : goal.returns
returns c = stand_end _ _ _ _ _ _ _ _ _ _ c.loop-frn.invariant c.in-None.ensures.steps.0
