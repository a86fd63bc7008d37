-- `records::check_record` meets its contract: at each `return` the functions called say which step of the rules ended the work. Assumes nothing.
use Prim.Native.Nat.{◌+◌, ◌-◌, ◌^◌, ◌≤◌, ◌<◌}
use mathlib.Core.Path.{◌≡◌, sym, ap, ◌∙◌}
use native.Mathlib.Omega.{arith}
use borrow.Author.Rules.{rules}
use lib.ListN.{length, take, drop, length-drop}
use Rattle.std.specs.Prelude.{Ok}
use Rattle.rules.specs.Presence.{flags}
use Rattle.records.specs.Walk.{walk, start_at}
use Rattle.records.specs.Answers.{came_of}
use Rattle.rules.proofs.ToldLaws.{handed}
use Rattle.rules.specs.Answer.{ok}
use Rattle.rules.proofs.AnswerLaws.{to_end}
use Rattle.sets.specs.Sets.{set_at}
use Rattle.sets.specs.Answers.{set_of}
use Rattle.sets.proofs.UsableLaws.{set_bounds}
use Rattle.records.proofs.RecordLaws.{ok_of, err_of, step_set, step_walk, step_judge, step_whole}
use Rattle.records.proofs.check_record.Goals as goal
use Rattle.records.proofs.check_record.Goals.{After-walk_items, In_ok-set}

-- the FSPEC is refused
pub returns-in_err-set : goal.returns-in_err-set
returns-in_err-set c =
    let e = err_of _ _ _ c.map_err.ensures.cases _ c.in_err-set.was in
    handed _ _ c.from_residual.ensures.1
    ∙ step_set _ _ _ c.type_inv.part c.requires _ e.0 _ c.from_octets.ensures e.1 (let q = e.2 in search rules) (let q = e.2 in search rules)

read : (c : In_ok-set) → c.from_octets.result ≡ Ok c.in_ok-set.field-0
read c = ok_of _ _ _ c.map_err.ensures.cases _ c.in_ok-set.was

-- the set and its octets, in the rules' terms
found : (c : In_ok-set) → set_at c.args.profile c.args.part.now ≡ ok (c.in_ok-set.field-0.set.bits, c.in_ok-set.field-0.octets)
found c = sym c.from_octets.ensures ∙ ap set_of (read c)

bounds : (c : In_ok-set) → (c.in_ok-set.field-0.set.bits < 2 ^ 63) × (c.in_ok-set.field-0.octets ≤ length c.args.part.now)
bounds c = set_bounds _ _ _ _ (found c)

pub overflow_add-map : goal.overflow_add-map
overflow_add-map c = record { fits = omega (arith, (bounds (goal.at.overflow_add-map c).In_ok-set).1) }

pub slice_bounds-walk_items-count : goal.slice_bounds-walk_items-count
slice_bounds-walk_items-count c = (bounds (goal.at.slice_bounds-walk_items-count c).In_ok-set).1

pub slice_bounds-walk_items-start : goal.slice_bounds-walk_items-start
slice_bounds-walk_items-start c = (bounds (goal.at.slice_bounds-walk_items-start c).In_ok-set).1

pub walk_items-requires : goal.walk_items-requires
walk_items-requires c = (
  (bounds (goal.at.walk_items-requires c).In_ok-set).0,
  rw to_end (omega (arith, length-drop c.in_ok-set.field-0.octets c.args.part.now, (bounds (goal.at.walk_items-requires c).In_ok-set).1)),
  rw c.absent.ensures,
)

-- the walk over the items starts after the FSPEC
started : (c : After-walk_items)
    → came_of c.walk_items.result c.walk_items.new.map
    ≡ walk c.args.profile (flags 63 c.in_ok-set.field-0.set.bits) 1 (take (length c.args.part.now - c.in_ok-set.field-0.octets) (drop c.in_ok-set.field-0.octets c.args.part.now)) (start_at (c.args.at + c.in_ok-set.field-0.octets))
started c = c.walk_items.ensures

-- an item is refused
pub returns-in_err-kind : goal.returns-in_err-kind
returns-in_err-kind c =
    handed _ _ c.from_residual-in_err-kind.ensures.1
    ∙ step_walk _ _ _ c.type_inv.part c.requires _ _ _ c.from_octets.ensures (ap set_of (read (goal.at.returns-in_err-kind c).In_ok-set))
    _ _ (started (goal.at.returns-in_err-kind c).After-walk_items) _ c.in_err-kind.was

-- the message type is not content
pub returns-in_err-map_err : goal.returns-in_err-map_err
returns-in_err-map_err c =
    let e = err_of _ _ _ c.map_err-2.ensures.cases _ c.in_err-map_err.was in
    handed _ _ c.from_residual-in_err-map_err.ensures.1
    ∙ step_judge _ _ _ c.type_inv.part c.requires _ _ _ c.from_octets.ensures (ap set_of (read (goal.at.returns-in_err-map_err c).In_ok-set))
    _ _ (started (goal.at.returns-in_err-map_err c).After-walk_items) _ c.in_ok-kind.was _ c.judge.ensures e.0 _ e.1 (let q = e.2 in search rules) (let q = e.2 in search rules)

-- it is whole
pub returns : goal.returns
returns c =
    step_whole _ _ _ c.type_inv.part c.requires _ _ _ c.from_octets.ensures (ap set_of (read (goal.at.returns c).In_ok-set))
    _ _ (started (goal.at.returns c).After-walk_items) _ c.in_ok-kind.was _ c.judge.ensures _ (ok_of _ _ _ c.map_err-2.ensures.cases _ c.in_ok-map_err.was)
