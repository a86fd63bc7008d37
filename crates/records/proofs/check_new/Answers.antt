-- `records::check_new` meets its contract: at each `return` the functions called say which step of the rules ended the work. Assumes nothing.
use Prim.Native.Nat.{◌^◌, ◌<◌}
use mathlib.Core.Path.{◌≡◌, sym, ap, ◌∙◌}
use mathlib.Core.Bool.{not}
use native.Mathlib.Omega.{arith}
use borrow.Author.Rules.{rules}
use borrow.Author.Tests.{eqb-true, eqb-false}
use Rattle.rules.proofs.ToldLaws.{refused_as, begun, handed}
use Rattle.rules.specs.Presence.{flags}
use Rattle.sets.proofs.FspecLaws.{set_low, set_within}
use Rattle.records.specs.Walk.{walk, start_at}
use Rattle.records.specs.Answers.{came_of}
use Rattle.records.proofs.NewLaws.{new_empty, new_barred, new_stop, new_more, new_judged, new_whole}
use Rattle.records.proofs.check_new.Goals as goal
use Rattle.records.proofs.check_new.Goals.{After-walk_items, Else-eq, Else-not-is_within}

-- the set is empty
pub returns-then-eq : goal.returns-then-eq
returns-then-eq c = refused_as _ _ _ c.at.ensures.is c.at.ensures.place ∙ new_empty _ _ _ c.type_inv.items (search rules) (eqb-true _ _ (sym c.eq.ensures ∙ c.if-eq.true))

some : (c : Else-eq) → c.args.set.bits ≡ 0 → ⊥
some c = eqb-false _ _ (sym c.eq.ensures ∙ c.if-eq.false)

-- the profile lacks an FRN
pub returns-then-not-is_within : goal.returns-then-not-is_within
returns-then-not-is_within c =
    refused_as _ _ _ c.at-then-not-is_within.ensures.is c.at-then-not-is_within.ensures.place
    ∙ new_barred _ _ _ c.type_inv.items (search rules) (some (goal.at.returns-then-not-is_within c).Else-eq) c.usable.ensures c.is_within.ensures (ap not c.if-not-is_within.true)

low : (c : Else-not-is_within) → c.args.set.bits < 2 ^ 63
low c = set_low _ _ (search rules) (set_within _ _ c.usable.ensures c.is_within.ensures (ap not c.if-not-is_within.false))

pub walk_items-requires : goal.walk_items-requires
walk_items-requires c = (
  low (goal.at.walk_items-requires c).Else-not-is_within,
  rw c.absent-map.ensures (omega arith),
  rw c.absent-map.ensures,
)

pub octets_of-requires : goal.octets_of-requires
octets_of-requires c = low (goal.at.octets_of-requires c).Else-not-is_within

-- the items, in the rules' terms
walked : (c : After-walk_items) → came_of c.walk_items.result c.walk_items.new.map ≡ walk c.args.profile (flags 63 c.args.set.bits) 1 c.args.items.now (start_at 0)
walked c = c.walk_items.ensures ∙ ap (λ m. walk c.args.profile (flags 63 c.args.set.bits) 1 c.args.items.now (start_at m.end)) c.absent-map.ensures

-- an item is refused
pub returns-in_err-kind : goal.returns-in_err-kind
returns-in_err-kind c =
    handed _ _ c.from_residual.ensures.1
    ∙ new_stop _ _ _ c.type_inv.items (search rules) (some (goal.at.returns-in_err-kind c).Else-eq) c.usable.ensures c.is_within.ensures (ap not c.if-not-is_within.false)
    _ _ (walked (goal.at.returns-in_err-kind c).After-walk_items) _ c.in_err-kind.was

-- octets after the last item
pub returns-then-map-items : goal.returns-then-map-items
returns-then-map-items c =
    refused_as _ _ _ c.at-then-map-items.ensures.is c.at-then-map-items.ensures.place
    ∙ new_more _ _ _ c.type_inv.items (search rules) (some (goal.at.returns-then-map-items c).Else-eq) c.usable.ensures c.is_within.ensures (ap not c.if-not-is_within.false)
    _ _ (walked (goal.at.returns-then-map-items c).After-walk_items) _ c.in_ok-kind.was c.if-map-items.true

-- the message type is not content
pub returns-in_err-judge : goal.returns-in_err-judge
returns-in_err-judge c =
    begun _ _ c.from_residual-in_err-judge.ensures.1
    ∙ new_judged _ _ _ c.type_inv.items (search rules) (some (goal.at.returns-in_err-judge c).Else-eq) c.usable.ensures c.is_within.ensures (ap not c.if-not-is_within.false)
    _ _ (walked (goal.at.returns-in_err-judge c).After-walk_items) _ c.in_ok-kind.was c.if-map-items.false _ c.judge.ensures _ c.in_err-judge.was

-- it is whole
pub returns : goal.returns
returns c =
    new_whole _ _ _ c.type_inv.items (search rules) (some (goal.at.returns c).Else-eq) c.usable.ensures c.is_within.ensures (ap not c.if-not-is_within.false)
    _ _ (walked (goal.at.returns c).After-walk_items) _ c.in_ok-kind.was c.if-map-items.false _ c.judge.ensures _ _ c.in_ok-judge.was c.octets_of.ensures.0
