-- `record::measure_set` meets its contract: the items before the time and those from it on are all items. Assumes nothing.
use Prim.Native.Nat.{◌+◌, ◌≤◌, max}
use mathlib.Core.Path.{◌≡◌, sym, subst, ◌∙◌}
use native.Mathlib.Omega.{arith}
use lib.ListN.{length}
use Rattle.sets.proofs.SetLaws.{octets_all}
use Rattle.measuring.specs.Measure.{start_of, end_of, time_frn}
use Rattle.measuring.proofs.CategoryLaws.{time_few, frn_some}
use Rattle.measuring.proofs.EndLaws.{end_far, early_few, time_absent, time_missing, frn_there, time_none, time_there, starts, ends, sized_at, measure_past, measure_there}
use Rattle.rules.specs.Entry.{map_places}
use Rattle.measuring.proofs.record.measure_set.Goals as goal
use Rattle.measuring.proofs.record.measure_set.Goals.{After-items_from-end, After-items_from-start, In-Some, Else-bits-frn-ne1}

-- the FRN of the time; where the set has it, it is one
is : (c : In-Some) → c.in-Some.frn ≡ time_frn c.args.profile
is c = frn_there _ (sym c.in-Some.is ∙ c.time_frn.ensures)

few : (c : In-Some) → c.in-Some.frn ≤ map_places
few c = omega (arith, time_few c.args.profile, is c)

some : (c : Else-bits-frn-ne1) → 1 ≤ c.in-Some.frn
some c = frn_some _ c.args.bits c.requires.0 c.if-bits-frn-ne1.false

pub overflow_sub-frn : goal.overflow_sub-frn
overflow_sub-frn c = omega (arith, few (goal.at.overflow_sub-frn c).In-Some)

pub measure_untimed-requires : goal.measure_untimed-requires
measure_untimed-requires c = (c.requires.0, c.requires.1, time_missing _ c.args.part.now _ _ c.requires.0 (sym c.in_default.is ∙ c.time_frn.ensures))

pub measure_untimed-requires-then-bits-frn-ne1 : goal.measure_untimed-requires-then-bits-frn-ne1
measure_untimed-requires-then-bits-frn-ne1 c =
    (c.requires.0, c.requires.1, time_absent _ c.args.part.now _ _ (is (goal.at.measure_untimed-requires-then-bits-frn-ne1 c).In-Some) c.if-bits-frn-ne1.true)

pub measure_untimed-requires-then-is_untimed : goal.measure_untimed-requires-then-is_untimed
measure_untimed-requires-then-is_untimed c =
    (c.requires.0, c.requires.1, time_none _ c.args.part.now _ _ (is (goal.at.measure_untimed-requires-then-is_untimed c).In-Some) c.if-bits-frn-ne1.false c.is_untimed.ensures c.if-is_untimed.true)

pub before-early-requires : goal.before-early-requires
before-early-requires c = (some (goal.at.before-early-requires c).Else-bits-frn-ne1, omega (arith, few (goal.at.before-early-requires c).In-Some))

pub items_from-start-requires : goal.items_from-start-requires
items_from-start-requires c = (omega (arith, early_few _ _ c.before-early.ensures, c.requires.0), omega (arith, c.requires.1))

pub overflow_sub-bits : goal.overflow_sub-bits
overflow_sub-bits c = early_few _ _ c.before-early.ensures

-- the time stands not far from the record's start
near : (c : After-items_from-start)
    → c.items_from-start.result ≤ max c.args.from (length c.args.part.now) + 4_096_638
near c =
    subst (λ x. x ≤ max c.args.from (length c.args.part.now) + 4_096_638) (sym c.items_from-start.ensures)
    (end_far _ c.args.part.now (octets_all c.args.part.now c.type_inv.part) _ _)

start_is : (c : After-items_from-start) → c.items_from-start.result ≡ start_of c.args.profile c.in-Some.frn c.args.bits c.args.part.now c.args.from
start_is c = starts _ c.args.part.now _ _ _ c.before-early.ensures c.items_from-start.ensures

end_is : (c : After-items_from-end) → c.items_from-end.result ≡ end_of c.args.profile c.args.bits c.args.part.now c.args.from
end_is c =
    ends _ c.args.part.now _ _ c.in-Some.frn c.before-early.ensures c.items_from-start.ensures c.requires.0 (frn_some _ c.args.bits c.requires.0 c.if-bits-frn-ne1.false)
    ((let it : c.in-Some.frn ≤ 63 = (let e : c.in-Some.frn ≡ time_frn c.args.profile = frn_there _ (sym c.in-Some.is ∙ c.time_frn.ensures) in omega (arith, time_few c.args.profile, e)) in it)) c.items_from-end.ensures

pub items_from-end-requires : goal.items_from-end-requires
items_from-end-requires c = (omega (arith, c.requires.0), omega (arith, c.requires.1, near (goal.at.items_from-end-requires c).After-items_from-start))

pub returns-then-part-end : goal.returns-then-part-end
returns-then-part-end c = c.untimed.ensures ∙ measure_past _ c.args.part.now _ _ (end_is (goal.at.returns-then-part-end c).After-items_from-end) c.if-part-end.true

pub clock_at-requires : goal.clock_at-requires
clock_at-requires c = omega (arith, near (goal.at.clock_at-requires c).After-items_from-start, c.requires.1)

pub returns : goal.returns
returns c =
    sized_at _ _ c.clock_at.ensures
    ∙ measure_there _ c.args.part.now _ _ (end_is (goal.at.returns c).After-items_from-end) _ c.if-part-end.false
    (time_there _ c.args.part.now _ _ (is (goal.at.returns c).In-Some) c.if-bits-frn-ne1.false c.is_untimed.ensures c.if-is_untimed.false (start_is (goal.at.returns c).After-items_from-start))
