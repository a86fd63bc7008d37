-- `writing::compound::span_of` meets its contract: at each `return` the tests that led there say where the values stand (`SpanLaws`). Assumes nothing.
use mathlib.Core.Path.{◌≡◌, sym, ◌∙◌}
use mathlib.Core.Bool.{Bool}
use native.Mathlib.Omega.{arith}
use lib.IntN.{pos}
use lib.ListN.{get_or}
use Rattle.rules.specs.FieldList.{is_absent}
use denote.Enum.Bare.{same_true, same_false}
use Rattle.tables.specs.contracts.tables.Kind.{the_type}
use Rattle.writing.proofs.AbsentLaws.{absent_again}
use Rattle.writing.proofs.SpanLaws.{first_in, most_few, span_none, span_short, span_absent, values_few, span_fixed, span_minus, span_many, span_list}
use Rattle.writing.proofs.compound.span_of.Goals as goal
use Rattle.writing.proofs.compound.span_of.Goals.{After-is_absent}

-- what the test of the number says
tested : (c : After-is_absent) {t : Bool} → c.is_absent.result ≡ t → is_absent (get_or c.args.values.now c.args.at (pos 0)) ≡ t
tested c e = sym (absent_again (get_or c.args.values.now c.args.at (pos 0)) (record { sfits = c.v-1.given }) c.is_absent.ensures) ∙ e

-- no subfield
pub returns-then-eq : goal.returns-then-eq
returns-then-eq c = span_none _ _ _ c.row-l.ensures (same_true the_type tt _ _ (sym c.eq.ensures ∙ c.if-eq.true))

-- no number
pub returns-then-values-at : goal.returns-then-values-at
returns-then-values-at c = span_short _ _ _ c.row-l.ensures c.args.sub.plain (same_false the_type _ _ (sym c.eq.ensures ∙ c.if-eq.false)) c.if-values-at.true

-- absent
pub returns-then-is_absent : goal.returns-then-is_absent
returns-then-is_absent c = span_absent _ _ _ c.row-l.ensures c.args.sub.plain (same_false the_type _ _ (sym c.eq.ensures ∙ c.if-eq.false)) c.if-values-at.false (tested (goal.at.returns-then-is_absent c).After-is_absent c.if-is_absent.true)

pub group_at-g-requires : goal.group_at-g-requires
group_at-g-requires c = first_in _ c.row-l.ensures

pub span_to-requires : goal.span_to-requires
span_to-requires c = (omega (arith, c.if-values-at.false), (omega arith, values_few _ c.group_at-g.ensures))

-- a fixed subfield
pub returns-then-eq-2 : goal.returns-then-eq-2
returns-then-eq-2 c =
    span_fixed _ _ _ c.row-l.ensures c.args.sub.plain (same_false the_type _ _ (sym c.eq.ensures ∙ c.if-eq.false)) c.if-values-at.false (tested (goal.at.returns-then-eq-2 c).After-is_absent c.if-is_absent.false) c.group_at-g.ensures (same_true the_type tt _ _ (sym c.eq-2.ensures ∙ c.if-eq-2.true)) c.span_to.ensures

-- a count below 0
pub returns-then-v-lt0 : goal.returns-then-v-lt0
returns-then-v-lt0 c =
    span_minus _ _ _ c.row-l.ensures c.args.sub.plain (same_false the_type _ _ (sym c.eq.ensures ∙ c.if-eq.false)) c.if-values-at.false (tested (goal.at.returns-then-v-lt0 c).After-is_absent c.if-is_absent.false) c.group_at-g.ensures (same_false the_type _ _ (sym c.eq-2.ensures ∙ c.if-eq-2.false))
    (record { sfits = c.v-1.given }) c.if-v-lt0.true

-- too great a count
pub returns-then-l-count : goal.returns-then-l-count
returns-then-l-count c =
    span_many _ _ _ c.row-l.ensures c.args.sub.plain (same_false the_type _ _ (sym c.eq.ensures ∙ c.if-eq.false)) c.if-values-at.false (tested (goal.at.returns-then-l-count c).After-is_absent c.if-is_absent.false) c.group_at-g.ensures (same_false the_type _ _ (sym c.eq-2.ensures ∙ c.if-eq-2.false))
    (record { sfits = c.v-1.given }) c.if-v-lt0.false c.magnitude-count.ensures c.if-l-count.true

pub overflow_add-at : goal.overflow_add-at
overflow_add-at c = omega (arith, c.if-values-at.false, c.well_formed)

pub span_to-requires-2 : goal.span_to-requires-2
span_to-requires-2 c = (omega (arith, c.if-values-at.false), (omega (arith, c.if-l-count.false, most_few _ c.args.values.now c.args.at c.row-l.ensures), values_few _ c.group_at-g.ensures))

-- a list
pub returns : goal.returns
returns c =
    span_list _ _ _ c.row-l.ensures c.args.sub.plain (same_false the_type _ _ (sym c.eq.ensures ∙ c.if-eq.false)) c.if-values-at.false (tested (goal.at.returns c).After-is_absent c.if-is_absent.false) c.group_at-g.ensures (same_false the_type _ _ (sym c.eq-2.ensures ∙ c.if-eq-2.false))
    (record { sfits = c.v-1.given }) c.if-v-lt0.false c.magnitude-count.ensures c.if-l-count.false c.span_to-2.ensures
