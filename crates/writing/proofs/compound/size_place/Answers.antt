-- `writing::compound::size_place` meets its contract: where the values stand, and the size of what they make (`PlaceLaws`). Assumes nothing.
use mathlib.Core.Path.{◌≡◌, sym, ap, ◌∙◌}
use mathlib.Core.Bool.{true}
use native.Mathlib.Omega.{arith}
use Rattle.rules.specs.Answer.{ok}
use Rattle.tables.specs.Tables.{layout_at, format_is}
use Rattle.writing.specs.Compound.{spanned, spanned_of, span_from}
use Rattle.rules.proofs.ToldLaws.{begun, handed}
use Rattle.writing.proofs.PlaceLaws.{span_inside, place_no, place_absent, place_unsized, place_sized}
use Rattle.writing.proofs.compound.size_place.Goals as goal
use Rattle.writing.proofs.compound.size_place.Goals.{In-Values}

-- where the values stand
spanned_at : (c : In-Values)
    → ok (spanned true c.in-Values.first c.in-Values.end c.in-Values.count) ≡ span_from (format_is (layout_at c.args.sub.layout.place)) c.args.values.now c.args.at
spanned_at c = sym (ap (λ s. ok (spanned_of s)) c.in-Values.is) ∙ c.in_ok-span.ensures

pub offset_bounds-values-first : goal.offset_bounds-values-first
offset_bounds-values-first c = omega (arith, span_inside _ _ _ c.args.sub.plain (spanned_at (goal.at.offset_bounds-values-first c).In-Values), c.well_formed)

pub slice_bounds-size_of-count : goal.slice_bounds-size_of-count
slice_bounds-size_of-count c = (span_inside _ _ _ c.args.sub.plain (spanned_at (goal.at.slice_bounds-size_of-count c).In-Values)).0

pub slice_bounds-size_of-start : goal.slice_bounds-size_of-start
slice_bounds-size_of-start c = (span_inside _ _ _ c.args.sub.plain (spanned_at (goal.at.slice_bounds-size_of-start c).In-Values)).0

pub slice_bounds-size_of-end : goal.slice_bounds-size_of-end
slice_bounds-size_of-end c = (span_inside _ _ _ c.args.sub.plain (spanned_at (goal.at.slice_bounds-size_of-end c).In-Values)).1

-- no values of it
pub returns-in_err-span : goal.returns-in_err-span
returns-in_err-span c = begun _ _ c.from_residual.ensures.1 ∙ place_no _ _ _ c.in_err-span.ensures

-- absent
pub returns-in-Absent : goal.returns-in-Absent
returns-in-Absent c = place_absent _ _ _ (sym (ap (λ s. ok (spanned_of s)) c.in-Absent.is) ∙ c.in_ok-span.ensures)

-- the values make no parts
pub returns-in_err-parts-in-Values : goal.returns-in_err-parts-in-Values
returns-in_err-parts-in-Values c =
    handed _ _ c.from_residual-in_err-parts-in-Values.ensures.1
    ∙ place_unsized _ _ _ (spanned_at (goal.at.returns-in_err-parts-in-Values c).In-Values) c.in_err-parts-in-Values.ensures

-- there
pub returns-in_ok-parts-in-Values : goal.returns-in_ok-parts-in-Values
returns-in_ok-parts-in-Values c = place_sized _ _ _ (spanned_at (goal.at.returns-in_ok-parts-in-Values c).In-Values) c.in_ok-parts-in-Values.ensures
