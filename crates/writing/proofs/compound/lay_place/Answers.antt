-- `writing::compound::lay_place` meets its contract: the rule passes, so the values are those of a subfield that is laid, or absent (`PlaceLaws`). Assumes
-- nothing.
use mathlib.Core.Path.{◌≡◌, sym, ap, ◌∙◌}
use mathlib.Core.Bool.{true}
use native.Mathlib.Omega.{arith}
use Rattle.rules.specs.Answer.{ok}
use Rattle.tables.specs.Tables.{layout_at, format_is}
use Rattle.writing.specs.Compound.{spanned, spanned_of, span_from, span_as}
use Rattle.writing.proofs.Handed.{passes}
use Rattle.writing.proofs.PlaceLaws.{span_inside, place_passes, lays, absent_laid, there_laid, there_fits}
use Rattle.writing.proofs.compound.lay_place.Goals as goal
use Rattle.writing.proofs.compound.lay_place.Goals.{In-Values}

-- where the values stand
spanned_at : (c : In-Values)
    → ok (spanned true c.in-Values.first c.in-Values.end c.in-Values.count) ≡ span_from (format_is (layout_at c.args.sub.layout.place)) c.args.values.now c.args.at
spanned_at c = sym (ap (λ s. ok (spanned_of s)) c.in-Values.is) ∙ sym (ap span_as c.unwrap-span.ensures) ∙ c.span_of.ensures

pub offset_bounds-values-first : goal.offset_bounds-values-first
offset_bounds-values-first c = omega (arith, span_inside _ _ _ c.args.sub.plain (spanned_at (goal.at.offset_bounds-values-first c).In-Values), c.well_formed)

pub slice_bounds-lay-count : goal.slice_bounds-lay-count
slice_bounds-lay-count c = (span_inside _ _ _ c.args.sub.plain (spanned_at (goal.at.slice_bounds-lay-count c).In-Values)).0

pub slice_bounds-lay-start : goal.slice_bounds-lay-start
slice_bounds-lay-start c = (span_inside _ _ _ c.args.sub.plain (spanned_at (goal.at.slice_bounds-lay-start c).In-Values)).0

pub slice_bounds-lay-end : goal.slice_bounds-lay-end
slice_bounds-lay-end c = (span_inside _ _ _ c.args.sub.plain (spanned_at (goal.at.slice_bounds-lay-end c).In-Values)).1

pub lay-after-requires : goal.lay-after-requires
lay-after-requires c =
    record { passes = ((lays _ _ _ c.requires.passes c.args.sub.plain (spanned_at (goal.at.lay-after-requires c).In-Values)).sizes); values_in_bounds = there_fits _ _ _ c.requires.passes _ c.args.out.now c.args.sub.plain (spanned_at (goal.at.lay-after-requires c).In-Values) c.requires.at_in_bounds }

-- the rule passes
pub unwrap-span-requires : goal.unwrap-span-requires
unwrap-span-requires c = passes _ _ c.span_of.ensures (λ n p. place_passes _ _ _ c.requires.passes)

-- absent
pub returns-in-Absent : goal.returns-in-Absent
returns-in-Absent c = let told = absent_laid _ _ _ c.requires.passes _ _ (sym (ap (λ s. ok (spanned_of s)) c.in-Absent.is) ∙ sym (ap span_as c.unwrap-span.ensures) ∙ c.span_of.ensures) in
    record { laid = told.0; told = told.1 }

-- there
pub returns-in-Values : goal.returns-in-Values
returns-in-Values c =
    let told = there_laid _ _ _ c.requires.passes _ _ c.args.sub.plain (spanned_at (goal.at.returns-in-Values c).In-Values) c.lay-after.ensures.0 c.lay-after.ensures.1 in
    record { laid = told.0; told = told.1 }
