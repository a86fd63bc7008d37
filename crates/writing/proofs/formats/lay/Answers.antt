-- `writing::formats::lay` meets its contract: the head and the parts, one after the other (`RowLaws`). Assumes nothing.
use native.Mathlib.Omega.{arith}
use Rattle.writing.proofs.RowLaws.{count_few, head_fits, parts_counted, parts_fit, all_laid}
use Rattle.writing.proofs.formats.lay.Goals as goal

pub lay_head-requires : goal.lay_head-requires
lay_head-requires c =
    record { passes = count_few _ _ _ _ c.args.out.now c.requires.passes c.requires.values_in_bounds; count_in_bounds = head_fits _ _ _ _ c.args.out.now c.requires.passes c.requires.values_in_bounds }

pub overflow_add-start : goal.overflow_add-start
overflow_add-start c =
    omega (arith, head_fits _ _ _ _ c.args.out.now c.requires.passes c.requires.values_in_bounds, c.head_size.ensures.1 c.args.count, c.well_formed)

pub lay_parts-requires : goal.lay_parts-requires
lay_parts-requires c =
    record { values_value = parts_counted _ _ _ _ c.args.out.now c.requires.passes c.requires.values_in_bounds; values_in_bounds = parts_fit _ _ _ _ c.args.out.now c.requires.passes c.requires.values_in_bounds c.head_size.ensures.1 c.lay_head.ensures }

pub returns : goal.returns
returns c =
    all_laid _ _ _ _ c.args.out.now c.requires.passes c.requires.values_in_bounds c.head_size.ensures.1 c.lay_head.ensures c.lay_parts.ensures.0 c.lay_parts.ensures.1
