-- `viewing::read_list` meets its contract. Assumes nothing.
use mathlib.Core.Path.{◌∙◌, sym}
use native.Mathlib.Omega.{arith}
use Rattle.viewing.proofs.Exits.{from_start, told_at}
use Rattle.viewing.proofs.FieldLaws.{field_fits_lem, list_fault, list_length, list_many, list_place, list_refused, list_room, list_told}
use Rattle.viewing.proofs.read_list.Goals as goal

pub returns-in_err-n : goal.returns-in_err-n
returns-in_err-n c = from_start _ _ c.from_residual.ensures.1 ∙ list_refused _ _ _ _ _ _ _ c.in_err-n.ensures

pub returns-then-n-size-ne0 : goal.returns-then-n-size-ne0
returns-then-n-size-ne0 c =
    told_at _ _ _ c.at.ensures.is c.at.ensures.place ∙ list_length _ _ _ _ _ _ _ c.in_ok-n.ensures c.size_of-size.ensures.0 c.if-n-size-ne0.true

pub returns-then-limit-count : goal.returns-then-limit-count
returns-then-limit-count c =
    told_at _ _ _ c.at-then-limit-count.ensures.is c.at-then-limit-count.ensures.place
    ∙ list_many _ _ _ _ _ _ _ c.in_ok-n.ensures c.size_of-size.ensures.0 c.if-n-size-ne0.false c.if-limit-count.true

pub overflow_add-n : goal.overflow_add-n
overflow_add-n c = omega (arith, field_fits_lem _ c.args.bs.now _ (sym c.in_ok-n.ensures))

pub slice_bounds-pass_marks-end : goal.slice_bounds-pass_marks-end
slice_bounds-pass_marks-end c = omega (arith, field_fits_lem _ c.args.bs.now _ (sym c.in_ok-n.ensures))

pub pass_marks-tally-requires : goal.pass_marks-tally-requires
pass_marks-tally-requires c = list_room _ c.args.shape c.args.limit c.args.key _ _ _ c.in_ok-n.ensures c.size_of-size.ensures.0

pub overflow_mul-tally : goal.overflow_mul-tally
overflow_mul-tally c = omega (arith, list_place _ c.args.shape c.args.limit c.args.key c.args.bs.now _ _ _ c.in_ok-n.ensures c.size_of-size.ensures.0 c.if-tally-count.true)

pub returns-then-tally-count : goal.returns-then-tally-count
returns-then-tally-count c =
    told_at _ _ _ c.at-then-tally-count.ensures.is c.at-then-tally-count.ensures.place
    ∙ list_fault _ _ _ _ _ _ _ _ c.in_ok-n.ensures c.size_of-size.ensures.0 c.if-n-size-ne0.false c.if-limit-count.false c.pass_marks-tally.ensures c.if-tally-count.true

pub returns : goal.returns
returns c = list_told _ _ _ _ _ _ _ _ c.in_ok-n.ensures c.size_of-size.ensures.0 c.if-n-size-ne0.false c.if-limit-count.false c.pass_marks-tally.ensures c.if-tally-count.false
