-- `viewing::read_total` meets its contract. Assumes nothing.
use mathlib.Core.Path.{◌∙◌, sym}
use native.Mathlib.Omega.{arith}
use Rattle.marks.specs.Lists.{new_marks}
use Rattle.viewing.proofs.Exits.{from_start, told_at}
use Rattle.viewing.proofs.TotalLaws.{total_body, total_length, total_other, total_refused, total_same}
use Rattle.viewing.proofs.read_total.Goals as goal

pub returns-in_err-field_length : goal.returns-in_err-field_length
returns-in_err-field_length c = from_start _ _ c.from_residual.ensures.1 ∙ total_refused _ _ _ _ c.in_err-field_length.ensures

pub returns-then-branch-ne12 : goal.returns-then-branch-ne12
returns-then-branch-ne12 c = told_at _ _ _ c.at.ensures.is c.at.ensures.place ∙ total_length _ _ _ c.in_ok-field_length.ensures c.if-branch-ne12.true

pub slice_bounds-totals_agree-end : goal.slice_bounds-totals_agree-end
slice_bounds-totals_agree-end c =
    omega (arith, (total_body (new_marks c.args.list.now.change c.args.list.now.lists c.args.list.now.bytes.now) c.args.bs.now _ c.in_ok-field_length.ensures c.if-branch-ne12.false).1)

pub totals_agree-requires : goal.totals_agree-requires
totals_agree-requires c =
    (total_body (new_marks c.args.list.now.change c.args.list.now.lists c.args.list.now.bytes.now) c.args.bs.now _ c.in_ok-field_length.ensures c.if-branch-ne12.false).0

pub returns-then-not-totals_agree : goal.returns-then-not-totals_agree
returns-then-not-totals_agree c =
    told_at _ _ _ c.at-then-not-totals_agree.ensures.is c.at-then-not-totals_agree.ensures.place
    ∙ total_other _ _ _ c.in_ok-field_length.ensures c.if-branch-ne12.false (sym c.totals_agree.ensures ∙ c.if-not-totals_agree.true)

pub returns : goal.returns
returns c = total_same _ _ _ c.in_ok-field_length.ensures c.if-branch-ne12.false (sym c.totals_agree.ensures ∙ c.if-not-totals_agree.false)
