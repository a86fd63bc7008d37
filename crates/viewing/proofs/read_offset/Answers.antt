-- `viewing::read_offset` meets its contract. Assumes nothing.
use mathlib.Core.Path.{◌∙◌, ap, sym}
use native.Mathlib.Omega.{arith}
use mir.Syntax.{w32, w64}
use mir.ValLaws.{to_z-of_z}
use Rattle.rules.specs.Answer.{ok}
use Rattle.rules.specs.Merge.{in_range}
use Rattle.viewing.proofs.Exits.{from_start, told_at}
use Rattle.viewing.proofs.FieldLaws.{field_fits_lem, offset_is, offset_length, offset_not, offset_refused, offset_signed, offset_value}
use Rattle.viewing.proofs.read_offset.Goals as goal

pub returns-in_err-field_length : goal.returns-in_err-field_length
returns-in_err-field_length c = from_start _ _ c.from_residual.ensures.1 ∙ offset_refused _ _ _ c.in_err-field_length.ensures

pub returns-then-branch-ne4 : goal.returns-then-branch-ne4
returns-then-branch-ne4 c = told_at _ _ _ c.at.ensures.is c.at.ensures.place ∙ offset_length _ _ c.in_ok-field_length.ensures c.if-branch-ne4.true

pub slice_bounds-number_4-end : goal.slice_bounds-number_4-end
slice_bounds-number_4-end c = omega (arith, field_fits_lem _ c.args.bs.now _ (sym c.in_ok-field_length.ensures), c.if-branch-ne4.false)

pub returns-then-not-offset_ok : goal.returns-then-not-offset_ok
returns-then-not-offset_ok c =
    told_at _ _ _ c.at-then-not-offset_ok.ensures.is c.at-then-not-offset_ok.ensures.place
    ∙ sym (offset_value _ _ _ c.in_ok-field_length.ensures c.if-branch-ne4.false c.number_4.ensures ∙ offset_not _ _ (c.from-offset.ensures ∙ to_z-of_z w32 _ (record { sfits = c.cast_signed.type_inv }) ∙ c.cast_signed.ensures ∙ offset_signed _ (omega (arith, c.number_4.type_inv))) (ap in_range (sym (to_z-of_z w64 c.from-offset.result (record { sfits = c.from-offset.type_inv }))) ∙ sym c.offset_ok.ensures ∙ c.if-not-offset_ok.true))

pub returns : goal.returns
returns c =
    ap ok (to_z-of_z w64 _ (record { sfits = c.from-offset.type_inv }))
    ∙ sym (offset_value _ _ _ c.in_ok-field_length.ensures c.if-branch-ne4.false c.number_4.ensures ∙ offset_is _ _ (c.from-offset.ensures ∙ to_z-of_z w32 _ (record { sfits = c.cast_signed.type_inv }) ∙ c.cast_signed.ensures ∙ offset_signed _ (omega (arith, c.number_4.type_inv))) (ap in_range (sym (to_z-of_z w64 c.from-offset.result (record { sfits = c.from-offset.type_inv }))) ∙ sym c.offset_ok.ensures ∙ c.if-not-offset_ok.false))
