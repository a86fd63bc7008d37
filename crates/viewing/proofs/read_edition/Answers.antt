-- `viewing::read_edition` meets its contract. Assumes nothing.
use mathlib.Core.Path.{◌∙◌, sym}
use native.Mathlib.Omega.{arith}
use Rattle.viewing.proofs.Exits.{from_fault}
use Rattle.viewing.proofs.FieldLaws.{edition_length, edition_refused, edition_value, field_fits_lem}
use Rattle.viewing.proofs.read_edition.Goals as goal

pub returns-in_err-field_length : goal.returns-in_err-field_length
returns-in_err-field_length c = from_fault _ _ c.from_residual.ensures.1 ∙ edition_refused _ _ _ _ c.in_err-field_length.ensures

pub returns-then-branch-ne1 : goal.returns-then-branch-ne1
returns-then-branch-ne1 c = edition_length _ _ _ c.in_ok-field_length.ensures c.if-branch-ne1.true

pub bounds-bs-3 : goal.bounds-bs-3
bounds-bs-3 c = omega (arith, field_fits_lem _ _ _ (sym c.in_ok-field_length.ensures), c.if-branch-ne1.false)

pub returns : goal.returns
returns c = c.edition_of.ensures ∙ sym (edition_value _ _ _ c.in_ok-field_length.ensures c.if-branch-ne1.false)
