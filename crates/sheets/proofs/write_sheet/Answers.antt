-- `sheets::write_sheet` meets its contract. Assumes nothing.
use native.Mathlib.Omega.{arith}
use mathlib.Core.Path.{◌∙◌, ap}
use mir.Syntax.{w64}
use mir.ValLaws.{to_z-of_z}
use Rattle.std.specs.Prelude.{Err}
use Rattle.viewing.proofs.Exits.{from_start, told_at}
use Rattle.viewing.proofs.ListLaws.{are_octets}
use Rattle.rules.specs.SheetForm.{form}
use Rattle.sheets.proofs.ChangeSteps.{refused_by_lem}
use Rattle.sheets.proofs.WriteSteps.{Coding, lent, write_done, write_edition, write_fault, write_many_lem, write_offset, write_part}
use Rattle.sheets.proofs.write_sheet.Goals as goal

pub returns-then-n-gt-LIMIT : goal.returns-then-n-gt-LIMIT
returns-then-n-gt-LIMIT c =
    let told = refused_by_lem 34 0 (Err c.at.result) _ _ (told_at _ _ _ c.at.ensures.is c.at.ensures.place) (write_many_lem _ _ _ c.if-n-gt-LIMIT.true) in
    record { value = told.0; out_after = told.1 }

pub returns-then-marks-ne0 : goal.returns-then-marks-ne0
returns-then-marks-ne0 c =
    let told = refused_by_lem 33 0 (Err c.at-then-marks-ne0.result) _ _ (told_at _ _ _ c.at-then-marks-ne0.ensures.is c.at-then-marks-ne0.ensures.place) (write_part _ _ _ c.if-n-gt-LIMIT.false c.if-marks-ne0.true) in
    record { value = told.0; out_after = told.1 }

pub returns-then-tally-n : goal.returns-then-tally-n
returns-then-tally-n c =
    let told = refused_by_lem 33 0 (Err c.at-then-tally-n.result) _ _ (told_at _ _ _ c.at-then-tally-n.ensures.is c.at-then-tally-n.ensures.place) (write_fault _ _ _ _ c.if-n-gt-LIMIT.false c.if-marks-ne0.false c.pass_marks-tally.ensures c.if-tally-n.true) in
    record { value = told.0; out_after = told.1 }

pub returns-in_err-edition : goal.returns-in_err-edition
returns-in_err-edition c =
    let told = refused_by_lem _ _ _ _ _ (from_start _ _ c.from_residual.ensures.1) (write_edition _ _ _ _ _ (lent form.least c.args.offset c.args.marks.now _ (are_octets c.args.marks.now c.type_inv.marks) c.if-n-gt-LIMIT.false c.if-marks-ne0.false c.pass_marks-tally.ensures c.if-tally-n.false) _ _ c.in_err-edition.ensures) in
    record { value = told.0; out_after = told.1 }

pub returns-in_err-code : goal.returns-in_err-code
returns-in_err-code c =
    let told = refused_by_lem _ _ _ _ _ (from_start _ _ c.from_residual-in_err-code.ensures.1) (write_offset _ _ _ _ _ (lent form.least c.args.offset c.args.marks.now _ (are_octets c.args.marks.now c.type_inv.marks) c.if-n-gt-LIMIT.false c.if-marks-ne0.false c.pass_marks-tally.ensures c.if-tally-n.false) _ _ _ c.in_ok-edition.ensures (c.in_err-code.ensures ∙ ap Coding (to_z-of_z w64 c.args.offset c.ranges.offset))) in
    record { value = told.0; out_after = told.1 }

pub invariant_of-list : goal.invariant_of-list
invariant_of-list c = record { sound = tt; held = (lent form.least c.args.offset c.args.marks.now _ (are_octets c.args.marks.now c.type_inv.marks) c.if-n-gt-LIMIT.false c.if-marks-ne0.false c.pass_marks-tally.ensures c.if-tally-n.false).held }

pub lay_sheet-requires : goal.lay_sheet-requires
lay_sheet-requires c = ((lent form.least c.args.offset c.args.marks.now _ (are_octets c.args.marks.now c.type_inv.marks) c.if-n-gt-LIMIT.false c.if-marks-ne0.false c.pass_marks-tally.ensures c.if-tally-n.false).first_few, omega (arith, (lent form.least c.args.offset c.args.marks.now _ (are_octets c.args.marks.now c.type_inv.marks) c.if-n-gt-LIMIT.false c.if-marks-ne0.false c.pass_marks-tally.ensures c.if-tally-n.false).few))

pub returns : goal.returns
returns c =
    let told = write_done _ _ _ _ _ (lent form.least c.args.offset c.args.marks.now _ (are_octets c.args.marks.now c.type_inv.marks) c.if-n-gt-LIMIT.false c.if-marks-ne0.false c.pass_marks-tally.ensures c.if-tally-n.false) c.args.out.now _ _ _ _ c.in_ok-edition.ensures (c.in_ok-code.ensures ∙ ap Coding (to_z-of_z w64 c.args.offset c.ranges.offset)) c.lay_sheet.ensures in
    record { value = told.0; out_after = told.1 }
