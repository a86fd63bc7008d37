-- `sheets::remove_mark` meets its contract. Assumes nothing.
use native.Mathlib.Omega.{arith}
use mathlib.Core.Path.{refl}
use Rattle.std.specs.Prelude.{Err}
use Rattle.viewing.proofs.Exits.{from_same, told_at}
use Rattle.viewing.proofs.ListLaws.{are_octets}
use borrow.Author.Rules.{rules}
use borrow.Author.Tests.{not-false, not-true}
use Rattle.sheets.proofs.ChangeSteps.{found, refused_by_lem, remove_done, remove_none, remove_stops, seen, there_fits}
use Rattle.sheets.proofs.remove_mark.Goals as goal

pub returns-in_err-view : goal.returns-in_err-view
returns-in_err-view c =
    let told = remove_stops _ _ _ _ _ _ _ _ (from_same _ _ c.from_residual.ensures.1) c.in_err-view.ensures in
    record { value = told.0; out_after = told.1 }

pub returns-then-not-view : goal.returns-then-not-view
returns-then-not-view c =
    let told = refused_by_lem 36 0 (Err c.at.result) _ _ (told_at _ _ _ c.at.ensures.is c.at.ensures.place) (remove_none _ _ _ (seen c.args.sheet.now _ _ (are_octets c.args.sheet.now c.type_inv.sheet) c.in_ok-view.ensures) c.args.log c.args.place (search rules) c.key_of.ensures.0 (not-true _ c.if-not-view.true)) in
    record { value = told.0; out_after = told.1 }

pub overflow_sub-first : goal.overflow_sub-first
overflow_sub-first c = (found _ _ _ (seen c.args.sheet.now _ _ (are_octets c.args.sheet.now c.type_inv.sheet) c.in_ok-view.ensures) c.args.log c.args.place (search rules) c.key_of.ensures.0 _ (not-false _ c.if-not-view.false) c.from.ensures).less

pub invariant_of-list : goal.invariant_of-list
invariant_of-list c = record { sound = there_fits _ _ _ (seen c.args.sheet.now _ _ (are_octets c.args.sheet.now c.type_inv.sheet) c.in_ok-view.ensures) c.args.log c.args.place (search rules) c.key_of.ensures.0 (not-false _ c.if-not-view.false); held = (seen c.args.sheet.now _ _ (are_octets c.args.sheet.now c.type_inv.sheet) c.in_ok-view.ensures).held }

pub lay_back-requires-clause-room : goal.lay_back-requires-clause-room
lay_back-requires-clause-room c = (seen c.args.sheet.now _ _ (are_octets c.args.sheet.now c.type_inv.sheet) c.in_ok-view.ensures).room

pub lay_back-requires-clause-few : goal.lay_back-requires-clause-few
lay_back-requires-clause-few c = ((found _ _ _ (seen c.args.sheet.now _ _ (are_octets c.args.sheet.now c.type_inv.sheet) c.in_ok-view.ensures) c.args.log c.args.place (search rules) c.key_of.ensures.0 _ (not-false _ c.if-not-view.false) c.from.ensures).fewer, omega (arith, (seen c.args.sheet.now _ _ (are_octets c.args.sheet.now c.type_inv.sheet) c.in_ok-view.ensures).few))

pub returns : goal.returns
returns c =
    let told = remove_done _ _ _ (seen c.args.sheet.now _ _ (are_octets c.args.sheet.now c.type_inv.sheet) c.in_ok-view.ensures) c.args.log c.args.place (search rules) c.key_of.ensures.0 c.args.out.now _ _ _ _ _ (not-false _ c.if-not-view.false) refl refl (found _ _ _ (seen c.args.sheet.now _ _ (are_octets c.args.sheet.now c.type_inv.sheet) c.in_ok-view.ensures) c.args.log c.args.place (search rules) c.key_of.ensures.0 _ (not-false _ c.if-not-view.false) c.from.ensures) c.lay_back.ensures in
    record { value = told.0; out_after = told.1 }
