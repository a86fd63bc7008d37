-- `sheets::empty_sheet` meets its contract. Assumes nothing.
use mathlib.Core.Path.{refl}
use Rattle.viewing.proofs.Exits.{from_same}
use Rattle.viewing.proofs.ListLaws.{are_octets}
use Rattle.sheets.proofs.ChangeSteps.{empty_done, empty_stops, seen}
use Rattle.sheets.proofs.empty_sheet.Goals as goal

pub returns-in_err-view : goal.returns-in_err-view
returns-in_err-view c =
    let told = empty_stops _ _ 0 _ _ _ (from_same _ _ c.from_residual.ensures.1) c.in_err-view.ensures in
    record { value = told.0; out_after = told.1 }

pub invariant_of-list : goal.invariant_of-list
invariant_of-list c = record { sound = tt; held = (seen c.args.sheet.now _ _ (are_octets c.args.sheet.now c.type_inv.sheet) c.in_ok-view.ensures).held }

pub lay_back-requires-clause-room : goal.lay_back-requires-clause-room
lay_back-requires-clause-room c = (seen c.args.sheet.now _ _ (are_octets c.args.sheet.now c.type_inv.sheet) c.in_ok-view.ensures).room

pub returns : goal.returns
returns c =
    let told = empty_done _ _ _ (seen c.args.sheet.now _ _ (are_octets c.args.sheet.now c.type_inv.sheet) c.in_ok-view.ensures) c.args.out.now _ _ _ _ refl refl c.lay_back.ensures in
    record { value = told.0; out_after = told.1 }
