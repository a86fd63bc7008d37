-- `sheets::add_mark` meets its contract. Assumes nothing.
use native.Mathlib.Omega.{arith}
use mathlib.Core.Path.{◌∙◌, sym, refl}
use Rattle.std.specs.Prelude.{Err}
use Rattle.viewing.proofs.Exits.{from_same, told_at}
use Rattle.viewing.proofs.ListLaws.{are_octets}
use Rattle.marks.proofs.MarkSteps.{bool_few}
use Rattle.sheets.proofs.ChangeSteps.{add_barred, add_done, add_full, add_stops, add_twice, below_fits, first_few, refused_by_lem, seen}
use lib.Dec.{eqb}
use Rattle.sheets.proofs.add_mark.Goals as goal

pub returns-in_err-view : goal.returns-in_err-view
returns-in_err-view c =
    let told = add_stops _ _ _ _ _ _ _ (from_same _ _ c.from_residual.ensures.1) c.in_err-view.ensures in
    record { value = told.0; out_after = told.1 }

pub returns-then-not-mark_ok : goal.returns-then-not-mark_ok
returns-then-not-mark_ok c =
    let told = refused_by_lem 33 0 (Err c.at.result) _ _ (told_at _ _ _ c.at.ensures.is c.at.ensures.place) (add_barred _ _ _ (seen c.args.sheet.now _ _ (are_octets c.args.sheet.now c.type_inv.sheet) c.in_ok-view.ensures) c.args.mark c.key_of.ensures.0 (sym c.mark_ok.ensures ∙ c.if-not-mark_ok.true)) in
    record { value = told.0; out_after = told.1 }

pub returns-then-view : goal.returns-then-view
returns-then-view c =
    let told = refused_by_lem 35 0 (Err c.at-then-view.result) _ _ (told_at _ _ _ c.at-then-view.ensures.is c.at-then-view.ensures.place) (add_twice _ _ _ (seen c.args.sheet.now _ _ (are_octets c.args.sheet.now c.type_inv.sheet) c.in_ok-view.ensures) c.args.mark c.key_of.ensures.0 (sym c.mark_ok.ensures ∙ c.if-not-mark_ok.false) c.if-view.true) in
    record { value = told.0; out_after = told.1 }

pub returns-then-n-ge-LIMIT : goal.returns-then-n-ge-LIMIT
returns-then-n-ge-LIMIT c =
    let told = refused_by_lem 34 0 (Err c.at-then-n-ge-LIMIT.result) _ _ (told_at _ _ _ c.at-then-n-ge-LIMIT.ensures.is c.at-then-n-ge-LIMIT.ensures.place) (add_full _ _ _ (seen c.args.sheet.now _ _ (are_octets c.args.sheet.now c.type_inv.sheet) c.in_ok-view.ensures) c.args.mark c.key_of.ensures.0 (sym c.mark_ok.ensures ∙ c.if-not-mark_ok.false) c.if-view.false (omega (arith, c.if-n-ge-LIMIT.true))) in
    record { value = told.0; out_after = told.1 }

pub overflow_add-first : goal.overflow_add-first
overflow_add-first c = omega (arith, first_few _ _ _ (seen c.args.sheet.now _ _ (are_octets c.args.sheet.now c.type_inv.sheet) c.in_ok-view.ensures), c.from.ensures, bool_few (eqb c.args.mark.log 0), c.if-n-ge-LIMIT.false)

pub invariant_of-list : goal.invariant_of-list
invariant_of-list c = record { sound = omega (arith, below_fits _ _ _ (seen c.args.sheet.now _ _ (are_octets c.args.sheet.now c.type_inv.sheet) c.in_ok-view.ensures)); held = (seen c.args.sheet.now _ _ (are_octets c.args.sheet.now c.type_inv.sheet) c.in_ok-view.ensures).held }

pub lay_back-requires-clause-room : goal.lay_back-requires-clause-room
lay_back-requires-clause-room c = (seen c.args.sheet.now _ _ (are_octets c.args.sheet.now c.type_inv.sheet) c.in_ok-view.ensures).room

pub lay_back-requires-clause-few : goal.lay_back-requires-clause-few
lay_back-requires-clause-few c =
    (omega (arith, first_few _ _ _ (seen c.args.sheet.now _ _ (are_octets c.args.sheet.now c.type_inv.sheet) c.in_ok-view.ensures), c.from.ensures, bool_few (eqb c.args.mark.log 0)), omega (arith, c.if-n-ge-LIMIT.false))

pub returns : goal.returns
returns c =
    let told = add_done _ _ _ (seen c.args.sheet.now _ _ (are_octets c.args.sheet.now c.type_inv.sheet) c.in_ok-view.ensures) c.args.mark c.key_of.ensures.0 c.args.out.now _ _ _ _ _ (sym c.mark_ok.ensures ∙ c.if-not-mark_ok.false) c.if-view.false (omega (arith, c.if-n-ge-LIMIT.false)) refl refl c.from.ensures c.lay_back.ensures in
    record { value = told.0; out_after = told.1 }
