-- `viewing::view_sheet` meets its contract: field after field, as far as each goes. Assumes nothing.
use mathlib.Core.Path.{◌∙◌, ap, sym}
use native.Mathlib.Omega.{arith}
use borrow.Author.Rules.{rules}
use mir.Syntax.{w64}
use mir.ValLaws.{to_z-of_z}
use Rattle.rules.specs.Answer.{ok}
use Rattle.rules.specs.SheetForm.{form}
use Rattle.rules.specs.Told.{told}
use Rattle.rules.proofs.SheetForms.{small}
use Rattle.viewing.proofs.Exits.{from_same, from_start, later_err, later_ok, told_at}
use Rattle.viewing.proofs.ListLaws.{are_octets}
use Rattle.viewing.proofs.SheetSteps.{after_stops, edition_goes, edition_stops, marks_goes, marks_stops, offset_goes, offset_stops, sheet_accepted, totals_goes, totals_stops}
use Rattle.viewing.proofs.view_sheet.Goals as goal

pub returns-in_err-edition : goal.returns-in_err-edition
returns-in_err-edition c = from_start _ _ c.from_residual.ensures.1 ∙ edition_stops form small c.args.s.now (are_octets c.args.s.now c.type_inv.s) c.args.key _ _ c.in_err-edition.ensures

pub slice_bounds-read_offset-count : goal.slice_bounds-read_offset-count
slice_bounds-read_offset-count c = (edition_goes form small c.args.s.now (are_octets c.args.s.now c.type_inv.s) c.args.key _ c.in_ok-edition.ensures).room

pub slice_bounds-read_offset-start : goal.slice_bounds-read_offset-start
slice_bounds-read_offset-start c = omega (arith, (edition_goes form small c.args.s.now (are_octets c.args.s.now c.type_inv.s) c.args.key _ c.in_ok-edition.ensures).room)

pub later-requires : goal.later-requires
later-requires c = λ e h. omega (arith, (offset_stops form small c.args.s.now (are_octets c.args.s.now c.type_inv.s) c.args.key _ _ _ (edition_goes form small c.args.s.now (are_octets c.args.s.now c.type_inv.s) c.args.key _ c.in_ok-edition.ensures) (ap told (sym h) ∙ c.read_offset.ensures)).1)

pub returns-in_err-offset : goal.returns-in_err-offset
returns-in_err-offset c =
    let (k, p, q, e) = later_err _ _ _ _ _ c.later.ensures c.in_err-offset.was in
    from_same _ _ c.from_residual-in_err-offset.ensures.1 ∙ e ∙ (offset_stops form small c.args.s.now (are_octets c.args.s.now c.type_inv.s) c.args.key _ _ _ (edition_goes form small c.args.s.now (are_octets c.args.s.now c.type_inv.s) c.args.key _ c.in_ok-edition.ensures) (q ∙ c.read_offset.ensures)).0

pub slice_bounds-read_marks-count : goal.slice_bounds-read_marks-count
slice_bounds-read_marks-count c = (offset_goes form small c.args.s.now (are_octets c.args.s.now c.type_inv.s) c.args.key _ _ (edition_goes form small c.args.s.now (are_octets c.args.s.now c.type_inv.s) c.args.key _ c.in_ok-edition.ensures) (later_ok _ _ _ _ c.later.ensures c.in_ok-offset.was ∙ c.read_offset.ensures)).room

pub slice_bounds-read_marks-start : goal.slice_bounds-read_marks-start
slice_bounds-read_marks-start c = omega (arith, (offset_goes form small c.args.s.now (are_octets c.args.s.now c.type_inv.s) c.args.key _ _ (edition_goes form small c.args.s.now (are_octets c.args.s.now c.type_inv.s) c.args.key _ c.in_ok-edition.ensures) (later_ok _ _ _ _ c.later.ensures c.in_ok-offset.was ∙ c.read_offset.ensures)).room)

pub later-requires-2 : goal.later-requires-2
later-requires-2 c = λ e h. omega (arith, (marks_stops form small c.args.s.now (are_octets c.args.s.now c.type_inv.s) c.args.key _ _ _ _ (offset_goes form small c.args.s.now (are_octets c.args.s.now c.type_inv.s) c.args.key _ _ (edition_goes form small c.args.s.now (are_octets c.args.s.now c.type_inv.s) c.args.key _ c.in_ok-edition.ensures) (later_ok _ _ _ _ c.later.ensures c.in_ok-offset.was ∙ c.read_offset.ensures)) (ap told (sym h) ∙ c.read_marks.ensures)).1)

pub returns-in_err-marked : goal.returns-in_err-marked
returns-in_err-marked c =
    let (k, p, q, e) = later_err _ _ _ _ _ c.later-2.ensures c.in_err-marked.was in
    from_same _ _ c.from_residual-in_err-marked.ensures.1 ∙ e ∙ (marks_stops form small c.args.s.now (are_octets c.args.s.now c.type_inv.s) c.args.key _ _ _ _ (offset_goes form small c.args.s.now (are_octets c.args.s.now c.type_inv.s) c.args.key _ _ (edition_goes form small c.args.s.now (are_octets c.args.s.now c.type_inv.s) c.args.key _ c.in_ok-edition.ensures) (later_ok _ _ _ _ c.later.ensures c.in_ok-offset.was ∙ c.read_offset.ensures)) (q ∙ c.read_marks.ensures)).0

pub end_of-at-requires : goal.end_of-at-requires
end_of-at-requires c = ((marks_goes form small c.args.s.now (are_octets c.args.s.now c.type_inv.s) c.args.key _ _ _ (offset_goes form small c.args.s.now (are_octets c.args.s.now c.type_inv.s) c.args.key _ _ (edition_goes form small c.args.s.now (are_octets c.args.s.now c.type_inv.s) c.args.key _ c.in_ok-edition.ensures) (later_ok _ _ _ _ c.later.ensures c.in_ok-offset.was ∙ c.read_offset.ensures)) (later_ok _ _ _ _ c.later-2.ensures c.in_ok-marked.was ∙ c.read_marks.ensures)).held.few, (marks_goes form small c.args.s.now (are_octets c.args.s.now c.type_inv.s) c.args.key _ _ _ (offset_goes form small c.args.s.now (are_octets c.args.s.now c.type_inv.s) c.args.key _ _ (edition_goes form small c.args.s.now (are_octets c.args.s.now c.type_inv.s) c.args.key _ c.in_ok-edition.ensures) (later_ok _ _ _ _ c.later.ensures c.in_ok-offset.was ∙ c.read_offset.ensures)) (later_ok _ _ _ _ c.later-2.ensures c.in_ok-marked.was ∙ c.read_marks.ensures)).held.low)

pub slice_bounds-read_totals-count : goal.slice_bounds-read_totals-count
slice_bounds-read_totals-count c = omega (arith, (marks_goes form small c.args.s.now (are_octets c.args.s.now c.type_inv.s) c.args.key _ _ _ (offset_goes form small c.args.s.now (are_octets c.args.s.now c.type_inv.s) c.args.key _ _ (edition_goes form small c.args.s.now (are_octets c.args.s.now c.type_inv.s) c.args.key _ c.in_ok-edition.ensures) (later_ok _ _ _ _ c.later.ensures c.in_ok-offset.was ∙ c.read_offset.ensures)) (later_ok _ _ _ _ c.later-2.ensures c.in_ok-marked.was ∙ c.read_marks.ensures)).held.room, c.end_of-at.ensures.0)

pub slice_bounds-read_totals-start : goal.slice_bounds-read_totals-start
slice_bounds-read_totals-start c = omega (arith, (marks_goes form small c.args.s.now (are_octets c.args.s.now c.type_inv.s) c.args.key _ _ _ (offset_goes form small c.args.s.now (are_octets c.args.s.now c.type_inv.s) c.args.key _ _ (edition_goes form small c.args.s.now (are_octets c.args.s.now c.type_inv.s) c.args.key _ c.in_ok-edition.ensures) (later_ok _ _ _ _ c.later.ensures c.in_ok-offset.was ∙ c.read_offset.ensures)) (later_ok _ _ _ _ c.later-2.ensures c.in_ok-marked.was ∙ c.read_marks.ensures)).held.room, c.end_of-at.ensures.0)

pub invariant_of-list : goal.invariant_of-list
invariant_of-list c = record { sound = tt; held = (marks_goes form small c.args.s.now (are_octets c.args.s.now c.type_inv.s) c.args.key _ _ _ (offset_goes form small c.args.s.now (are_octets c.args.s.now c.type_inv.s) c.args.key _ _ (edition_goes form small c.args.s.now (are_octets c.args.s.now c.type_inv.s) c.args.key _ c.in_ok-edition.ensures) (later_ok _ _ _ _ c.later.ensures c.in_ok-offset.was ∙ c.read_offset.ensures)) (later_ok _ _ _ _ c.later-2.ensures c.in_ok-marked.was ∙ c.read_marks.ensures)).held }

pub later-requires-3 : goal.later-requires-3
later-requires-3 c = λ e h. omega (arith, c.end_of-at.ensures.1, (totals_stops form small c.args.s.now (are_octets c.args.s.now c.type_inv.s) c.args.key _ _ _ _ _ _ (marks_goes form small c.args.s.now (are_octets c.args.s.now c.type_inv.s) c.args.key _ _ _ (offset_goes form small c.args.s.now (are_octets c.args.s.now c.type_inv.s) c.args.key _ _ (edition_goes form small c.args.s.now (are_octets c.args.s.now c.type_inv.s) c.args.key _ c.in_ok-edition.ensures) (later_ok _ _ _ _ c.later.ensures c.in_ok-offset.was ∙ c.read_offset.ensures)) (later_ok _ _ _ _ c.later-2.ensures c.in_ok-marked.was ∙ c.read_marks.ensures)) c.end_of-at.ensures.0 (ap told (sym h) ∙ c.read_totals.ensures)).1)

pub returns-in_err-later : goal.returns-in_err-later
returns-in_err-later c =
    let (k, p, q, e) = later_err _ _ _ _ _ c.later-3.ensures c.in_err-later.was in
    from_same _ _ c.from_residual-in_err-later.ensures.1 ∙ e ∙ (totals_stops form small c.args.s.now (are_octets c.args.s.now c.type_inv.s) c.args.key _ _ _ _ _ _ (marks_goes form small c.args.s.now (are_octets c.args.s.now c.type_inv.s) c.args.key _ _ _ (offset_goes form small c.args.s.now (are_octets c.args.s.now c.type_inv.s) c.args.key _ _ (edition_goes form small c.args.s.now (are_octets c.args.s.now c.type_inv.s) c.args.key _ c.in_ok-edition.ensures) (later_ok _ _ _ _ c.later.ensures c.in_ok-offset.was ∙ c.read_offset.ensures)) (later_ok _ _ _ _ c.later-2.ensures c.in_ok-marked.was ∙ c.read_marks.ensures)) c.end_of-at.ensures.0 (q ∙ c.read_totals.ensures)).0

pub returns-then-end-s : goal.returns-then-end-s
returns-then-end-s c =
    told_at _ _ _ c.at.ensures.is c.at.ensures.place ∙ after_stops form small c.args.s.now (are_octets c.args.s.now c.type_inv.s) c.args.key _ _ _ _ _ (totals_goes form small c.args.s.now (are_octets c.args.s.now c.type_inv.s) c.args.key _ _ _ _ _ (marks_goes form small c.args.s.now (are_octets c.args.s.now c.type_inv.s) c.args.key _ _ _ (offset_goes form small c.args.s.now (are_octets c.args.s.now c.type_inv.s) c.args.key _ _ (edition_goes form small c.args.s.now (are_octets c.args.s.now c.type_inv.s) c.args.key _ c.in_ok-edition.ensures) (later_ok _ _ _ _ c.later.ensures c.in_ok-offset.was ∙ c.read_offset.ensures)) (later_ok _ _ _ _ c.later-2.ensures c.in_ok-marked.was ∙ c.read_marks.ensures)) c.end_of-at.ensures.0 (later_ok _ _ _ _ c.later-3.ensures c.in_ok-later.was ∙ c.read_totals.ensures)) c.end_of-at.ensures.0 c.totals_size.ensures.0 c.if-end-s.true

pub returns : goal.returns
returns c =
    ap (λ z. ok (record { edition = c.in_ok-edition.edition; offset = z; lists = c.in_ok-marked.marked.lists; tally = c.in_ok-marked.marked.tally })) (to_z-of_z w64 c.in_ok-offset.offset (search rules))
    ∙ sheet_accepted form small c.args.s.now (are_octets c.args.s.now c.type_inv.s) c.args.key _ _ _ _ _ (totals_goes form small c.args.s.now (are_octets c.args.s.now c.type_inv.s) c.args.key _ _ _ _ _ (marks_goes form small c.args.s.now (are_octets c.args.s.now c.type_inv.s) c.args.key _ _ _ (offset_goes form small c.args.s.now (are_octets c.args.s.now c.type_inv.s) c.args.key _ _ (edition_goes form small c.args.s.now (are_octets c.args.s.now c.type_inv.s) c.args.key _ c.in_ok-edition.ensures) (later_ok _ _ _ _ c.later.ensures c.in_ok-offset.was ∙ c.read_offset.ensures)) (later_ok _ _ _ _ c.later-2.ensures c.in_ok-marked.was ∙ c.read_marks.ensures)) c.end_of-at.ensures.0 (later_ok _ _ _ _ c.later-3.ensures c.in_ok-later.was ∙ c.read_totals.ensures)) c.end_of-at.ensures.0 c.totals_size.ensures.0 c.if-end-s.false
