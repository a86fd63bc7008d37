-- `find::locate_item` meets its contract: at each `return` the functions called say which step of the rule ended the work. Assumes nothing.
use Rattle.std.specs.Prelude.{ℕ}
use Rattle.std.specs.Option.{ok_or}
use Prim.Native.Nat.{◌-◌}
use mathlib.Core.Path.{◌≡◌, sym, ap, ap₂, ◌∙◌}
use native.Mathlib.Omega.{arith}
use lib.ListN.{length, take, drop, get_or}
use Rattle.rules.specs.Answer.{Answer, ok, refused}
use Rattle.rules.specs.Chain.{flatten}
use Rattle.rules.specs.Record.{places}
use Rattle.rules.specs.Told.{number_of, begun_as}
use Rattle.rules.specs.declared.faults.Fault.TheVariants.{ReferenceUnknown}
use Rattle.rules.proofs.AnswerLaws.{refused_ok, ok_inj, to_end}
use Rattle.rules.proofs.ToldLaws.{refused_as}
use Rattle.tables.specs.Places.{frn_as}
use Rattle.tables.proofs.ProfileLaws.{profile_at_lem}
use Rattle.items.specs.Answers.{frn_of, check_at}
use Rattle.sets.specs.Sets.{category_at}
use Rattle.blocks.specs.Answers.{opened_said}
use Rattle.blocks.proofs.ExitLaws.{told_as-exit, told_as-from}
use Rattle.blocks.proofs.LoopLaws.{octets_each}
use Rattle.blocks.proofs.OpenLaws.{Opens, opens, opens_records}
use Rattle.finding.specs.Found.{seek_at, found_in, item_span}
use Rattle.finding.proofs.FindLaws.{NamedAt, frn_none, frn_some, LocatedAt, located, lost, item_refused, item_unknown, no_record_is, index_in, absent_at_lem, ThereAt, there_at}
use Rattle.finding.proofs.find.locate_item.Goals as goal
use Rattle.finding.proofs.find.locate_item.Goals.{In_ok-opened, In_ok-frn, In_ok-record, Else-start-eq0}

-- the block that was opened
is_open : (c : In_ok-opened) → Opens c.args.block.now (opened_said c.in_ok-opened.opened)
is_open c = opens c.args.block.now _ (octets_each c.args.block.now c.type_inv.block) (sym c.in_ok-opened.ensures)

pub returns-in_err-opened : goal.returns-in_err-opened
returns-in_err-opened c = told_as-exit _ _ _ c.from_residual.ensures.1 ∙ ap item_span (sym (item_refused _ _ _ _ _ (sym c.in_err-opened.ensures)))

-- the FRN of the reference
named : (c : In_ok-frn) → NamedAt c.args.reference 1 (places (category_at c.in_ok-opened.opened.profile)) c.in_ok-frn.frn
named c =
    frn_some _ 1 (places (category_at c.in_ok-opened.opened.profile)) _
    (ap (λ z. frn_as c.args.reference 1 (flatten z)) (profile_at_lem c.in_ok-opened.opened.profile) ∙ sym c.frn_of.ensures ∙ ap frn_of c.in_ok-frn.ensures.ok_part)

-- there is none
pub returns-in_err-frn : goal.returns-in_err-frn
returns-in_err-frn c =
    let unknown : ◌≡◌ {A = Answer (ℕ × ℕ)} (refused (number_of c.in_err-frn.field-0.0) 0) (refused 21 0) =
    ap (begun_as (λ n. (n, n))) (c.in_err-frn.ensures.value ∙ ap (λ o. ok_or o ReferenceUnknown) c.in_err-frn.ensures.ok_part) in
    told_as-from _ _ _ c.from_residual-in_err-frn.ensures.1
    ∙ unknown
    ∙ ap item_span
    (sym (item_unknown _ _ _ _ (is_open (goal.at.returns-in_err-frn c).In_ok-opened)
    (frn_none _ 1 (places (category_at c.in_ok-opened.opened.profile))
    (ap (λ z. frn_as c.args.reference 1 (flatten z)) (profile_at_lem c.in_ok-opened.opened.profile) ∙ sym c.frn_of.ensures ∙ ap frn_of c.in_err-frn.ensures.ok_part))))

pub slice_bounds-seek_record-count : goal.slice_bounds-seek_record-count
slice_bounds-seek_record-count c = omega (arith, (is_open (goal.at.slice_bounds-seek_record-count c).In_ok-opened).room)

pub slice_bounds-seek_record-start : goal.slice_bounds-seek_record-start
slice_bounds-seek_record-start c = omega (arith, (is_open (goal.at.slice_bounds-seek_record-start c).In_ok-opened).room)

pub seek_record-requires : goal.seek_record-requires
seek_record-requires c = (omega (arith, (is_open (goal.at.seek_record-requires c).In_ok-opened).few, (is_open (goal.at.seek_record-requires c).In_ok-opened).room), rw (to_end c.args.block.now 3) (opens_records (is_open (goal.at.seek_record-requires c).In_ok-opened)))

-- the record that is sought
sought : (c : In_ok-record) → LocatedAt (seek_at (category_at c.in_ok-opened.opened.profile) 3 (drop 3 c.args.block.now) c.args.n) c.in_ok-record.record
sought c = located _ _ (c.in_ok-record.ensures ∙ ap (λ z. found_in (seek_at (category_at c.in_ok-opened.opened.profile) 3 z c.args.n)) (to_end c.args.block.now 3))

-- the item that the map has
there : (c : Else-start-eq0) (k : Opens c.args.block.now (opened_said c.in_ok-opened.opened))
    → NamedAt c.args.reference 1 (places (category_at c.in_ok-opened.opened.profile)) c.in_ok-frn.frn
    → LocatedAt (seek_at (category_at c.in_ok-opened.opened.profile) 3 (drop 3 c.args.block.now) c.args.n) c.in_ok-record.record
    → ThereAt c.args.block.now c.args.reference c.args.n c.in_ok-opened.opened.profile c.in_ok-opened.opened.records k c.in_ok-frn.frn (get_or c.in_ok-record.record.map.starts (c.in_ok-frn.frn - 1) 0)
there c k n s = there_at _ _ _ _ _ k _ s.map _ n s.found (ap (λ z. z.starts) s.map_is) c.if-start-eq0.false

-- what its check answers
checked : (c : Else-start-eq0) (i f x size : ℕ) → check_at i f (drop x c.args.block.now) ≡ ok size → check_at i f (take (length c.args.block.now - x) (drop x c.args.block.now)) ≡ ok size
checked c i f x size h = ap (check_at i f) (to_end c.args.block.now x) ∙ h

-- there is no such record
pub returns-in_err-record : goal.returns-in_err-record
returns-in_err-record c =
    let none = lost _ _ _ (c.in_err-record.ensures ∙ ap (λ z. found_in (seek_at (category_at c.in_ok-opened.opened.profile) 3 z c.args.n)) (to_end c.args.block.now 3)) in
    told_as-exit _ _ _ c.from_residual-in_err-record.ensures.1
    ∙ ap item_span (sym (no_record_is _ _ _ _ _ (is_open (goal.at.returns-in_err-record c).In_ok-opened) _ _ _ (named (goal.at.returns-in_err-record c).In_ok-frn) none))

pub overflow_sub-start : goal.overflow_sub-start
overflow_sub-start c = omega (arith, (named (goal.at.overflow_sub-start c).In_ok-frn).frn_is)

pub offset_bounds-record-frn : goal.offset_bounds-record-frn
offset_bounds-record-frn c = record { fits = omega (arith, index_in _ _ c.args.n _ _ (is_open (goal.at.offset_bounds-record-frn c).In_ok-opened) _ (named (goal.at.offset_bounds-record-frn c).In_ok-frn)) }

pub bounds-record-frn : goal.bounds-record-frn
bounds-record-frn c = index_in _ _ c.args.n _ _ (is_open (goal.at.bounds-record-frn c).In_ok-opened) _ (named (goal.at.bounds-record-frn c).In_ok-frn)

-- 0 in the map
pub returns-then-start-eq0 : goal.returns-then-start-eq0
returns-then-start-eq0 c =
    refused_as _ _ _ c.at.ensures.is c.at.ensures.place
    ∙ ap (refused 20) (sym (sought (goal.at.returns-then-start-eq0 c).In_ok-record).start_is)
    ∙ ap item_span (sym (absent_at_lem _ _ _ _ _ (is_open (goal.at.returns-then-start-eq0 c).In_ok-opened) _ (sought (goal.at.returns-then-start-eq0 c).In_ok-record).map _ (named (goal.at.returns-then-start-eq0 c).In_ok-frn) (sought (goal.at.returns-then-start-eq0 c).In_ok-record).found (ap (λ z. z.starts) (sought (goal.at.returns-then-start-eq0 c).In_ok-record).map_is) c.if-start-eq0.true))

pub slice_bounds-check_item-count : goal.slice_bounds-check_item-count
slice_bounds-check_item-count c = omega (arith, (there (goal.at.slice_bounds-check_item-count c).Else-start-eq0 (is_open (goal.at.slice_bounds-check_item-count c).In_ok-opened) (named (goal.at.slice_bounds-check_item-count c).In_ok-frn) (sought (goal.at.slice_bounds-check_item-count c).In_ok-record)).start_is, (there (goal.at.slice_bounds-check_item-count c).Else-start-eq0 (is_open (goal.at.slice_bounds-check_item-count c).In_ok-opened) (named (goal.at.slice_bounds-check_item-count c).In_ok-frn) (sought (goal.at.slice_bounds-check_item-count c).In_ok-record)).inside)

pub slice_bounds-check_item-start : goal.slice_bounds-check_item-start
slice_bounds-check_item-start c = omega (arith, (there (goal.at.slice_bounds-check_item-start c).Else-start-eq0 (is_open (goal.at.slice_bounds-check_item-start c).In_ok-opened) (named (goal.at.slice_bounds-check_item-start c).In_ok-frn) (sought (goal.at.slice_bounds-check_item-start c).In_ok-record)).start_is, (there (goal.at.slice_bounds-check_item-start c).Else-start-eq0 (is_open (goal.at.slice_bounds-check_item-start c).In_ok-opened) (named (goal.at.slice_bounds-check_item-start c).In_ok-frn) (sought (goal.at.slice_bounds-check_item-start c).In_ok-record)).inside)

-- an item that is there is whole
pub returns-in_err-length : goal.returns-in_err-length
returns-in_err-length c = refused_ok (c.in_err-length.ensures ∙ checked (goal.at.returns-in_err-length c).Else-start-eq0 _ _ _ _ (there (goal.at.returns-in_err-length c).Else-start-eq0 (is_open (goal.at.returns-in_err-length c).In_ok-opened) (named (goal.at.returns-in_err-length c).In_ok-frn) (sought (goal.at.returns-in_err-length c).In_ok-record)).check)

pub returns : goal.returns
returns c =
    ap₂ (λ x y. ok (x, y)) (there (goal.at.returns c).Else-start-eq0 (is_open (goal.at.returns c).In_ok-opened) (named (goal.at.returns c).In_ok-frn) (sought (goal.at.returns c).In_ok-record)).start_is (ok_inj (c.in_ok-length.ensures ∙ checked (goal.at.returns c).Else-start-eq0 _ _ _ _ (there (goal.at.returns c).Else-start-eq0 (is_open (goal.at.returns c).In_ok-opened) (named (goal.at.returns c).In_ok-frn) (sought (goal.at.returns c).In_ok-record)).check))
    ∙ ap item_span (sym (there (goal.at.returns c).Else-start-eq0 (is_open (goal.at.returns c).In_ok-opened) (named (goal.at.returns c).In_ok-frn) (sought (goal.at.returns c).In_ok-record)).found)
