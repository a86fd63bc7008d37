-- `items::read_item` meets its contract: the item is checked, and then its values are stored. Assumes nothing.
use Prim.Native.Nat.{◌<◌}
use mathlib.Core.Path.{◌≡◌, sym, ap, ◌∙◌, subst}
use mathlib.Core.Bool.{true}
use native.Mathlib.Omega.{arith}
use Rattle.rules.specs.Answer.{refused, expect◌or◌}
use Rattle.rules.specs.Told.{number_of}
use Rattle.rules.specs.Catalogue.{categories}
use Rattle.rules.specs.Entry.{layout_of}
use Rattle.rules.proofs.AnswerLaws.{Octets}
use Rattle.tables.specs.declared.tables.LayoutRow.{LayoutRow}
use Rattle.tables.specs.Tables.{layout_count, layout_is, layout_at}
use Rattle.layouts.specs.Read.{row_sound}
use Rattle.layouts.proofs.OctetLaws.{octets_known}
use Rattle.layouts.proofs.SoundLaws.{layout_sound}
use Rattle.compounds.specs.Compound.{item_sound}
use Rattle.compounds.proofs.ItemLaws.{row_item}
use Rattle.rules.proofs.ToldLaws.{refused_as, begun, handed, missing}
use Rattle.items.proofs.OneLaws.{one_none, one_refused, one_longer, one_whole}
use Rattle.items.proofs.read_item.Goals as goal
use Rattle.items.proofs.read_item.Goals.{After-layout_at-l}

-- the layout that was found, in the tables
inside_lem : (c : After-layout_at-l) → c.in_ok-ok_or.field-0 < layout_count
inside_lem c = (rw c.in_ok-ok_or.ensures.ok_part at c.layout_of.ensures.inside).1

layout_lem : (c : After-layout_at-l) → (expect layout_is (layout_at c.in_ok-ok_or.field-0) or 21) ≡ layout_of categories c.args.category c.args.reference
layout_lem c = rw c.in_ok-ok_or.ensures.ok_part at c.layout_of.ensures.layout

sound_lem : (c : After-layout_at-l) → (row_sound c.layout_at-l.result ≡ true) × (item_sound c.layout_at-l.result ≡ true)
sound_lem c = subst (λ (l : LayoutRow). (row_sound l ≡ true) × (item_sound l ≡ true)) (sym c.layout_at-l.ensures) (layout_sound _ (inside_lem c), row_item _ (inside_lem c))

-- the octets of the item
octets_lem : (c : After-layout_at-l) → Octets c.args.item.now
octets_lem c = octets_known c.args.item.now (λ i. omega (arith, c.type_inv.item i))

pub item_of-requires : goal.item_of-requires
item_of-requires c = sound_lem c

pub returns-in_err-ok_or : goal.returns-in_err-ok_or
returns-in_err-ok_or c =
    let a = one_none _ _ c.args.item.now c.args.fields.now (rw c.in_err-ok_or.ensures.ok_part at c.layout_of.ensures.layout) in
    record { answer = begun _ _ c.from_residual.ensures.1 ∙ ap (λ f. refused (number_of f) 0) (missing _ _ _ c.in_err-ok_or.ensures.value) ∙ a.answer; left = a.left }

pub returns-in_err-count : goal.returns-in_err-count
returns-in_err-count c =
    let b = (goal.at.returns-in_err-count c).After-layout_at-l in
    let a = one_refused _ _ _ _ (layout_lem b) (inside_lem b) (octets_lem b) c.args.fields.now c.layout_at-l.ensures _ _ c.in_err-count.ensures in
    record { answer = handed _ _ c.from_residual-in_err-count.ensures.1 ∙ a.answer; left = a.left }

pub returns-then-long-item : goal.returns-then-long-item
returns-then-long-item c =
    let b = (goal.at.returns-then-long-item c).After-layout_at-l in
    let a = one_longer _ _ _ _ (layout_lem b) (inside_lem b) (octets_lem b) c.args.fields.now c.layout_at-l.ensures _ _ c.in_ok-count.ensures c.if-long-item.true in
    record { answer = refused_as _ _ _ c.at.ensures.is c.at.ensures.place ∙ a.answer; left = a.left }

pub item_fields-requires : goal.item_fields-requires
item_fields-requires c =
    let s = sound_lem (goal.at.item_fields-requires c).After-layout_at-l in
    (s.0, s.1, (_, sym c.in_ok-count.ensures))

pub returns : goal.returns
returns c =
    let b = (goal.at.returns c).After-layout_at-l in
    let a = one_whole _ _ _ _ (layout_lem b) (inside_lem b) (octets_lem b) c.args.fields.now c.layout_at-l.ensures _ _ c.in_ok-count.ensures c.if-long-item.false _ _ c.item_fields.ensures in
    record { answer = a.answer; left = a.left }
