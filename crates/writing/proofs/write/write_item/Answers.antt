-- `writing::write::write_item` meets its contract: the layout of the reference is written, compound or not (`ItemLaws`). Assumes nothing.
use Prim.Native.Nat.{◌<◌}
use mathlib.Core.Path.{◌≡◌, sym, ap, ◌∙◌}
use Rattle.rules.specs.Answer.{refused, expect◌or◌}
use Rattle.rules.specs.Catalogue.{categories}
use Rattle.rules.specs.Entry.{layout_of}
use Rattle.rules.specs.Told.{number_of}
use Rattle.tables.specs.Tables.{layout_count, layout_is, layout_at}
use Rattle.rules.proofs.ToldLaws.{begun, missing}
use denote.Enum.Bare.{same_true, same_false}
use Rattle.tables.specs.contracts.tables.Kind.{the_type}
use Rattle.writing.proofs.ItemLaws.{no_layout, one_layout, has_format}
use Rattle.writing.proofs.write.write_item.Goals as goal
use Rattle.writing.proofs.write.write_item.Goals.{In_ok-place}

-- 21: no such item
pub returns-in_err-place : goal.returns-in_err-place
returns-in_err-place c = let told = no_layout _ _ c.args.fields.now c.args.out.now (rw c.in_err-place.ensures.ok_part at c.layout_of.ensures.layout) in
    record { answer = begun _ _ c.from_residual.ensures.1 ∙ ap (λ f. refused (number_of f) 0) (missing _ _ _ c.in_err-place.ensures.value) ∙ told.0; left = told.1 }

-- the layout that was found
inside_lem : (c : In_ok-place) → (0 < c.in_ok-place.place) × (c.in_ok-place.place < layout_count)
inside_lem c = rw c.in_ok-place.ensures.ok_part at c.layout_of.ensures.inside

layout_lem : (c : In_ok-place) → (expect layout_is (layout_at c.in_ok-place.place) or 21) ≡ layout_of categories c.args.category c.args.reference
layout_lem c = rw c.in_ok-place.ensures.ok_part at c.layout_of.ensures.layout

pub write_compound-requires : goal.write_compound-requires
write_compound-requires c = sym (ap (λ x. x.kind) c.row-l.ensures) ∙ same_true the_type tt _ _ (sym c.eq.ensures ∙ c.if-eq.true)

-- a compound item
pub returns-then-eq : goal.returns-then-eq
returns-then-eq c =
    let e = c.write_compound.ensures in
    let told = one_layout _ _ _ _ c.args.out.now (layout_lem (goal.at.returns-then-eq c).In_ok-place) (e.answer, e.left) in
    record { answer = told.0; left = told.1 }

pub write_plain-requires : goal.write_plain-requires
write_plain-requires c =
    let k = inside_lem (goal.at.write_plain-requires c).In_ok-place in
    has_format _ k.1 k.0 c.row-l.ensures (same_false the_type _ _ (sym c.eq.ensures ∙ c.if-eq.false))

-- any other
pub returns : goal.returns
returns c =
    let e = c.write_plain.ensures in
    let told = one_layout _ _ _ _ c.args.out.now (layout_lem (goal.at.returns c).In_ok-place) (e.answer, e.left) in
    record { answer = told.0; left = told.1 }
