-- `items::check_at` meets its contract: an item with one part by its octets or its group, any other by its layout. Assumes nothing.
use Prim.Native.Nat.{◌<◌}
use mathlib.Core.Path.{◌≡◌, ap, sym, ◌∙◌, subst}
use mathlib.Core.Bool.{true}
use native.Mathlib.Omega.{arith}
use Rattle.tables.specs.declared.tables.LayoutRow.{LayoutRow}
use Rattle.tables.specs.Tables.{layout_count, layout_at, place_row_at}
use Rattle.tables.proofs.TableLaws.{place_row_lem}
use Rattle.layouts.specs.Read.{row_sound}
use Rattle.layouts.proofs.OctetLaws.{octets_known}
use Rattle.layouts.proofs.SoundLaws.{layout_sound}
use Rattle.compounds.specs.Compound.{shaped, item_sound}
use Rattle.compounds.proofs.ItemLaws.{row_item}
use Rattle.compounds.proofs.SizeLaws.{size_read, size_refused}
use Rattle.rules.proofs.ToldLaws.{refused_as, handed}
use Rattle.items.specs.Answers.{Single, Free}
use Rattle.items.proofs.CheckLaws.{single_size_lem, single_sound, free_cut, free_there, one_part}
use Rattle.items.proofs.check_at.Goals as goal
use Rattle.items.proofs.check_at.Goals.{After-layout_at, In-Some-Ruled, In-Some-Free}

-- its one part
ruled_at : (c : In-Some-Ruled) → Single (layout_at (place_row_at c.args.place).layout) c.in-Some-Ruled.group
ruled_at c = rw c.in-Some-Ruled.field-0-is at c.in-Some-Ruled.ensures

free_at : (c : In-Some-Free) → Free (layout_at (place_row_at c.args.place).layout) c.in-Some-Free.octets
free_at c = rw c.in-Some-Free.field-0-is at c.in-Some-Free.ensures

-- the layout of any other item
row_at : (c : After-layout_at) → c.layout_at.result ≡ layout_at (place_row_at c.args.place).layout
row_at c = c.layout_at.ensures ∙ ap layout_at c.layout_row.ensures

pub check_single-requires : goal.check_single-requires
check_single-requires c = single_sound _ _ (layout_sound _ (place_row_lem _)) (ruled_at (goal.at.check_single-requires c).In-Some-Ruled)

pub returns-in-Some-Ruled : goal.returns-in-Some-Ruled
returns-in-Some-Ruled c =
    let r = ruled_at (goal.at.returns-in-Some-Ruled c).In-Some-Ruled in
    c.check_single.ensures ∙ single_size_lem _ _ _ r ∙ one_part _ _ r.kind

pub returns-then-part-octets : goal.returns-then-part-octets
returns-then-part-octets c =
    let f = free_at (goal.at.returns-then-part-octets c).In-Some-Free in
    refused_as _ _ _ c.at.ensures.is c.at.ensures.place
    ∙ free_cut _ _ _ (layout_sound _ (place_row_lem _)) (octets_known c.args.part.now (λ i. omega (arith, c.type_inv.part i))) f c.if-part-octets.true
    ∙ one_part _ _ f.kind

pub returns-else-part-octets : goal.returns-else-part-octets
returns-else-part-octets c =
    let f = free_at (goal.at.returns-else-part-octets c).In-Some-Free in
    free_there _ _ _ (layout_sound _ (place_row_lem _)) (octets_known c.args.part.now (λ i. omega (arith, c.type_inv.part i))) f c.if-part-octets.false
    ∙ one_part _ _ f.kind

pub layout_at-requires : goal.layout_at-requires
layout_at-requires c = subst (λ j. j < layout_count) (sym c.layout_row.ensures) (place_row_lem _)

pub item_of-requires : goal.item_of-requires
item_of-requires c = subst (λ (l : LayoutRow). (row_sound l ≡ true) × (item_sound l ≡ true)) (sym (row_at (goal.at.item_of-requires c).After-layout_at)) (layout_sound _ (place_row_lem _), row_item _ (place_row_lem _))

pub returns-in_err-parts-in-None : goal.returns-in_err-parts-in-None
returns-in_err-parts-in-None c =
    handed _ _ c.from_residual.ensures.1
    ∙ size_refused _ _ _ _ (c.in_err-parts-in-None.ensures ∙ ap (λ (l : LayoutRow). shaped l c.args.part.now) (row_at (goal.at.returns-in_err-parts-in-None c).After-layout_at))

pub returns-in_ok-parts-in-None : goal.returns-in_ok-parts-in-None
returns-in_ok-parts-in-None c = size_read _ _ _ _ (c.in_ok-parts-in-None.ensures ∙ ap (λ (l : LayoutRow). shaped l c.args.part.now) (row_at (goal.at.returns-in_ok-parts-in-None c).After-layout_at))
