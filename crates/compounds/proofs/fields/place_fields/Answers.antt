-- `compounds::fields::place_fields` meets its contract. Assumes nothing.
use Prim.Native.Nat.{◌+◌, ◌≤◌}
use mathlib.Core.Path.{◌≡◌, ap, sym, ◌∙◌, subst}
use mathlib.Core.Bool.{true}
use lib.ListN.{length}
use lib.Seq.{sets}
use Rattle.tables.specs.declared.tables.LayoutRow.{LayoutRow}
use Rattle.tables.specs.Tables.{subfield_at, layout_at}
use Rattle.tables.proofs.TableLaws.{subfield_row}
use Rattle.layouts.specs.Read.{whole_of, row_sound}
use Rattle.layouts.proofs.SoundLaws.{layout_sound}
use Rattle.compounds.specs.Compound.{most_fields, part_fields}
use Rattle.compounds.proofs.FieldLaws.{nothing_kept, absent_kept, there_kept, there_passes}
use Rattle.compounds.proofs.fields.place_fields.Goals as goal
use Rattle.compounds.proofs.fields.place_fields.Goals.{After-layout_at-l}

pub returns-then-row-eq0 : goal.returns-then-row-eq0
returns-then-row-eq0 c = nothing_kept c.args.place c.args.s.now c.args.start c.args.out.now {t = c.args.there} c.if-not-there.true c.subfield_at-row.ensures.0 c.if-row-eq0.true

pub returns-then-not-there : goal.returns-then-not-there
returns-then-not-there c = absent_kept c.args.place c.args.s.now c.args.start c.args.out.now {t = c.args.there} c.if-not-there.true c.subfield_at-row.ensures.0 c.if-row-eq0.false _ _ c.absent_store.ensures

-- the row of the subfield, and its shape
row_at : (c : After-layout_at-l) → c.layout_at-l.result ≡ layout_at (subfield_at c.args.place)
row_at c = c.layout_at-l.ensures ∙ ap layout_at c.subfield_at-row.ensures.0

sound_at : (c : After-layout_at-l) → row_sound c.layout_at-l.result ≡ true
sound_at c = subst (λ (l : LayoutRow). row_sound l ≡ true) (sym (row_at c)) (layout_sound _ (subfield_row _))

pub whole_of-requires : goal.whole_of-requires
whole_of-requires c = sound_at (goal.at.whole_of-requires c).After-layout_at-l

pub parts_fields-requires : goal.parts_fields-requires
parts_fields-requires c = (
  sound_at (goal.at.parts_fields-requires c).After-layout_at-l,
  (_, sym c.in-Ok.ensures),
  subst (λ (l : LayoutRow). c.args.start + most_fields l ≤ 8_192) (sym (row_at (goal.at.parts_fields-requires c).After-layout_at-l)) c.requires.1,
)

pub unreachable-requires : goal.unreachable-requires
unreachable-requires c =
    there_passes c.args.place c.args.s.now c.args.start c.args.out.now c.args.out.now {t = c.args.there} c.if-not-there.false c.requires.2 _ _
    (c.in_default.ensures ∙ ap (λ (l : LayoutRow). whole_of l c.args.s.now) (row_at (goal.at.unreachable-requires c).After-layout_at-l))

pub returns : goal.returns
returns c =
    let e = row_at (goal.at.returns c).After-layout_at-l in
    there_kept c.args.place c.args.s.now c.args.start c.args.out.now _ {t = c.args.there} c.if-not-there.false _ _ _
    (c.in-Ok.ensures ∙ ap (λ (l : LayoutRow). whole_of l c.args.s.now) e)
    (subst (λ (l : LayoutRow). (c.parts_fields.result ≡ c.args.start + length (part_fields true l c.in-Ok.parts.count c.args.s.now)) × (c.parts_fields.new.out ≡ sets c.args.out.now c.args.start (part_fields true l c.in-Ok.parts.count c.args.s.now))) e c.parts_fields.ensures)
