-- `compounds::subfields::place_of` meets its contract. Assumes nothing.
use mathlib.Core.Path.{◌≡◌, ap, sym, ◌∙◌, subst}
use mathlib.Core.Bool.{true}
use Rattle.tables.specs.declared.tables.LayoutRow.{LayoutRow}
use Rattle.tables.specs.Tables.{subfield_at, layout_at}
use Rattle.tables.proofs.TableLaws.{subfield_row}
use Rattle.rules.proofs.ToldLaws.{refused_as}
use Rattle.layouts.specs.Read.{whole_of, row_sound}
use Rattle.layouts.proofs.SoundLaws.{layout_sound}
use Rattle.compounds.proofs.SubfieldLaws.{absent_size, there_size, there_refused}
use Rattle.compounds.proofs.subfields.place_of.Goals as goal
use Rattle.compounds.proofs.subfields.place_of.Goals.{After-layout_at}

-- the row of the subfield
row_at : (c : After-layout_at) → c.layout_at.result ≡ layout_at (subfield_at c.args.place)
row_at c = c.layout_at.ensures ∙ ap layout_at c.subfield_at.ensures.0

pub returns-then-not-there : goal.returns-then-not-there
returns-then-not-there c = absent_size c.args.place c.args.s.now {t = c.args.there} c.if-not-there.true

pub layout_at-requires : goal.layout_at-requires
layout_at-requires c = c.subfield_at.ensures.1

pub whole_of-requires : goal.whole_of-requires
whole_of-requires c = subst (λ (l : LayoutRow). row_sound l ≡ true) (sym (row_at (goal.at.whole_of-requires c).After-layout_at)) (layout_sound _ (subfield_row _))

pub returns-in-Ok : goal.returns-in-Ok
returns-in-Ok c =
    there_size c.args.place c.args.s.now {t = c.args.there} _ _ c.if-not-there.false
    (c.in-Ok.ensures ∙ ap (λ (l : LayoutRow). whole_of l c.args.s.now) (row_at (goal.at.returns-in-Ok c).After-layout_at))

pub returns-in-Err : goal.returns-in-Err
returns-in-Err c =
    refused_as _ _ _ c.at.ensures.is c.at.ensures.place
    ∙ there_refused c.args.place c.args.s.now {t = c.args.there} _ _ c.if-not-there.false
    (c.in-Err.ensures ∙ ap (λ (l : LayoutRow). whole_of l c.args.s.now) (row_at (goal.at.returns-in-Err c).After-layout_at))
