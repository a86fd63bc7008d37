-- `items::layout_of` meets its contract: the search finds what the rules find. Assumes nothing.
use mathlib.Core.Path.{ap, ◌∙◌}
use Rattle.items.specs.Answers.{layout_named}
use Rattle.items.proofs.OneLaws.{layout_found, layout_missed, row_found_lem, row_missed, place_found}
use Rattle.items.proofs.layout_of.Goals as goal

pub returns-in_err-frn-clause-layout : goal.returns-in_err-frn-clause-layout
returns-in_err-frn-clause-layout c = ap layout_named c.from_residual.ensures ∙ layout_missed _ _ _ c.profile_of-profile.ensures c.in_err-frn.ensures

pub returns-in_err-frn-clause-row : goal.returns-in_err-frn-clause-row
returns-in_err-frn-clause-row c = c.from_residual.ensures ∙ row_missed _ _ _ c.profile_of-profile.ensures c.in_err-frn.ensures

pub returns-in_err-p-clause-layout : goal.returns-in_err-p-clause-layout
returns-in_err-p-clause-layout c = place_found _ _ _ c.profile_of-profile.ensures _ c.in_ok-frn.ensures c.in_err-p.ensures.place

pub returns-in_err-p-clause-row : goal.returns-in_err-p-clause-row
returns-in_err-p-clause-row c = place_found _ _ _ c.profile_of-profile.ensures _ c.in_ok-frn.ensures c.in_err-p.ensures.place

pub returns-clause-layout : goal.returns-clause-layout
returns-clause-layout c = layout_found _ _ _ c.profile_of-profile.ensures _ _ c.in_ok-frn.ensures c.in_ok-p.ensures.place

pub returns-clause-row : goal.returns-clause-row
returns-clause-row c = row_found_lem _ _ _ c.profile_of-profile.ensures _ _ c.in_ok-frn.ensures c.in_ok-p.ensures.row.row
