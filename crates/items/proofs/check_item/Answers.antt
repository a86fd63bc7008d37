-- `items::check_item` meets its contract: the row of the place says what the profile has there. Assumes nothing.
use mathlib.Core.Path.{◌∙◌}
use mathlib.Core.Logic.{⊎_elim}
use native.Mathlib.Omega.{arith}
use Rattle.tables.proofs.TableLaws.{none_past, none_other}
use Rattle.layouts.proofs.OctetLaws.{octets_known}
use Rattle.rules.proofs.ToldLaws.{refused_as}
use Rattle.items.proofs.CheckLaws.{check_place, no_place_lem}
use Rattle.items.proofs.check_item.Goals as goal

pub returns-then-profile-ge-PROFILES : goal.returns-then-profile-ge-PROFILES
returns-then-profile-ge-PROFILES c =
    refused_as _ _ _ c.at.ensures.is c.at.ensures.place
    ∙ no_place_lem _ _ _ (⊎_elim (λ h. none_other c.args.profile c.args.frn h) (λ h. none_past c.args.profile c.args.frn h.1) c.then-profile-ge-PROFILES.either)

pub returns : goal.returns
returns c =
    c.check_at.ensures
    ∙ check_place _ _ _ c.if-profile-ge-PROFILES.false c.if-frn-ge-FRNS.false (octets_known c.args.part.now (λ i. omega (arith, c.type_inv.part i)))
