-- `items::place_of` meets its contract: the row of the table stands for what the profile has there. Assumes nothing.
use Prim.Native.Nat.{◌<◌, ◌*◌, ◌+◌}
use mathlib.Core.Path.{ap, ap₂, ◌∙◌, sym, subst}
use mathlib.Core.Bool.{cond, ◌&&◌}
use mathlib.Core.Logic.{⊎_elim}
use native.Mathlib.Omega.{arith}
use borrow.Author.Tests.{lt-ltb}
use Rattle.tables.specs.declared.tables.PlaceRow.{PlaceRow}
use Rattle.tables.specs.Tables.{layout_count, profile_count, frn_count, nowhere, place_row_at, place_is}
use Rattle.tables.proofs.TableLaws.{place_is_lem, place_row_lem, place_none, none_past, none_other}
use Rattle.items.proofs.PlaceLaws.{no_item}
use Rattle.items.proofs.place_of.Goals as goal

pub returns-then-profile-ge-PROFILES-clause-place : goal.returns-then-profile-ge-PROFILES-clause-place
returns-then-profile-ge-PROFILES-clause-place c =
    sym place_none ∙ ⊎_elim (λ h. none_other c.args.profile c.args.frn h) (λ h. none_past c.args.profile c.args.frn h.1) c.then-profile-ge-PROFILES.either

pub returns-then-p-eq0-clause-place : goal.returns-then-p-eq0-clause-place
returns-then-p-eq0-clause-place c =
    sym (no_item _ c.if-p-eq0.true) ∙ ap place_is c.place_at-p.ensures ∙ place_is_lem c.args.profile c.args.frn c.if-profile-ge-PROFILES.false c.if-frn-ge-FRNS.false

pub returns-else-p-eq0-clause-place : goal.returns-else-p-eq0-clause-place
returns-else-p-eq0-clause-place c = ap place_is c.place_at-p.ensures ∙ place_is_lem c.args.profile c.args.frn c.if-profile-ge-PROFILES.false c.if-frn-ge-FRNS.false

pub returns-else-p-eq0-clause-row : goal.returns-else-p-eq0-clause-row
returns-else-p-eq0-clause-row c = record {
  row =
      c.place_at-p.ensures
      ∙ sym (ap (λ t. cond t (place_row_at (c.args.profile * frn_count + c.args.frn)) nowhere) (ap₂ ◌&&◌ (lt-ltb _ profile_count c.if-profile-ge-PROFILES.false) (lt-ltb _ frn_count c.if-frn-ge-FRNS.false)));
  some = omega (arith, c.if-p-eq0.false);
  inside = subst (λ (r : PlaceRow). r.layout < layout_count) (sym c.place_at-p.ensures) (place_row_lem (c.args.profile * frn_count + c.args.frn));
}
