-- For each function that another crate can call, no two distinct results meet its statement. Assumes nothing.
use Prim.Native.Nat.{ℕ, ◌^◌, ◌<◌}
use mathlib.Core.Path.{◌≡◌, sym, ◌∙◌}
use mathlib.Core.Bool.{Bool}
use lib.ListN.{get_or}
use lib.Seq.{slice}
use Rattle.rules.specs.Catalogue.{categories}
use Rattle.tables.specs.declared.profiles.ProfileRow.{ProfileRow}
use Rattle.tables.specs.declared.tables.FieldRow.{FieldRow}
use Rattle.tables.specs.declared.tables.GroupRow.{GroupRow}
use Rattle.tables.specs.declared.tables.Kind.{Kind}
use Rattle.tables.specs.declared.tables.LayoutRow.{LayoutRow}
use Rattle.tables.specs.declared.tables.PlaceRow.{PlaceRow}
use Rattle.tables.specs.Tables.{kind_by, layout_count, field_at, group_at, layout_at, place_row_at, primary_at, subfield_at}
use Rattle.tables.specs.Profiles.{profile_in, profile_row_at}
use Rattle.tables.specs.FieldRules.{all_obeyed, rules, first_rule, singles}

-- ---- rows, and how parts lie by a number

pub one_kind_of : (number : ℕ) (a b : Kind) → a ≡ kind_by number → b ≡ kind_by number → a ≡ b
one_kind_of number a b p q = p ∙ sym q

pub one_field_at : (place : ℕ) (a b : FieldRow) → a ≡ field_at place → b ≡ field_at place → a ≡ b
one_field_at place a b p q = p ∙ sym q

pub one_group_at : (place : ℕ) (a b : GroupRow) → a ≡ group_at place → b ≡ group_at place → a ≡ b
one_group_at place a b p q = p ∙ sym q

pub one_layout_at : (place : ℕ) (a b : LayoutRow) → a ≡ layout_at place → b ≡ layout_at place → a ≡ b
one_layout_at place a b p q = p ∙ sym q

pub one_layout_row : (place a b : ℕ) → a ≡ (place_row_at place).layout → b ≡ (place_row_at place).layout → a ≡ b
one_layout_row place a b p q = p ∙ sym q

pub one_primary_at : (place a b : ℕ) → a ≡ primary_at place → b ≡ primary_at place → a ≡ b
one_primary_at place a b p q = p ∙ sym q

pub one_subfield_at : (place a b : ℕ) → (a ≡ subfield_at place) × (a < layout_count) → (b ≡ subfield_at place) × (b < layout_count) → a ≡ b
one_subfield_at place a b p q = p.0 ∙ sym q.0

pub one_place_at : (place : ℕ) (a b : PlaceRow) → a ≡ place_row_at place → b ≡ place_row_at place → a ≡ b
one_place_at place a b p q = p ∙ sym q

pub one_profile_row : (profile : ℕ) (a b : ProfileRow) → a ≡ profile_row_at profile → b ≡ profile_row_at profile → a ≡ b
one_profile_row profile a b p q = p ∙ sym q

pub one_profile_of : (cat a b : ℕ) → a ≡ profile_in cat categories → b ≡ profile_in cat categories → a ≡ b
one_profile_of cat a b p q = p ∙ sym q

-- ---- the rules of fields

pub one_size_at : (group a b : ℕ) → a ≡ (group_at group).octets → b ≡ (group_at group).octets → a ≡ b
one_size_at group a b p q = p ∙ sym q

pub one_first_rule : (group a b : ℕ) → a ≡ first_rule group → b ≡ first_rule group → a ≡ b
one_first_rule group a b p q = p ∙ sym q

pub one_is_free : (group : ℕ) (a b : Bool) → a ≡ (group_at group).free → b ≡ (group_at group).free → a ≡ b
one_is_free group a b p q = p ∙ sym q

pub one_single_at : (place a b : ℕ) → a ≡ get_or singles place 0 → b ≡ get_or singles place 0 → a ≡ b
one_single_at place a b p q = p ∙ sym q

pub one_pow2 : (k a b : ℕ) → a ≡ 2 ^ k → b ≡ 2 ^ k → a ≡ b
one_pow2 k a b p q = p ∙ sym q

pub one_are_obeyed : (n first end : ℕ) (a b : Bool) → a ≡ all_obeyed (slice first end rules) n → b ≡ all_obeyed (slice first end rules) n → a ≡ b
one_are_obeyed n first end a b p q = p ∙ sym q
