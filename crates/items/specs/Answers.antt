-- What each function of this crate answers, in the words of the rules. Assumes nothing.
use Rattle.std.specs.Prelude.{ℕ, ◌+◌, ◌-◌, ◌*◌, ◌<◌, ◌≡◌, true, cond, ◌&&◌, List, ltb, length, Option as Optional, Some, None, Result}
use Rattle.std.proofs.Math.Option.{Option, none, some}
use Rattle.rules.specs.declared.faults.Refusal.{Refusal}
use Rattle.rules.specs.Told.{told}
use Rattle.rules.specs.Answer.{Answer, ok, refused, expect◌or◌, ◌>>=◌}
use Rattle.rules.specs.Chain.{flatten}
use Rattle.rules.specs.Layout.{Layout, read_item}
use Rattle.rules.specs.Presence.{place_at}
use Rattle.rules.specs.Record.{Place}
use Rattle.rules.specs.Catalogue.{categories}
use Rattle.rules.specs.Entry.{profile_at}
unfoldable pub use Rattle.tables.specs.Profiles.{profile_in}
use Rattle.tables.specs.declared.tables.Kind.TheVariants.{Fixed}
use Rattle.tables.specs.declared.tables.LayoutRow.{LayoutRow}
use Rattle.tables.specs.declared.tables.PlaceRow.{PlaceRow}
use Rattle.tables.specs.Tables.{profile_count, frn_count, layout_count, nowhere, group_at, layout_is, layout_at, place_row_at, place_is}
use Rattle.tables.specs.Places.{frn_as}
use Rattle.items.specs.declared.OnePart.{OnePart}
use Rattle.items.specs.declared.OnePart.TheVariants as part

-- ---- places

-- the item at a place, by its row
abbrev pub place_of : Optional PlaceRow → Option Place
place_of None = none
place_of (Some p) = place_is p

-- its reference
abbrev pub reference_in : Option Place → Optional ℕ
reference_in none = None
reference_in (some p) = Some p.reference

abbrev pub frn_of : Optional ℕ → Option ℕ
frn_of None = none
frn_of (Some f) = some f

-- the row of the tables for a place of a profile
abbrev pub place_row : ℕ → ℕ → PlaceRow
place_row profile frn = cond (ltb profile profile_count && ltb frn frn_count) (place_row_at (profile * frn_count + frn)) nowhere

-- what is at a place of a profile has a layout
pub record HasItem (profile frn : ℕ) (p : PlaceRow) : Type 0 where
  pub row : p ≡ place_row profile frn
  pub some : 0 < p.layout
  pub inside : p.layout < layout_count

-- the place of the layout of an item
abbrev pub row_found : ℕ → Option ℕ → Optional ℕ
row_found profile none = None
row_found profile (some frn) = Some (place_row profile frn).layout

abbrev pub row_named : ℕ → ℕ → Optional ℕ
row_named category reference = row_found (profile_in category categories) (frn_as reference 1 (flatten (profile_at categories (profile_in category categories))))

-- the layout that is there: 21 where there is no item
abbrev pub layout_named : Optional ℕ → Answer Layout
layout_named None = refused 21 0
layout_named (Some j) = expect layout_is (layout_at j) or 21

-- ---- the check of an item

abbrev pub checked_of : Result ℕ Refusal → Answer ℕ
checked_of = told

-- an item with one part, by its group
pub record Single (l : LayoutRow) (g : ℕ) : Type 0 where
  pub kind : l.kind ≡ Fixed
  pub group : l.first ≡ g

-- a free one, of so many octets
pub record Free (l : LayoutRow) (n : ℕ) : Type 0 where
  pub kind : l.kind ≡ Fixed
  pub free : (group_at l.first).free ≡ true
  pub size : (group_at l.first).octets ≡ n

abbrev pub IsPart : OnePart → LayoutRow → Type 0
IsPart (part.Free n) l = Free l n
IsPart (part.Ruled g) l = Single l g

-- how many octets the item that starts the octets takes
unfoldable pub size_of : Layout → List ℕ → Answer ℕ
size_of l bs = do
  (vs, rest) ← read_item l bs
  ok (length bs - length rest)

-- the item at an FRN of a profile: 21 where there is none
unfoldable pub check_at : ℕ → ℕ → List ℕ → Answer ℕ
check_at profile frn bs = do
  p ← expect place_at (profile_at categories profile) frn or 21
  size_of p.layout bs

-- ---- one item read

-- how many fields, or the refusal
abbrev pub read_of : Result ℕ Refusal → Answer ℕ
read_of = told

-- how many values an answer has
unfoldable pub count_of : {A : Type 0} → Answer (List A) → Answer ℕ
count_of m = do
  vs ← m
  ok (length vs)
