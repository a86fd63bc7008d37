-- What holds of the category with any index, by computed tests over the rules' categories: its profile, row by row and place by place; the place
-- of its message type item. Assumes nothing.
use Prim.Native.Nat.{ℕ, suc, ◌-◌, ◌≤◌, ◌<◌}
use mathlib.Core.Path.{◌≡◌, refl, ap}
use mathlib.Core.Logic.{◌⊎◌, inl, inr, ⊎_elim}
use mathlib.Core.Bool.{Bool, true, false, ◌&&◌, ◌||◌, false≢true}
use mathlib.Core.List.{List, [], ◌∷◌}
use mathlib.Core.Option.{Option, none, some}
use native.Mathlib.Omega.{arith}
use lib.Dec.{leb, ltb, eqb}
use borrow.Author.Tests.{leb-true, ltb-true, eqb-true}
use lib.ListN.{length, get_or}
use Rattle.rules.specs.Answer.{when◌then◌else◌}
use Rattle.rules.specs.Layout.{Layout}
use Rattle.rules.specs.Record.{Place, Category, places, at}
use Rattle.rules.specs.Catalogue.{categories}
use Rattle.rules.proofs.AnswerLaws.{both_left, both_right, or_cases}
use Rattle.rules.proofs.Tables.{every_category, distinct, sound_category, cats_of, once, Sound, sound_category_lem, tables_hold}
use Rattle.rules.specs.Entry.{map_places}
use Rattle.tables.specs.Places.{frn_as}
use Rattle.tables.specs.Profiles.{frn_in}
pub use Rattle.tables.proofs.ProfileLaws.{category_test, profile_at_lem}
use Rattle.sets.specs.Sets.{category_at}
use Rattle.sets.specs.Steps.{type_frn}
use Rattle.sets.proofs.SpelledLaws.{spelling}

-- ---- its profile

-- an FSPEC octet has seven presence bits
abbrev pub sevens : List (List (Option Place)) → Bool
sevens [] = true
sevens (p ∷ ps) = eqb (length p) 7 && sevens ps

tables_sevens : every_category (λ c. sevens c.profile) categories ≡ true
unfolding categories
tables_sevens = refl

pub profile_sevens : (i : ℕ) → sevens (category_at i).profile ≡ true
profile_sevens = category_test (λ c. sevens c.profile) tables_sevens refl

tables_short : every_category (λ c. leb (length c.profile) 8) categories ≡ true
unfolding categories
tables_short = refl

pub profile_short : (i : ℕ) → length (category_at i).profile ≤ 8
profile_short i = leb-true _ _ (category_test (λ c. leb (length c.profile) 8) tables_short refl i)

category_sound : (i : ℕ) → Sound (category_at i)
category_sound i = sound_category_lem (category_at i) (category_test sound_category (both_left (every_category sound_category categories) (once (cats_of categories)) tables_hold) refl i)

pub places_few : (i : ℕ) → length (places (category_at i)) ≤ map_places
places_few i = (category_sound i).few

pub places_distinct : (i : ℕ) → distinct (places (category_at i)) ≡ true
places_distinct i = (category_sound i).references

-- ---- the message type item

-- it is an octet whose fields spell the type, at a place of the profile
pub record TypePlace (i : ℕ) : Type 0 where
  pub index : ℕ
  pub frn : type_frn i ≡ suc index
  pub layout : Layout
  pub spells : spelling layout ≡ true
  pub place : get_or (places (category_at i)) index none ≡ at 0 layout

-- by one test over the tables: the first item with reference 000 is such an octet
abbrev type_place : Option Place → Bool
type_place none = false
type_place (some p) = eqb p.reference 0 && spelling p.layout

place_is_lem : (o : Option Place) → type_place o ≡ true → (l : Layout) × (spelling l ≡ true) × (o ≡ at 0 l)
place_is_lem none h = absurd (false≢true h)
place_is_lem (some p) h =
    (p.layout, both_right (eqb p.reference 0) _ h, ap (λ r. at r p.layout) (eqb-true p.reference 0 (both_left (eqb p.reference 0) _ h)))

abbrev typed : Category → Bool
typed c = eqb (length c.profile) 0 || (ltb 0 (frn_in 0 c) && type_place (get_or (places c) (frn_in 0 c - 1) none))

tables_typed : every_category typed categories ≡ true
unfolding categories frn_as when◌then◌else◌
tables_typed = refl

no_rows : {A : Type 0} (l : List A) → length l ≡ 0 → l ≡ []
no_rows [] h = refl
no_rows (x ∷ l) h = absurd (omega arith)

pub type_place_lem : (i : ℕ) → ((category_at i).profile ≡ []) ⊎ TypePlace i
unfolding type_frn
type_place_lem i =
    ⊎_elim
    (λ h. inl (no_rows (category_at i).profile (eqb-true _ 0 h)))
    (λ h.
    let some : 0 < frn_in 0 (category_at i) = ltb-true 0 _ (both_left (ltb 0 (frn_in 0 (category_at i))) _ h) in
    let (l, spells, place) = place_is_lem _ (both_right (ltb 0 (frn_in 0 (category_at i))) _ h) in
    inr (record { index = frn_in 0 (category_at i) - 1; frn = omega arith; layout = l; spells = spells; place = place }))
    (or_cases (eqb (length (category_at i).profile) 0) _ (category_test typed tables_typed refl i))
