-- What measuring takes for granted of a category: its message type is the octet that its fields spell and its time is one number, where the profile has them,
-- and a category that has an untimed message type has a message type item. One computed test of the catalogue, and what follows of the category with any index.
--
-- In order: an item of one number; the test; the FRN of a reference; the untimed message type; the category that a CAT names. Assumes nothing.
use Prim.Native.Nat.{ℕ, zero, suc, ◌+◌, ◌-◌, ◌/◌, ◌%◌, ◌^◌, ◌≤◌, ◌<◌}
use mathlib.Core.Path.{◌≡◌, refl, sym, ap, ap₂, ◌∙◌, subst}
use mathlib.Core.Logic.{⊎_elim}
use mathlib.Core.Bool.{Bool, true, false, ◌&&◌, false≢true}
use mathlib.Core.Option.{Option, none, some}
use mathlib.Core.List.{List, [], ◌∷◌}
use native.Mathlib.Omega.{arith}
use native.Mathlib.Nat.{div-eq_of_lt}
use lib.Dec.{eqb, ltb}
use lib.ListN.{length}
use borrow.Author.Tests.{ltb-true, eqb-true, eq-eqb, ne_eqb}
use Rattle.rules.specs.Answer.{ok, when◌then◌else◌}
use Rattle.rules.specs.Field.{Field, spare, value, unsigned, signed}
use Rattle.rules.specs.Format.{fixed, repeated, led, extended}
use Rattle.rules.specs.Layout.{Layout, plain, compound, Values, item, write_item}
use Rattle.rules.specs.Presence.{has}
use Rattle.rules.specs.Record.{Category, Place, places}
use Rattle.rules.specs.Block.{category_of}
use Rattle.rules.specs.Catalogue.{categories}
use Rattle.rules.specs.Entry.{map_places, layout_as}
use Rattle.rules.proofs.AnswerLaws.{if_true, if_false, if_inv, some_inj, none_some, both_left, both_right}
use Rattle.rules.proofs.Tables.{every_category}
use Rattle.rules.proofs.EntryLaws.{index_as}
use Rattle.rules.proofs.NumberLaws.{IsNumber, number_item}
use Rattle.tables.specs.Places.{frn_as}
use Rattle.tables.specs.Profiles.{or_none, frn_in, profile_row_at}
use Rattle.tables.proofs.ProfileLaws.{row_untimed, category_found, category_missed}
use Rattle.layouts.proofs.ReadLaws.{le_or_lt}
use Rattle.items.specs.Answers.{profile_in}
use Rattle.sets.specs.Sets.{category_at}
use Rattle.sets.specs.Steps.{type_frn}
use Rattle.sets.proofs.SpelledLaws.{spelling}
use Rattle.sets.proofs.ProfileLaws.{category_test, places_few}
use Rattle.measuring.specs.Measure.{time_frn, is_in, is_untimed}

-- ---- an item of one number, which has so many octets

abbrev one_number : List Field → Bool
one_number [] = false
one_number (spare w ∷ fs) = false
one_number (value w (signed lo hi) ∷ fs) = false
one_number (value w (unsigned lo hi) ∷ (f ∷ fs)) = false
one_number (value w (unsigned lo hi) ∷ []) = true

abbrev pub number_layout : ℕ → Layout → Bool
number_layout n (plain (fixed g)) = eqb g.size n && one_number g.fields
number_layout n (plain (repeated lo hi g)) = false
number_layout n (plain (led lo)) = false
number_layout n (plain (extended gs)) = false
number_layout n (compound ps) = false

-- a test of an item's layout, or no item
abbrev pub or_no_item : (Layout → Bool) → Option Layout → Bool
or_no_item t none = true
or_no_item t (some l) = t l

pub number_is : (n : ℕ) (l : Layout) (v : Values) (out : List ℕ) → number_layout n l ≡ true → write_item l v ≡ ok out → IsNumber n v out
number_is n (plain (repeated lo hi g)) v out h e = absurd (false≢true h)
number_is n (plain (led lo)) v out h e = absurd (false≢true h)
number_is n (plain (extended gs)) v out h e = absurd (false≢true h)
number_is n (compound ps) v out h e = absurd (false≢true h)
number_is n (plain (fixed g)) v out h e =
    subst (λ m. IsNumber m v out) (eqb-true g.size n (both_left (eqb g.size n) (one_number g.fields) h))
    (go g.fields (both_right (eqb g.size n) (one_number g.fields) h) e)
  where
    go : (fs : List Field) → one_number fs ≡ true → write_item (item g.size fs) v ≡ ok out → IsNumber g.size v out
    go [] h e = absurd (false≢true h)
    go (spare w ∷ fs) h e = absurd (false≢true h)
    go (value w (signed lo hi) ∷ fs) h e = absurd (false≢true h)
    go (value w (unsigned lo hi) ∷ (f ∷ fs)) h e = absurd (false≢true h)
    go (value w (unsigned lo hi) ∷ []) h e = number_item g.size w lo hi v out e

-- ---- THE TEST

abbrev typed_with : List ℕ → ℕ → Bool
typed_with [] f = true
typed_with (t ∷ ts) f = ltb 0 f

abbrev sound_time : Category → Bool
sound_time c = or_no_item spelling (layout_as 0 (places c)) && (or_no_item (number_layout 3) (layout_as c.time (places c)) && typed_with c.untimed (frn_in 0 c))

tables_timed : every_category sound_time categories ≡ true
unfolding categories frn_as when◌then◌else◌
tables_timed = refl

module _ (i : ℕ) where
  abbrev c : Category
  c = category_at i

  sound_time_lem : sound_time c ≡ true
  sound_time_lem = category_test sound_time tables_timed refl i

  pub type_spelled : or_no_item spelling (layout_as 0 (places c)) ≡ true
  type_spelled = both_left (or_no_item spelling (layout_as 0 (places c))) _ sound_time_lem

  pub time_number : or_no_item (number_layout 3) (layout_as c.time (places c)) ≡ true
  time_number = both_left (or_no_item (number_layout 3) (layout_as c.time (places c))) _ (both_right (or_no_item spelling (layout_as 0 (places c))) _ sound_time_lem)

  type_there : typed_with c.untimed (frn_in 0 c) ≡ true
  type_there = both_right (or_no_item (number_layout 3) (layout_as c.time (places c))) _ (both_right (or_no_item spelling (layout_as 0 (places c))) _ sound_time_lem)

-- ---- the FRN of a reference

pub frn_index : (ref k : ℕ) (ps : List (Option Place)) (f : ℕ) → frn_as ref k ps ≡ some f → (f ≡ k + index_as ref ps) × (index_as ref ps < length ps)
unfolding frn_as
frn_index ref k [] f h = none_some h
frn_index ref k (none ∷ ps) f h =
    ⊎_elim
    (λ (e, g). absurd (false≢true e))
    (λ (e, g). let n = frn_index ref (k + 1) ps f g in (omega (arith, n.0), omega (arith, n.1)))
    (if_inv false (some k) (frn_as ref (k + 1) ps) h)
frn_index ref k (some p ∷ ps) f h =
    ⊎_elim
    (λ (e, g).
    let z : index_as ref (some p ∷ ps) ≡ 0 = if_true (suc (index_as ref ps)) e refl in
    let y : k ≡ f = some_inj g in
    (omega arith, omega arith))
    (λ (e, g).
    let n = frn_index ref (k + 1) ps f g in
    let z : index_as ref (some p ∷ ps) ≡ suc (index_as ref ps) = if_false 0 e refl in
    (omega (arith, n.0), omega (arith, n.1)))
    (if_inv (eqb ref p.reference) (some k) (frn_as ref (k + 1) ps) h)

frn_few : (ref i : ℕ) → frn_in ref (category_at i) ≤ map_places
frn_few ref i = go (frn_as ref 1 (places (category_at i))) refl
  where
    go : (o : Option ℕ) → frn_as ref 1 (places (category_at i)) ≡ o → or_none o ≤ map_places
    go none e = omega arith
    go (some f) e = let n = frn_index ref 1 (places (category_at i)) f e in omega (arith, n.0, n.1, places_few i)

pub type_few : (i : ℕ) → type_frn i ≤ map_places
unfolding type_frn
type_few i = frn_few 0 i

pub time_few : (i : ℕ) → time_frn i ≤ map_places
time_few i = frn_few (category_at i).time i

-- an FRN that a set has is none that is missing
pub frn_some : (f bits : ℕ) → bits < 2 ^ 63 → bits / 2 ^ (63 - f) % 2 ≡ 1 → 1 ≤ f
frn_some zero bits h z = let e : bits / 2 ^ 63 ≡ 0 = div-eq_of_lt h in absurd (omega (arith, ap (λ n. n % 2) (sym e) ∙ z))
frn_some (suc f) bits h z = omega arith

pub frn_missing : (bits : ℕ) → bits < 2 ^ 63 → is_in 0 bits ≡ false
frn_missing bits h = ne_eqb (bits / 2 ^ 63 % 2) 1 λ z. absurd (omega (arith, frn_some 0 bits h z))

-- ---- the untimed message type, by the table of profiles

module _ (i : ℕ) {n : ℕ} (e : n ≡ (profile_row_at i).untimed) where
  pub untimed_told : (k : ℕ) → eqb (k + 1) n ≡ is_untimed i k
  untimed_told k = let s : k + 1 ≡ suc k = omega arith in ap₂ eqb s e ∙ sym (row_untimed i k)

  pub untimed_never : (k : ℕ) → n ≡ 0 → false ≡ is_untimed i k
  untimed_never k z = sym (ne_eqb (k + 1) n (λ y. absurd (omega (arith, y)))) ∙ untimed_told k

  -- where there is one, there is a message type item
  pub type_some : (n ≡ 0 → ⊥) → 1 ≤ type_frn i
  unfolding type_frn
  type_some = go n refl
    where
      go : (m : ℕ) → n ≡ m → (m ≡ 0 → ⊥) → 1 ≤ frn_in 0 (category_at i)
      go zero y z = absurd (z refl)
      go (suc k) y z =
          let s : k + 1 ≡ n = omega (arith, y) in
          by (category_at i).untimed (sym (untimed_told k) ∙ eq-eqb (k + 1) n s) (type_there i)
        where
          by : (ts : List ℕ) → has k ts ≡ true → typed_with ts (frn_in 0 (category_at i)) ≡ true → 1 ≤ frn_in 0 (category_at i)
          by [] h t = absurd (false≢true h)
          by (u ∷ ts) h t = ltb-true 0 _ t

-- ---- the category that a CAT names

pub category_named : (cat : ℕ) (c : Category) → category_of cat categories ≡ some c → category_at (profile_in cat categories) ≡ c
unfolding category_at
category_named cat c e =
    ⊎_elim
    (λ (h : length categories ≤ profile_in cat categories). none_some (sym (category_missed cat categories h) ∙ e))
    (λ h. some_inj (sym (category_found cat categories h) ∙ e))
    (le_or_lt (length categories) (profile_in cat categories))
