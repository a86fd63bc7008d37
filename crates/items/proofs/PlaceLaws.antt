-- The item that a profile has at an FRN, by the row of its place: whether there is one, its reference, and the search for a reference.
--
-- In order: the item of a place's row; the search for a reference; the search and the rules' own. Assumes nothing.
use Prim.Native.Nat.{ℕ, zero, suc, ◌+◌, ◌-◌, ◌≤◌, ◌<◌}
use mathlib.Core.Path.{◌≡◌, refl, sym, ap, ◌∙◌}
use mathlib.Core.Bool.{Bool, true, false, not, false≢true}
use mathlib.Core.Logic.{⊎_elim}
use mathlib.Core.Option.{Option, none, some}
use mathlib.Core.List.{List, [], ◌∷◌}
use native.Mathlib.Omega.{arith}
use native.Mathlib.Nat.{not-suc-le-zero}
use lib.Dec.{eqb, lit≤}
use lib.ListN.{length, get_or, drop, drop_of_length-le}
use borrow.Author.Tests.{ne_eqb}
use Rattle.std.specs.Prelude.{Some}
use Rattle.rules.specs.Answer.{when◌then◌else◌}
use Rattle.rules.specs.Chain.{flatten}
use Rattle.rules.specs.Layout.{Layout}
use Rattle.rules.proofs.AnswerLaws.{if_inv, if_true, if_false, some_inj, none_some}
use Rattle.rules.specs.Presence.{present, place_at}
use Rattle.rules.specs.Record.{Place}
use Rattle.rules.specs.Catalogue.{categories}
use Rattle.rules.specs.Entry.{profile_at, layout_as, is_item}
use Rattle.tables.specs.declared.tables.PlaceRow.{PlaceRow}
use Rattle.tables.specs.Tables.{layout_count, frn_count, layout_is, layout_at, with, place_is}
use Rattle.tables.proofs.TableLaws.{profile_few, layout_none, layout_some}
use Rattle.tables.specs.Places.{is_named, frn_as}
use Rattle.items.specs.Answers.{reference_in}

-- ---- the item of a place's row

present_layout : (j : ℕ) → j < layout_count → present (layout_is (layout_at j)) ≡ not (eqb j 0)
present_layout zero h = ap present layout_none
present_layout (suc j) h = layout_some j h ∙ ap not (sym (ne_eqb (suc j) 0 (λ e. absurd (omega arith))))

reference_with : (n : ℕ) (x : Option Layout) → present x ≡ true → Some n ≡ reference_in (with n x)
reference_with n none e = absurd (false≢true e)
reference_with n (some l) e = refl

pub place_reference : (r : PlaceRow) → 0 < r.layout → r.layout < layout_count → Some r.reference ≡ reference_in (place_is r)
unfolding place_is
place_reference r k h = reference_with r.reference (layout_is (layout_at r.layout)) (present_layout r.layout h ∙ ap not (ne_eqb r.layout 0 (λ e. absurd (omega arith))))

-- a place without a layout has no item
pub no_item : (r : PlaceRow) → r.layout ≡ 0 → place_is r ≡ none
unfolding place_is
no_item r e = rw (e, layout_none)

-- ---- the search for a reference

frn_step : (ref k : ℕ) (ps : List (Option Place)) (j : ℕ)
    → frn_as ref k (drop j ps) ≡ (when is_named ref (get_or ps j none) then some k else frn_as ref (k + 1) (drop (suc j) ps))
unfolding frn_as when◌then◌else◌
frn_step ref k [] zero = refl
frn_step ref k [] (suc j) = refl
frn_step ref k (p ∷ ps) zero = refl
frn_step ref k (p ∷ ps) (suc j) = frn_step ref k ps j

-- the search from FRN f on says what the whole search says
pub record Seeking (ref p f : ℕ) : Type 0 where
  pub some : 1 ≤ f
  pub few : f ≤ frn_count
  pub same : frn_as ref f (drop (f - 1) (flatten (profile_at categories p))) ≡ frn_as ref 1 (flatten (profile_at categories p))

pub seek_first : (ref p : ℕ) → Seeking ref p 1
seek_first ref p = record { some = lit≤ tt; few = lit≤ tt; same = refl }

seek_at_lem : (ref p f : ℕ) → Seeking ref p f
    → frn_as ref 1 (flatten (profile_at categories p)) ≡ (when is_named ref (place_at (profile_at categories p) f) then some f else frn_as ref (f + 1) (drop (f + 1 - 1) (flatten (profile_at categories p))))
seek_at_lem ref p zero s = absurd (not-suc-le-zero s.some)
seek_at_lem ref p (suc j) s =
    let e : suc j - 1 ≡ j = omega arith in
    let d : suc j + 1 - 1 ≡ suc j = omega arith in
    sym s.same ∙ rw (e, d) (frn_step ref (suc j) (flatten (profile_at categories p)) j)

pub seek_found : (ref p f : ℕ) → Seeking ref p f → is_named ref (place_at (profile_at categories p) f) ≡ true → some f ≡ frn_as ref 1 (flatten (profile_at categories p))
unfolding when◌then◌else◌
seek_found ref p f s e = sym (seek_at_lem ref p f s ∙ rw e)

pub seek_next : (ref p f : ℕ) → Seeking ref p f → f < frn_count → is_named ref (place_at (profile_at categories p) f) ≡ false → Seeking ref p (f + 1)
unfolding when◌then◌else◌
seek_next ref p f s h e = record { some = omega arith; few = omega arith; same = sym (seek_at_lem ref p f s ∙ rw e) }

pub seek_end : (ref p f : ℕ) → Seeking ref p f → frn_count ≤ f → none ≡ frn_as ref 1 (flatten (profile_at categories p))
unfolding frn_as
seek_end ref p f s h =
    let k : length (flatten (profile_at categories p)) ≤ f - 1 = omega (arith, profile_few p) in
    sym (ap (frn_as ref f) (drop_of_length-le (flatten (profile_at categories p)) k)) ∙ s.same

-- ---- the search and the rules' own

-- the place that the search found
pub record Found (ref k f : ℕ) (ps : List (Option Place)) : Type 0 where
  pub place : Place
  pub from : k ≤ f
  pub here : get_or ps (f - k) none ≡ some place
  pub layout : layout_as ref ps ≡ some place.layout
  pub item : is_item ref ps ≡ true

-- no place was found
pub record Missed (ref : ℕ) (ps : List (Option Place)) : Type 0 where
  pub layout : layout_as ref ps ≡ none
  pub item : is_item ref ps ≡ false

found_later : (ref k f : ℕ) (p : Option Place) (ps : List (Option Place)) → is_named ref p ≡ false → Found ref (k + 1) f ps → Found ref k f (p ∷ ps)
found_later ref k f p ps e d =
    let h : k + 1 ≤ f = d.from in
    let j : f - k ≡ suc (f - (k + 1)) = omega arith in
    record { place = d.place; from = omega arith; here = rw j d.here; layout = past p e d.layout; item = over_item p e d.item }
  where
    past : {x : Option Layout} (p : Option Place) → is_named ref p ≡ false → layout_as ref ps ≡ x → layout_as ref (p ∷ ps) ≡ x
    past none e h = h
    past (some q) e h = if_false (some q.layout) e h

    over_item : {x : Bool} (p : Option Place) → is_named ref p ≡ false → is_item ref ps ≡ x → is_item ref (p ∷ ps) ≡ x
    over_item none e h = h
    over_item (some q) e h = if_false true e h

pub found : (ref k f : ℕ) (ps : List (Option Place)) → frn_as ref k ps ≡ some f → Found ref k f ps
unfolding frn_as
found ref k f [] e = none_some e
found ref k f (none ∷ ps) e =
    ⊎_elim (λ (a, b). absurd (false≢true a)) (λ (a, b). found_later ref k f none ps refl (found ref (k + 1) f ps b)) (if_inv false (some k) (frn_as ref (k + 1) ps) e)
found ref k f (some p ∷ ps) e =
    ⊎_elim
    (λ (a, b).
    let h : k ≡ f = some_inj b in
    let j : f - k ≡ 0 = omega arith in
    record { place = p; from = omega arith; here = rw j; layout = if_true (layout_as ref ps) a refl; item = if_true (is_item ref ps) a refl })
    (λ (a, b). found_later ref k f (some p) ps a (found ref (k + 1) f ps b))
    (if_inv (eqb ref p.reference) (some k) (frn_as ref (k + 1) ps) e)

pub missed : (ref k : ℕ) (ps : List (Option Place)) → frn_as ref k ps ≡ none → Missed ref ps
unfolding frn_as
missed ref k [] e = record { layout = refl; item = refl }
missed ref k (none ∷ ps) e =
    ⊎_elim (λ (a, b). absurd (false≢true a)) (λ (a, b). let m = missed ref (k + 1) ps b in record { layout = m.layout; item = m.item }) (if_inv false (some k) (frn_as ref (k + 1) ps) e)
missed ref k (some p ∷ ps) e =
    ⊎_elim (λ (a, b). none_some (sym b))
    (λ (a, b). let m = missed ref (k + 1) ps b in record { layout = if_false (some p.layout) a m.layout; item = if_false true a m.item })
    (if_inv (eqb ref p.reference) (some k) (frn_as ref (k + 1) ps) e)

-- of a whole profile: the place is the one at the FRN
pub found_place : (ref f : ℕ) (pss : List (List (Option Place))) (d : Found ref 1 f (flatten pss)) → place_at pss f ≡ some d.place
found_place ref zero pss d = absurd (not-suc-le-zero d.from)
found_place ref (suc f) pss d = let e : suc f - 1 ≡ f = omega arith in rw e at d.here
