-- One item read alone: which layout a category and a reference name, and what is answered of the octets lent.
--
-- In order: the index of a category; the layout by the tables; an item that is all of the octets. Assumes nothing.
use Prim.Native.Nat.{ℕ, zero, suc, ◌+◌, ◌-◌, ◌<◌, ◌≤◌}
use mathlib.Core.Path.{◌≡◌, refl, sym, ap, ◌∙◌, subst}
use mathlib.Core.Bool.{Bool, true, false}
use mathlib.Core.Option.{Option, none, some}
use mathlib.Core.List.{List, [], ◌∷◌}
use native.Mathlib.Omega.{arith}
use native.Mathlib.Nat.{add-zero}
use lib.Dec.{eqb, leb}
use lib.IntN.{ℤ}
use Rattle.std.specs.Prelude.{Some, None}
use lib.ListN.{length, length-append}
use borrow.Author.Tests.{ne_eqb, le-leb, lt-leb}
use Rattle.rules.specs.Answer.{Answer, ok, refused, ◌>>=◌, need◌or◌then◌, when◌then◌else◌, expect◌or◌, later}
use Rattle.rules.specs.Chain.{flatten}
use Rattle.rules.specs.Layout.{Layout, Values, read_item, write_item}
use Rattle.rules.specs.FieldList.{field_list, read_fields}
use Rattle.rules.specs.Presence.{place_at}
use Rattle.rules.specs.Record.{Place, Category, places}
use Rattle.rules.specs.Block.{category_of}
use Rattle.rules.specs.Catalogue.{categories}
use Rattle.rules.specs.Entry.{profile_at, layout_as, layout_of, read_one, leaves}
use Rattle.rules.proofs.AnswerLaws.{Octets, Split, none_some, bind_in, bind_out, bind_assoc}
use Rattle.rules.proofs.LayoutLaws.{item_laws}
use Rattle.tables.specs.declared.tables.LayoutRow.{LayoutRow}
use Rattle.tables.specs.declared.tables.PlaceRow.{PlaceRow}
use Rattle.tables.specs.Tables.{layout_count, layout_is, layout_at, with, place_is}
use Rattle.tables.specs.Places.{frn_as}
use Rattle.tables.specs.Profiles.{profile_in}
use Rattle.layouts.proofs.SoundLaws.{layout_sound}
use Rattle.layouts.proofs.Stores.{sets_over}
use Rattle.compounds.specs.Compound.{Told, item_read, shaped, KeptAll}
use Rattle.compounds.proofs.ItemLaws.{told_of, item_told, no_row, row_item}
use Rattle.compounds.proofs.SizeLaws.{ReadTo, shape_read, shape_refused}
use Rattle.items.specs.Answers.{place_row, row_found, row_named, count_of}
use Rattle.items.proofs.PlaceLaws.{Found, found, found_place, missed}

-- ---- the index of a category

-- the places of the category are those at its index
profile_layout : (n ref : ℕ) (cs : List Category)
    → ((expect category_of n cs or 21) >>= (λ c. expect layout_as ref (places c) or 21)) ≡ (expect layout_as ref (flatten (profile_at cs (profile_in n cs))) or 21)
unfolding category_of profile_in expect◌or◌ when◌then◌else◌ ◌>>=◌
profile_layout n ref [] = refl
profile_layout n ref (c ∷ cs) = go (eqb n c.cat) (profile_layout n ref cs)
  where
    go : (t : Bool) → ((expect category_of n cs or 21) >>= (λ c. expect layout_as ref (places c) or 21)) ≡ (expect layout_as ref (flatten (profile_at cs (profile_in n cs))) or 21)
        → ((expect (when t then some c else category_of n cs) or 21) >>= (λ c. expect layout_as ref (places c) or 21))
        ≡ (expect layout_as ref (flatten (profile_at (c ∷ cs) (when t then 0 else suc (profile_in n cs)))) or 21)
    go true h = refl
    go false h = h

-- ---- the layout by the tables

with_some : (n : ℕ) (x : Option Layout) (p : Place) → with n x ≡ some p → x ≡ some p.layout
with_some n none p e = none_some e
with_some n (some l) p e = ap (λ o. layout_in o l) e
  where
    layout_in : Option Place → Layout → Option Layout
    layout_in none m = some m
    layout_in (some q) m = some q.layout

module _ (cat ref p : ℕ) (ep : p ≡ profile_in cat categories) where
  by_profile : layout_of categories cat ref ≡ (expect layout_as ref (flatten (profile_at categories p)) or 21)
  unfolding layout_of
  by_profile = rw ep (profile_layout cat ref categories)

  pub layout_found : (f : ℕ) (r : PlaceRow) → some f ≡ frn_as ref 1 (flatten (profile_at categories p)) → place_is r ≡ place_at (profile_at categories p) f
      → (expect layout_is (layout_at r.layout) or 21) ≡ layout_of categories cat ref
  unfolding place_is expect◌or◌
  layout_found f r e h =
      let d : Found ref 1 f (flatten (profile_at categories p)) = found ref 1 f (flatten (profile_at categories p)) (sym e) in
      let l : layout_is (layout_at r.layout) ≡ some d.place.layout = with_some r.reference (layout_is (layout_at r.layout)) d.place (h ∙ found_place ref f (profile_at categories p) d) in
      rw l (sym (by_profile ∙ rw d.layout))

  pub layout_missed : none ≡ frn_as ref 1 (flatten (profile_at categories p)) → refused 21 0 ≡ layout_of categories cat ref
  unfolding expect◌or◌
  layout_missed e = sym (by_profile ∙ rw (missed ref 1 (flatten (profile_at categories p)) (sym e)).layout)

  -- the row that they name
  pub row_found_lem : (f : ℕ) (r : PlaceRow) → some f ≡ frn_as ref 1 (flatten (profile_at categories p)) → r ≡ place_row p f → Some r.layout ≡ row_named cat ref
  row_found_lem f r e h = ap (λ (x : PlaceRow). Some x.layout) h ∙ ap (row_found p) e ∙ ap (λ q. row_found q (frn_as ref 1 (flatten (profile_at categories q)))) ep

  pub row_missed : none ≡ frn_as ref 1 (flatten (profile_at categories p)) → None ≡ row_named cat ref
  row_missed e = ap (row_found p) e ∙ ap (λ q. row_found q (frn_as ref 1 (flatten (profile_at categories q)))) ep

  -- what was found is there
  pub place_found : {A : Type 0} (f : ℕ) → some f ≡ frn_as ref 1 (flatten (profile_at categories p)) → none ≡ place_at (profile_at categories p) f → A
  place_found f e h =
      let d : Found ref 1 f (flatten (profile_at categories p)) = found ref 1 f (flatten (profile_at categories p)) (sym e) in
      none_some (h ∙ found_place ref f (profile_at categories p) d)

-- ---- an item that is all of the octets

-- what is answered of an item whose fields are legal
abbrev only_item : List ℕ → Told → Answer (List ℤ)
only_item bs x = later x.1 (need leb (length bs) x.1 or 18 then ok x.0)

none_left : (k n : ℕ) → k ≤ n → eqb k 0 ≡ leb n (n - k)
none_left zero n h = sym (le-leb n (n - 0) (omega arith))
none_left (suc k) n h = ne_eqb (suc k) 0 (λ e. absurd (omega arith)) ∙ sym (lt-leb n (n - suc k) (omega arith))

read_all : (i : Layout) (bs : List ℕ) → Octets bs
    → (read_fields i bs >>= (λ x. later (length bs - length x.1) (need eqb (length x.1) 0 or 18 then ok x.0))) ≡ ((read_item i bs >>= told_of (field_list i) bs) >>= only_item bs)
unfolding read_fields
read_all i bs o = bind_assoc (read_item i bs) _ _ ∙ go (read_item i bs) refl ∙ sym (bind_assoc (read_item i bs) _ _)
  where
    go : (m : Answer (Values × List ℕ)) → read_item i bs ≡ m
        → (m >>= (λ y. ◌>>=◌ {A = List ℤ × List ℕ} (ok (field_list i y.0, y.1)) (λ x. later (length bs - length x.1) (need eqb (length x.1) 0 or 18 then ok x.0))))
        ≡ (m >>= (λ y. told_of (field_list i) bs y >>= only_item bs))
    go (ok y) e =
        unfold ◌>>=◌ in
        (let s : Split (write_item i) y.0 bs y.1 = (item_laws i).forth y.0 bs y.1 o e in
        let n : length bs ≡ length s.out + length y.1 = ap length s.joins ∙ length-append s.out y.1 in
        ap (λ t. later (length bs - length y.1) (need t or 18 then ok (field_list i y.0))) (none_left (length y.1) (length bs) (omega arith)))
    go (refused n p) e = unfold ◌>>=◌ in refl

-- ONE ITEM by the row of its layout
one_is : (cat ref j : ℕ) (bs : List ℕ) → (expect layout_is (layout_at j) or 21) ≡ layout_of categories cat ref → j < layout_count → Octets bs
    → read_one categories cat ref bs ≡ (item_read (layout_at j) bs >>= only_item bs)
unfolding read_one expect◌or◌
one_is cat ref j bs h k o = go (layout_is (layout_at j)) refl
  where
    go : (x : Option Layout) → layout_is (layout_at j) ≡ x → read_one categories cat ref bs ≡ (item_read (layout_at j) bs >>= only_item bs)
    go none e = bind_out _ (rw (← h, e)) ∙ sym (bind_out _ (no_row (layout_at j) bs e))
    go (some i) e = bind_in _ (rw (← h, e)) refl ∙ read_all i bs o ∙ ap (λ m. m >>= only_item bs) (item_told (layout_at j) i bs (layout_sound j k) (row_item j k) e o)

-- the answers, and what the output then holds
pub record Answered (cat ref : ℕ) (bs : List ℕ) (m : Answer ℕ) (old new : List ℤ) : Type 0 where
  pub answer : m ≡ count_of (read_one categories cat ref bs)
  pub left : new ≡ leaves (read_one categories cat ref bs) old

pub one_none : (cat ref : ℕ) (bs : List ℕ) (old : List ℤ) → refused 21 0 ≡ layout_of categories cat ref → Answered cat ref bs (refused 21 0) old old
unfolding read_one count_of ◌>>=◌
one_none cat ref bs old h = record { answer = rw (← h); left = rw (← h) }

module _ (cat ref j : ℕ) (bs : List ℕ) (h : (expect layout_is (layout_at j) or 21) ≡ layout_of categories cat ref) (k : j < layout_count) (o : Octets bs) (old : List ℤ) {l : LayoutRow} (el : l ≡ layout_at j) where
  refused_with : (n p : ℕ) → read_one categories cat ref bs ≡ refused n p → Answered cat ref bs (refused n p) old old
  unfolding count_of ◌>>=◌
  refused_with n p q = record { answer = rw q; left = rw q }

  one_at : read_one categories cat ref bs ≡ (item_read l bs >>= only_item bs)
  one_at = rw el (one_is cat ref j bs h k o)

  pub one_refused : (n p : ℕ) → refused n p ≡ shaped l bs → Answered cat ref bs (refused n p) old old
  one_refused n p e = refused_with n p (one_at ∙ bind_out _ (shape_refused l bs n p e))

  module _ (c long : ℕ) (e : ok (c, long) ≡ shaped l bs) where
    read_to : ReadTo l bs long
    read_to = shape_read l bs c long e

    here : read_one categories cat ref bs ≡ later long (need leb (length bs) long or 18 then ok read_to.told.0)
    here = one_at ∙ bind_in _ read_to.is_read (ap (λ n. later n (need leb (length bs) n or 18 then ok read_to.told.0)) read_to.octets)

    pub one_longer : long < length bs → Answered cat ref bs (refused 18 long) old old
    unfolding later need◌or◌then◌
    one_longer g = refused_with 18 long (here ∙ rw (lt-leb (length bs) long g, add-zero long))

    pub one_whole : length bs ≤ long → (n : ℕ) (new : List ℤ) → KeptAll (item_read l bs) n old new → Answered cat ref bs (ok n) old new
    unfolding count_of later need◌or◌then◌ ◌>>=◌
    one_whole g n new kept =
        let q : read_one categories cat ref bs ≡ ok read_to.told.0 = here ∙ rw (le-leb (length bs) long g) in
        let w : KeptAll (ok read_to.told) n old new = subst (λ m. KeptAll m n old new) read_to.is_read kept in
        record {
          answer = rw q (ap ok w.0);
          left = rw q (w.1 ∙ sets_over read_to.told.0 old);
        }
