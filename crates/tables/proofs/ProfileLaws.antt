-- The table of profiles: the row at an index is that of the category with that index; and the index of a category, by its CAT.
--
-- In order: the category with an index; the rows; the search for a CAT; the category that is found. Assumes nothing.
use Prim.Native.Nat.compare
use Prim.Native.Nat.{ℕ, zero, suc, ◌+◌, ◌≤◌, ◌<◌}
use mathlib.Core.Path.{◌≡◌, refl, sym, ap, ◌∙◌, subst}
use mathlib.Core.Bool.{Bool, true, false, ◌&&◌, ◌||◌, false≢true}
use mathlib.Core.Option.{none, some}
use mathlib.Core.List.{List, [], ◌∷◌, map}
use native.Mathlib.Omega.{arith}
use lib.Dec.{eqb, ltb, eqb→eq}
use borrow.Author.Tests.{eq-eqb, ne_eqb, ltb-true, ltb-false}
use lib.ListN.{length, get_or, drop, length-map, get_or-eq_default}
use lib.Seq.{drop-length}
use Rattle.rules.specs.Answer.{when◌then◌else◌}
use Rattle.rules.specs.Record.{Category}
use Rattle.rules.specs.Block.{category_of}
use Rattle.rules.specs.Presence.{number, has}
use Rattle.rules.specs.Catalogue.{categories}
use Rattle.rules.specs.Entry.{profile_at}
use Rattle.rules.proofs.AnswerLaws.{both_left, both_right, if_true, if_false, none_some, T_true}
use Rattle.rules.proofs.Tables.{every_category}
use Rattle.tables.specs.Tables.{profile_count}
use Rattle.tables.specs.Places.{frn_as}
use Rattle.tables.specs.Profiles.{category_in, category_at, profile_in, bits_of, octets_in, usable_in, frn_in, untimed_as, row_of, no_row, profile_row_at}

-- ---- the category with an index

category_all : (t : Category → Bool) (cs : List Category) → every_category t cs ≡ true → t (category_in [] 0) ≡ true → (i : ℕ) → t (category_in cs i) ≡ true
category_all t [] h z i = z
category_all t (c ∷ cs) h z zero = both_left (t c) (every_category t cs) h
category_all t (c ∷ cs) h z (suc i) = category_all t cs (both_right (t c) (every_category t cs) h) z i

-- a test of every category
pub category_test : (t : Category → Bool) → every_category t categories ≡ true → t (category_in [] 0) ≡ true → (i : ℕ) → t (category_at i) ≡ true
unfolding category_at
category_test t h z i = category_all t categories h z i

profile_in_lem : (cs : List Category) (i : ℕ) → (category_in cs i).profile ≡ profile_at cs i
profile_in_lem [] i = refl
profile_in_lem (c ∷ cs) zero = refl
profile_in_lem (c ∷ cs) (suc i) = profile_in_lem cs i

pub profile_at_lem : (i : ℕ) → (category_at i).profile ≡ profile_at categories i
unfolding category_at
profile_at_lem i = profile_in_lem categories i

-- an index past the last has none
category_past : (cs : List Category) (i : ℕ) → length cs ≤ i → category_in cs i ≡ category_in [] 0
category_past [] i h = refl
category_past (c ∷ cs) zero h = absurd (omega arith)
category_past (c ∷ cs) (suc i) h = category_past cs i (omega arith)

pub category_none : (i : ℕ) → profile_count ≤ i → category_at i ≡ category_in [] 0
unfolding category_at categories
category_none i h = category_past categories i h

-- ---- the rows

row_in : (cs : List Category) (i : ℕ) → get_or (map row_of cs) i (row_of (category_in [] 0)) ≡ row_of (category_in cs i)
row_in [] i = refl
row_in (c ∷ cs) zero = refl
row_in (c ∷ cs) (suc i) = row_in cs i

-- no category's row is empty
row_empty : row_of (category_in [] 0) ≡ no_row
unfolding bits_of number frn_as
row_empty = refl

-- what the table has at any index
pub row_is : (i : ℕ) → profile_row_at i ≡ row_of (category_at i)
unfolding profile_row_at category_at
row_is i = ap (get_or (map row_of categories) i) (sym row_empty) ∙ row_in categories i

pub row_octets_lem : (i : ℕ) → (profile_row_at i).octets ≡ octets_in (category_at i)
row_octets_lem i = ap (λ r. r.octets) (row_is i)

pub row_usable : (i : ℕ) → (profile_row_at i).usable ≡ usable_in (category_at i)
row_usable i = ap (λ r. r.usable) (row_is i)

pub row_kind : (i : ℕ) → (profile_row_at i).kind ≡ frn_in 0 (category_at i)
row_kind i = ap (λ r. r.kind) (row_is i)

pub row_time : (i : ℕ) → (profile_row_at i).time ≡ frn_in (category_at i).time (category_at i)
row_time i = ap (λ r. r.time) (row_is i)

-- at most one message type of a category is untimed
abbrev few_untimed : List ℕ → Bool
few_untimed [] = true
few_untimed (t ∷ []) = true
few_untimed (t ∷ (u ∷ ts)) = false

untimed_one : (ts : List ℕ) (k : ℕ) → few_untimed ts ≡ true → has k ts ≡ eqb (suc k) (untimed_as ts)
untimed_one [] k h = sym (ne_eqb (suc k) 0 λ e. absurd (omega (arith, e)))
untimed_one (t ∷ []) k h = rw (compare.suc-suc k t) (or_false (eqb k t))
  where
    or_false : (b : Bool) → b || false ≡ b
    or_false true = refl
    or_false false = refl
untimed_one (t ∷ (u ∷ ts)) k h = absurd (false≢true h)

tables_untimed : every_category (λ c. few_untimed c.untimed) categories ≡ true
unfolding categories
tables_untimed = refl

pub row_untimed : (i k : ℕ) → has k (category_at i).untimed ≡ eqb (suc k) (profile_row_at i).untimed
row_untimed i k =
    untimed_one (category_at i).untimed k (category_test (λ c. few_untimed c.untimed) tables_untimed refl i)
    ∙ ap (λ r. eqb (suc k) r.untimed) (sym (row_is i))

-- an index past the last
pub row_past : (i : ℕ) → length categories ≤ i → no_row ≡ profile_row_at i
unfolding profile_row_at
row_past i h = sym (get_or-eq_default (map row_of categories) no_row (rw (length-map categories row_of) h))

-- its CAT
pub row_cat : (i : ℕ) → (profile_row_at i).cat ≡ get_or (map (λ c. c.cat) categories) i 0
unfolding profile_row_at
row_cat i = go categories i
  where
    go : (cs : List Category) (i : ℕ) → (get_or (map row_of cs) i no_row).cat ≡ get_or (map (λ c. c.cat) cs) i 0
    go [] i = refl
    go (c ∷ cs) zero = refl
    go (c ∷ cs) (suc i) = go cs i

-- ---- the search for a CAT: from an index on it says what the whole search says

pub record Seeking (n : ℕ) (cs : List Category) (i : ℕ) : Type 0 where
  pub inside : i ≤ length cs
  pub same : profile_in n cs ≡ i + profile_in n (drop i cs)

seek_step : (n : ℕ) (cs : List Category) (i : ℕ) → i < length cs
    → profile_in n (drop i cs) ≡ (when eqb n (get_or (map (λ c. c.cat) cs) i 0) then 0 else suc (profile_in n (drop (suc i) cs)))
unfolding profile_in
seek_step n [] i h = absurd (omega arith)
seek_step n (c ∷ cs) zero h = refl
seek_step n (c ∷ cs) (suc i) h = seek_step n cs i (omega arith)

pub seek_first : (n : ℕ) (cs : List Category) → Seeking n cs 0
seek_first n cs = record { inside = omega arith; same = omega arith }

module _ {n : ℕ} {cs : List Category} {i : ℕ} (s : Seeking n cs i) where
  pub seek_found : i < length cs → get_or (map (λ c. c.cat) cs) i 0 ≡ n → i ≡ profile_in n cs
  seek_found h e =
      let z : profile_in n (drop i cs) ≡ 0 = seek_step n cs i h ∙ if_true _ (eq-eqb _ _ (sym e)) refl in
      omega (arith, s.same)

  pub seek_next : i < length cs → ¬ (get_or (map (λ c. c.cat) cs) i 0 ≡ n) → Seeking n cs (i + 1)
  seek_next h e =
      let z : profile_in n (drop i cs) ≡ suc (profile_in n (drop (suc i) cs)) = seek_step n cs i h ∙ if_false _ (ne_eqb _ _ (λ p. e (sym p))) refl in
      let k : suc i ≡ i + 1 = omega arith in
      subst (Seeking n cs) k (record { inside = omega arith; same = omega (arith, s.same) })

  pub seek_end : length cs ≤ i → length cs ≡ profile_in n cs
  unfolding profile_in
  seek_end h =
      let e : i ≡ length cs = omega (arith, s.inside) in
      let z : profile_in n (drop i cs) ≡ 0 = ap (λ k. profile_in n (drop k cs)) e ∙ ap (profile_in n) (drop-length cs) in
      omega (arith, s.same, s.inside)

-- ---- the category that is found

pub category_found : (n : ℕ) (cs : List Category) → profile_in n cs < length cs → category_of n cs ≡ some (category_in cs (profile_in n cs))
unfolding category_of profile_in when◌then◌else◌
category_found n [] h = absurd (omega arith)
category_found n (c ∷ cs) h = go (eqb n c.cat) (category_found n cs) h
  where
    go : (t : Bool) → (profile_in n cs < length cs → category_of n cs ≡ some (category_in cs (profile_in n cs))) → (when t then 0 else suc (profile_in n cs)) < suc (length cs)
        → (when t then some c else category_of n cs) ≡ some (category_in (c ∷ cs) (when t then 0 else suc (profile_in n cs)))
    go true f k = refl
    go false f k = f (omega arith)

pub category_missed : (n : ℕ) (cs : List Category) → length cs ≤ profile_in n cs → category_of n cs ≡ none
unfolding category_of profile_in when◌then◌else◌
category_missed n [] h = refl
category_missed n (c ∷ cs) h = go (eqb n c.cat) (category_missed n cs) h
  where
    go : (t : Bool) → (length cs ≤ profile_in n cs → category_of n cs ≡ none) → suc (length cs) ≤ (when t then 0 else suc (profile_in n cs)) → (when t then some c else category_of n cs) ≡ none
    go true f k = absurd (omega arith)
    go false f k = f (omega arith)

-- the same by the index that `profile_of` answers
pub category_at_lem : (n i : ℕ) → i ≡ profile_in n categories → i < profile_count → category_of n categories ≡ some (category_at i)
unfolding category_at categories
category_at_lem n i e h = category_found n categories (rw (← e) h) ∙ ap (λ k. some (category_in categories k)) (sym e)

pub category_other : (n i : ℕ) → i ≡ profile_in n categories → profile_count ≤ i → category_of n categories ≡ none
unfolding categories
category_other n i e h = category_missed n categories (rw (← e) h)

-- a category's CAT has its own index, and no category has CAT 0, which an index past the last would have
abbrev indexed : List Category → ℕ → List Category → Bool
indexed cs i [] = true
indexed cs i (d ∷ ds) = eqb (profile_in d.cat cs) i && indexed cs (suc i) ds

index_in : (cs ds : List Category) (i j : ℕ) → indexed cs i ds ≡ true → j < length ds → profile_in (category_in ds j).cat cs ≡ i + j
index_in cs [] i j h k = absurd (omega arith)
index_in cs (d ∷ ds) i zero h k = let e : profile_in d.cat cs ≡ i = eqb→eq _ _ (T_true (both_left (eqb (profile_in d.cat cs) i) (indexed cs (suc i) ds) h)) in omega arith
index_in cs (d ∷ ds) i (suc j) h k =
    let e : profile_in (category_in ds j).cat cs ≡ suc i + j = index_in cs ds (suc i) j (both_right (eqb (profile_in d.cat cs) i) _ h) (omega arith) in
    omega arith

tables_indexed : indexed categories 0 categories ≡ true
unfolding categories profile_in when◌then◌else◌
tables_indexed = refl

tables_named : category_of 0 categories ≡ none
unfolding categories category_of when◌then◌else◌
tables_named = refl

pub index_is : (i : ℕ) → category_of (category_at i).cat categories ≡ some (category_at i) → profile_in (category_at i).cat categories ≡ i
unfolding category_at
index_is i e = go (ltb i (length categories)) refl
  where
    go : (t : Bool) → ltb i (length categories) ≡ t → profile_in (category_in categories i).cat categories ≡ i
    go true h = let k : profile_in (category_in categories i).cat categories ≡ 0 + i = index_in categories categories 0 i tables_indexed (ltb-true _ _ h) in omega arith
    go false h =
        let p : category_in categories i ≡ category_in [] 0 = category_past categories i (ltb-false _ _ h) in
        none_some (sym (ap (λ c. category_of c.cat categories) p ∙ tables_named) ∙ e)
