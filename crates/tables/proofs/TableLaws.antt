-- What holds of the tables, by computed tests over each whole table: the rows of groups and places stand for what the rules have there.
--
-- In order: a test of each row; places; fields; groups; rows as one number; layouts. Assumes nothing.
use Prim.Native.Nat.{ℕ, zero, suc, ◌+◌, ◌*◌, ◌/◌, ◌%◌, ◌≤◌, ◌<◌}
use mathlib.Core.Path.{◌≡◌, refl, sym, ap, ◌∙◌}
use mathlib.Core.Logic.{⊎_elim}
use mathlib.Core.Bool.{Bool, true, false, ◌&&◌}
use mathlib.Core.Option.{Option, none, some}
use mathlib.Core.List.{List, [], ◌∷◌, map}
use native.Mathlib.Omega.{arith}
use native.Mathlib.Nat.{le_of_suc-le-suc, not-suc-le-zero, le_trans}
use lib.Dec.{leb, ltb, eqb, lit≤}
use lib.IntN.{pos}
use lib.ListN.{length, get_or, drop, replicate, length-map, get_or-map, get_or-append, get_or-eq_default}
use lib.Seq.{slice, get_or-append-add}
use borrow.Author.Tests.{ltb-true, leb-true}
use mir.Syntax.{w64}
use mir.Val.{to_z, of_z}
use Rattle.rules.specs.Field.{Field}
use Rattle.rules.specs.Chain.{flatten}
use Rattle.rules.specs.Format.{Group}
use Rattle.rules.proofs.AnswerLaws.{both_left, both_right, below_or}
use Rattle.rules.proofs.EntryLaws.{length_over}
use Rattle.rules.specs.Presence.{present, usable, place_at}
use Rattle.rules.specs.Record.{Place, Category, places}
use Rattle.rules.specs.Catalogue.{categories}
use Rattle.rules.specs.Entry.{profile_at, over}
use Rattle.tables.specs.declared.tables.GroupRow.{GroupRow}
use Rattle.tables.specs.declared.tables.LayoutRow.{LayoutRow}
use Rattle.tables.specs.declared.tables.FieldRow.{FieldRow}
use Rattle.tables.proofs.KindLaws.{holds_by}
use Rattle.tables.specs.Tests.{all_below, within}
use Rattle.tables.specs.Tables.{kind_by, field_count, group_count, layout_count, profile_count, frn_count, range_count, fields, field_row, no_field_row, no_group_row, no_layout_row, field_at, ranges, range_rows, field_word, field_words, group_word, group_words, layout_word, layout_words, place_pair, place_pairs, is_free, groups, layouts, group_rows, group_at, layout_rows, format_by, format_is, layout_is, layout_at, primaries, primary_count, subfields_in, subfield_at, subfield_count, nowhere, profile_rows, place_row_at, place_is}

-- ---- what holds of each row of a table, by one test

abbrev pub every : {A : Type 0} → (A → Bool) → List A → Bool
every t [] = true
every t (a ∷ l) = t a && every t l

pub each : {A : Type 0} (t : A → Bool) (l : List A) (d : A) → every t l ≡ true → (i : ℕ) → i < length l → t (get_or l i d) ≡ true
each t [] d h i k = absurd (not-suc-le-zero k)
each t (a ∷ l) d h zero k = both_left (t a) (every t l) h
each t (a ∷ l) d h (suc i) k = each t l d (both_right (t a) (every t l) h) i (le_of_suc-le-suc k)

-- and of each number below another
pub all_below_lem : (n : ℕ) (p : ℕ → Bool) (j : ℕ) → all_below n p ≡ true → j < n → p j ≡ true
all_below_lem zero p j h l = absurd (not-suc-le-zero l)
all_below_lem (suc n) p j h l =
    ⊎_elim
    (λ m. all_below_lem n p j (both_right (p n) (all_below n p) h) m)
    (λ m. let e : j ≡ n = omega arith in ap p e ∙ both_left (p n) (all_below n p) h)
    (below_or j n)

-- bits that may be set, as flags within flags
pub usable_within : {P : Type 0} (ps : List (Option P)) (ts : List Bool) → length ts ≡ length ps → usable ps ts ≡ within ts (map present ps)
unfolding usable
usable_within [] [] h = refl
usable_within [] (t ∷ ts) h = absurd (omega arith)
usable_within (p ∷ ps) [] h = absurd (omega arith)
usable_within (none ∷ ps) (false ∷ ts) h = usable_within ps ts (omega arith)
usable_within (some p ∷ ps) (false ∷ ts) h = usable_within ps ts (omega arith)
usable_within (none ∷ ps) (true ∷ ts) h = refl
usable_within (some p ∷ ps) (true ∷ ts) h = usable_within ps ts (omega arith)

-- what holds of a whole table holds of each row
pub at_row : {A B : Type 0} (f g : A → B) (l : List A) (i : ℕ) (d : A) → f d ≡ g d → map f l ≡ map g l → f (get_or l i d) ≡ g (get_or l i d)
at_row f g l i d e h = sym (get_or-map f l i d) ∙ ap (λ m. get_or m i (f d)) h ∙ ap (get_or (map g l) i) e ∙ get_or-map g l i d

pub in_row : {A B : Type 0} (f g : A → B) (l : List A) (i : ℕ) (d : A) → i < length l → map f l ≡ map g l → f (get_or l i d) ≡ g (get_or l i d)
in_row f g [] i d k h = absurd (not-suc-le-zero k)
in_row f g (a ∷ l) zero d k h = ap (λ m. get_or m 0 (f a)) h
in_row f g (a ∷ l) (suc i) d k h = in_row f g l i d (le_of_suc-le-suc k) (ap (drop 1) h)

-- ---- places

-- the places of a profile as the table has them, FRN 0 first
abbrev padded : Category → List (Option Place)
padded c = over (none ∷ places c) (replicate frn_count none)

places_tied : map place_is (profile_rows 1 categories) ≡ flatten (map padded categories)
unfolding place_is layout_is format_is format_by layout_at subfield_at subfields_in group_at fields groups layouts categories
places_tied = refl

-- the table has room for every FRN of a category, 0 among them
abbrev fits : Category → Bool
fits c = ltb (length (places c)) frn_count

all_fit : every fits categories ≡ true
unfolding categories
all_fit = refl

padded_long : (c : Category) → length (padded c) ≡ frn_count
padded_long c = length_over (none ∷ places c) (replicate frn_count none)

get_d_over : {A : Type 0} (xs : List A) (n f : ℕ) (d : A) → length xs ≤ n → get_or (over xs (replicate n d)) f d ≡ get_or xs f d
get_d_over [] n f d h = all n f
  where
    all : (n f : ℕ) → get_or (replicate n d) f d ≡ d
    all zero f = refl
    all (suc n) zero = refl
    all (suc n) (suc f) = all n f
get_d_over (x ∷ xs) zero f d h = absurd (not-suc-le-zero h)
get_d_over (x ∷ xs) (suc n) zero d h = refl
get_d_over (x ∷ xs) (suc n) (suc f) d h = get_d_over xs n f d (le_of_suc-le-suc h)

-- FRN f of a profile's places
padded_at : (c : Category) (f : ℕ) → length (places c) < frn_count → get_or (padded c) f none ≡ place_at c.profile f
padded_at c zero h = get_d_over (none ∷ places c) frn_count zero none h
padded_at c (suc f) h = get_d_over (none ∷ places c) frn_count (suc f) none h

-- FRN f of the profile with an index, where the profiles stand end to end
place_in : (cs : List Category) (p f : ℕ) → every fits cs ≡ true → p < length cs → f < frn_count → get_or (flatten (map padded cs)) (p * frn_count + f) none ≡ place_at (profile_at cs p) f
place_in [] p f t h k = absurd (not-suc-le-zero h)
place_in (c ∷ cs) zero f t h k =
    let i : zero * frn_count + f ≡ f = omega arith in
    rw i (get_or-append (padded c) (flatten (map padded cs)) none f (rw (padded_long c) k) ∙ padded_at c f (ltb-true _ frn_count (both_left (fits c) (every fits cs) t)))
place_in (c ∷ cs) (suc p) f t h k =
    let i : suc p * frn_count + f ≡ length (padded c) + (p * frn_count + f) = omega (arith, padded_long c) in
    rw i (get_or-append-add (padded c) (flatten (map padded cs)) (p * frn_count + f) none ∙ place_in cs p f (both_right (fits c) (every fits cs) t) (le_of_suc-le-suc h) k)

pub place_none : place_is nowhere ≡ none
unfolding place_is layout_is format_is format_by layout_at
place_none = refl

place-get_or : (i : ℕ) → place_is (place_row_at i) ≡ get_or (flatten (map padded categories)) i none
unfolding place_row_at
place-get_or i = sym (get_or-map place_is (profile_rows 1 categories) i nowhere) ∙ ap (get_or (map place_is (profile_rows 1 categories)) i) place_none ∙ ap (λ l. get_or l i none) places_tied

pub profiles_long : length categories ≡ profile_count
unfolding categories
profiles_long = refl

-- the row at an FRN of a profile stands for what the profile has there
pub place_is_lem : (p f : ℕ) → p < profile_count → f < frn_count → place_is (place_row_at (p * frn_count + f)) ≡ place_at (profile_at categories p) f
place_is_lem p f h k = place-get_or (p * frn_count + f) ∙ place_in categories p f all_fit (rw profiles_long h) k

profile_fits : (cs : List Category) (p : ℕ) → every fits cs ≡ true → length (flatten (profile_at cs p)) < frn_count
profile_fits [] p t = lit≤ tt
profile_fits (c ∷ cs) zero t = ltb-true _ frn_count (both_left (fits c) (every fits cs) t)
profile_fits (c ∷ cs) (suc p) t = profile_fits cs p (both_right (fits c) (every fits cs) t)

pub profile_few : (p : ℕ) → length (flatten (profile_at categories p)) < frn_count
profile_few p = profile_fits categories p all_fit

-- there is nothing past the last FRN, nor in another profile
pub place_past : (p f : ℕ) → frn_count ≤ f → place_at (profile_at categories p) f ≡ none
place_past p zero h = absurd (not-suc-le-zero h)
place_past p (suc f) h = get_or-eq_default (flatten (profile_at categories p)) none (le_of_suc-le-suc (le_trans (profile_few p) h))

profile_none : (cs : List Category) (p : ℕ) → length cs ≤ p → profile_at cs p ≡ []
profile_none [] p h = refl
profile_none (c ∷ cs) zero h = absurd (not-suc-le-zero h)
profile_none (c ∷ cs) (suc p) h = profile_none cs p (le_of_suc-le-suc h)

pub profile_past : (p : ℕ) → profile_count ≤ p → profile_at categories p ≡ []
profile_past p h = profile_none categories p (rw profiles_long h)

pub none_past : (p f : ℕ) → frn_count ≤ f → place_is nowhere ≡ place_at (profile_at categories p) f
none_past p f h = place_none ∙ sym (place_past p f h)

pub none_other : (p f : ℕ) → profile_count ≤ p → place_is nowhere ≡ place_at (profile_at categories p) f
none_other p f h = place_none ∙ sym (ap (λ ps. place_at ps f) (profile_past p h) ∙ nothing f)
  where
    nothing : (f : ℕ) → ◌≡◌ {A = Option Place} (place_at [] f) none
    nothing zero = refl
    nothing (suc f) = refl

-- a row has a layout of the table
pub place_row_lem : (i : ℕ) → (place_row_at i).layout < layout_count
unfolding place_row_at layouts categories
place_row_lem i = ltb-true (place_row_at i).layout layout_count (at_row (λ r. ltb r.layout layout_count) (λ r. true) (profile_rows 1 categories) i nowhere refl refl)

-- ---- fields

pub fields_long : length (map field_row fields) ≡ field_count
fields_long = length-map fields field_row

pub field_wide : (i : ℕ) → i < field_count → 1 ≤ (field_at i).bits
unfolding field_at fields groups layouts categories
field_wide i h = leb-true 1 (field_at i).bits (each (λ f. leb 1 f.bits) (map field_row fields) no_field_row refl i h)

pub field_few : (i : ℕ) → i < field_count → (field_at i).bits ≤ 62
unfolding field_at fields groups layouts categories
field_few i h = leb-true (field_at i).bits 62 (each (λ f. leb f.bits 62) (map field_row fields) no_field_row refl i h)

-- ---- groups

abbrev pub fields_at : ℕ → List Field
fields_at g = slice (group_at g).first (group_at g).end fields

pub groups_long : length (group_rows 0 groups) ≡ group_count
groups_long = rows 0 groups
  where
    rows : (k : ℕ) (gs : List Group) → length (group_rows k gs) ≡ length gs
    rows k [] = refl
    rows k (g ∷ gs) = ap suc (rows (k + length g.fields) gs)

-- three digits are enough for the place of a group
pub groups_few : group_count ≤ 1_000
unfolding groups layouts categories
groups_few = lit≤ tt

-- a row says that its group is free where it is
pub group_free : (g : ℕ) → g < group_count → (group_at g).free ≡ is_free (slice (group_at g).first (group_at g).end fields)
unfolding group_at fields groups layouts categories
group_free g h =
    in_row (λ r. r.free) (λ r. is_free (slice r.first r.end fields)) (group_rows 0 groups) g no_group_row h refl

-- ---- rows as one number

pub get_or-map_in : {A B : Type 0} (f : A → B) (l : List A) (i : ℕ) (d : A) (e : B) → i < length l → get_or (map f l) i e ≡ f (get_or l i d)
get_or-map_in f [] i d e h = absurd (not-suc-le-zero h)
get_or-map_in f (a ∷ l) zero d e h = refl
get_or-map_in f (a ∷ l) (suc i) d e h = get_or-map_in f l i d e (le_of_suc-le-suc h)

-- what was put into digits is read from them
abbrev pub field_digits : ℕ → FieldRow
field_digits w = record { bits = w / 1_000; holds = holds_by (w / 100 % 10); least = (get_or range_rows (w % 100) (pos 0, pos 0)).0; greatest = (get_or range_rows (w % 100) (pos 0, pos 0)).1 }

abbrev pub group_digits : ℕ → GroupRow
group_digits w = record { octets = w / 100_000_000; first = w / 100_000 % 1_000; end = w / 100_000 % 1_000 + w / 1_000 % 100; values = w / 10 % 100; free = eqb (w % 10) 1 }

abbrev pub layout_digits : ℕ → LayoutRow
layout_digits w = record { kind = kind_by (w / 100_000_000); least = w / 10_000_000 % 10; most = w / 10_000 % 1_000; first = w / 10 % 1_000; end = w / 10 % 1_000 + w % 10 }

pub field_digits_lem : (i : ℕ) → i < field_count → field_digits (get_or field_words i 0) ≡ field_at i
unfolding field_words field_at range_rows ranges fields groups layouts categories
field_digits_lem i h =
    ap field_digits (get_or-map_in field_word (map field_row fields) i no_field_row 0 h)
    ∙ in_row (λ r. field_digits (field_word r)) (λ r. r) (map field_row fields) i no_field_row h refl

-- each bound of a range is itself as a word
pub least_word : (i : ℕ) → to_z w64 (of_z w64 (get_or range_rows i (pos 0, pos 0)).0) ≡ (get_or range_rows i (pos 0, pos 0)).0
unfolding range_rows ranges fields groups layouts categories
least_word i = at_row (λ r. to_z w64 (of_z w64 r.0)) (λ r. r.0) range_rows i (pos 0, pos 0) refl refl

pub greatest_word : (i : ℕ) → to_z w64 (of_z w64 (get_or range_rows i (pos 0, pos 0)).1) ≡ (get_or range_rows i (pos 0, pos 0)).1
unfolding range_rows ranges fields groups layouts categories
greatest_word i = at_row (λ r. to_z w64 (of_z w64 r.1)) (λ r. r.1) range_rows i (pos 0, pos 0) refl refl

pub field_range : (i : ℕ) → i < field_count → get_or field_words i 0 % 100 < range_count
unfolding field_words ranges fields groups layouts categories
field_range i h = ltb-true _ range_count (each (λ w. ltb (w % 100) range_count) field_words 0 refl i h)

-- a row has the digit of a kind
pub field_kind : (i : ℕ) → i < field_count → get_or field_words i 0 / 100 % 10 ≤ 2
unfolding field_words ranges fields groups layouts categories
field_kind i h = leb-true _ 2 (each (λ w. leb (w / 100 % 10) 2) field_words 0 refl i h)

pub group_digits_lem : (i : ℕ) → i < group_count → group_digits (get_or group_words i 0) ≡ group_at i
unfolding group_words group_at fields groups layouts categories
group_digits_lem i h =
    ap group_digits (get_or-map_in group_word (group_rows 0 groups) i no_group_row 0 h)
    ∙ in_row (λ r. group_digits (group_word r)) (λ r. r) (group_rows 0 groups) i no_group_row h refl

pub layout_digits_lem : (i : ℕ) → i < layout_count → layout_digits (get_or layout_words i 0) ≡ layout_at i
unfolding layout_words layout_at layouts categories
layout_digits_lem zero h = refl
layout_digits_lem (suc i) h =
    ap layout_digits (get_or-map_in layout_word (layout_rows 0 0 layouts) i no_layout_row 0 (le_of_suc-le-suc h))
    ∙ in_row (λ r. layout_digits (layout_word r)) (λ r. r) (layout_rows 0 0 layouts) i no_layout_row (le_of_suc-le-suc h) refl

pub layout_kind : (i : ℕ) → i < layout_count → get_or layout_words i 0 / 100_000_000 ≤ 5
unfolding layout_words layouts categories
layout_kind i h = leb-true _ 5 (each (λ w. leb (w / 100_000_000) 5) layout_words 0 refl i h)

pub place_pair_lem : (i : ℕ) → get_or place_pairs i (0, 0) ≡ place_pair (place_row_at i)
unfolding place_pairs place_row_at
place_pair_lem i = get_or-map place_pair (profile_rows 1 categories) i nowhere

-- ---- compound items

-- seven bits to a primary octet
pub subfields_long : subfield_count ≡ 7 * primary_count
unfolding subfields_in primaries layouts categories
subfields_long = refl

-- a bit's subfield has a layout of the table
pub subfield_row : (i : ℕ) → subfield_at i < layout_count
unfolding subfield_at subfields_in layouts categories
subfield_row i = ltb-true (subfield_at i) layout_count (at_row (λ r. ltb r layout_count) (λ r. true) subfields_in i 0 refl refl)

-- ---- layouts

-- the first row is that of no item, each other one that of an item
pub layout_none : layout_is (layout_at 0) ≡ none
unfolding layout_is format_is format_by layout_at
layout_none = refl

pub layout_some : (j : ℕ) → suc j < layout_count → present (layout_is (layout_at (suc j))) ≡ true
unfolding layout_is format_is format_by layout_at group_at fields groups layouts categories
layout_some j h = each (λ l. present (layout_is l)) (layout_rows 0 0 layouts) no_layout_row refl j (le_of_suc-le-suc h)
