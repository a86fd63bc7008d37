-- The three laws of every layout whose fields are one list of numbers: reading gives fields exactly when writing those fields gives those octets.
--
-- In order: what a list has to tell apart; a list taken apart is the list of its value; the list of a value that can be written is taken apart to
-- that value again; the laws. Assumes nothing.
use Prim.Native.Nat.{ℕ, zero, suc, ◌+◌, ◌-◌, ◌*◌, ◌/◌, ◌≤◌, ◌<◌}
use mathlib.Core.Path.{◌≡◌, refl, sym, ap, ap₂, ◌∙◌, subst}
use mathlib.Core.Logic.{⊎_elim}
use mathlib.Core.Bool.{Bool, true, false, ◌&&◌, false≢true}
use mathlib.Core.Option.{Option, none, some}
use mathlib.Core.List.{List, [], ◌∷◌, ◌++◌, map, append_assoc, append-nil}
use native.Mathlib.Omega.{arith}
use native.Mathlib.Nat.{mul-div_cancel, suc-mul, zero-mul, add_comm, mul-one}
use lib.Dec.{T, ltb, leb→le, le→leb, ltb→lt, eqb→eq}
use borrow.Author.Tests.{eqb-true, ltb-true}
use lib.ListN.{length, take, drop, replicate, take-append-drop, length-append, length-replicate, length-map}
use lib.Seq.{take_at, drop_at, length-take-le}
use lib.IntN.{ℤ, pos, negsuc}
use Rattle.rules.specs.Answer.{Answer, ok, refused}
use Rattle.rules.specs.Field.{Kind, Field, spare, value, any, arity, put, pack}
use Rattle.rules.specs.Chain.{flatten}
use Rattle.rules.specs.Format.{Group, Format, fixed, repeated, led, extended, PartValues, groups, least, pack_all, write_plain}
use Rattle.rules.specs.Presence.{present, number, numbers, house, any_set, keep_row, write_presence, write_row, write_rows, write_places}
use Rattle.rules.specs.Layout.{Layout, plain, compound, Values, in_parts, in_subfields, write_item}
use Rattle.rules.specs.FieldList.{absent_field, is_absent, all_absent, plain_fields, sub_fields, place_fields, row_fields, rows_fields, field_list, take_parts, take_extents, take_count, take_sub, take_place, take_row, take_rows, take_plain, take_item, values_from, write_fields, read_fields}
use Rattle.rules.proofs.AnswerLaws.{refused_ok, ok_inj, bind_in, bind_elim, need_elim, need_in, if_inv, if_true, if_false, T_true, both_left, both_right, nil_of_length, Octets, Split, Laws, step_back}
use Rattle.rules.proofs.FieldLaws.{fields_inverse, unpack_arity}
use Rattle.rules.proofs.LayoutLaws.{item_laws, barred_inv}

-- ---- what a list has to tell apart: every part has a value, and no field may hold the number that stands for what is absent

abbrev pub is_refused : {A : Type 0} → Answer A → Bool
is_refused (ok a) = false
is_refused (refused n p) = true

abbrev pub tells : List Field → Bool
tells [] = true
tells (spare w ∷ fs) = tells fs
tells (value w k ∷ fs) = is_refused (put w k absent_field) && tells fs

abbrev pub listed : List Field → Bool
listed fs = ltb 0 (arity fs) && tells fs

abbrev pub all_listed : List (List Field) → Bool
all_listed [] = true
all_listed (g ∷ gs) = listed g && all_listed gs

abbrev pub format_listed : Format → Bool
format_listed (fixed g) = listed g.fields
format_listed (repeated lo hi g) = listed g.fields
format_listed (led lo) = listed (any 8 ∷ [])
format_listed (extended gs) = all_listed (map (λ g. g.fields) gs)

abbrev pub row_listed : List (Option Format) → Bool
row_listed [] = true
row_listed (none ∷ ps) = row_listed ps
row_listed (some s ∷ ps) = format_listed s && row_listed ps

abbrev pub rows_listed : List (List (Option Format)) → Bool
rows_listed [] = true
rows_listed (p ∷ ps) = row_listed p && rows_listed ps

abbrev pub layout_listed : Layout → Bool
layout_listed (plain s) = format_listed s
layout_listed (compound ps) = rows_listed ps

-- ---- the number that stands for what is absent

pub absent_is : (f : ℤ) → is_absent f ≡ true → f ≡ absent_field
absent_is (pos n) e = absurd (false≢true e)
absent_is (negsuc n) e = ap negsuc (eqb-true n _ e)

pub all_absent_lem : (fs : List ℤ) → all_absent fs ≡ true → fs ≡ replicate (length fs) absent_field
all_absent_lem [] e = refl
all_absent_lem (f ∷ fs) e =
    ap₂ ◌∷◌ (absent_is f (both_left (is_absent f) (all_absent fs) e)) (all_absent_lem fs (both_right (is_absent f) (all_absent fs) e))

absents : (n : ℕ) → all_absent (replicate n absent_field) ≡ true
absents zero = refl
absents (suc n) = absents n

-- ---- a list taken apart is the list of its value

parts_given : (gs : List (List Field)) (fs : List ℤ) (vs : PartValues) (rest : List ℤ) → take_parts gs fs ≡ ok (vs, rest) → flatten vs ++ rest ≡ fs
unfolding take_parts
parts_given [] fs vs rest h = ap (λ x. flatten x.0 ++ x.1) (sym (ok_inj h))
parts_given (g ∷ gs) fs vs rest h =
    need_elim _ _ _ h λ p h₁.
    bind_elim _ _ h₁ λ x r h₂.
    ap (λ z. flatten z.0 ++ z.1) (sym (ok_inj h₂))
    ∙ append_assoc (take (arity g) fs) (flatten x.0) x.1
    ∙ ap (λ m. take (arity g) fs ++ m) (parts_given gs (drop (arity g) fs) x.0 x.1 r)
    ∙ take-append-drop (arity g) fs

pub parts_count : (gs : List (List Field)) (fs : List ℤ) (vs : PartValues) (rest : List ℤ) → take_parts gs fs ≡ ok (vs, rest) → length vs ≡ length gs
unfolding take_parts
parts_count [] fs vs rest h = ap (λ x. length x.0) (sym (ok_inj h))
parts_count (g ∷ gs) fs vs rest h =
    need_elim _ _ _ h λ p h₁.
    bind_elim _ _ h₁ λ x r h₂.
    ap (λ z. length z.0) (sym (ok_inj h₂)) ∙ ap suc (parts_count gs (drop (arity g) fs) x.0 x.1 r)

-- one part, and what is left of the extents after it
one_more : (v vs : PartValues) (n : ℕ) (fs rest : List ℤ) → length v ≡ 1 → flatten v ++ ((flatten vs ++ replicate (n - length vs) absent_field) ++ rest) ≡ fs
    → (flatten (v ++ vs) ++ replicate (suc n - length (v ++ vs)) absent_field) ++ rest ≡ fs
one_more [] vs n fs rest l e = absurd (omega arith)
one_more (u ∷ (w ∷ v)) vs n fs rest l e = absurd (omega arith)
one_more (u ∷ []) vs n fs rest l e =
    let k : suc n - suc (length vs) ≡ n - length vs = omega arith in
    rw k (ap (λ m. m ++ rest) (append_assoc u (flatten vs) (replicate (n - length vs) absent_field))
    ∙ append_assoc u (flatten vs ++ replicate (n - length vs) absent_field) rest
    ∙ ap (λ m. m ++ ((flatten vs ++ replicate (n - length vs) absent_field) ++ rest)) (sym (append-nil u)) ∙ e)

extents_given : (gs : List (List Field)) (fs : List ℤ) (vs : PartValues) (rest : List ℤ) → take_extents gs fs ≡ ok (vs, rest)
    → (flatten vs ++ replicate (length gs - length vs) absent_field) ++ rest ≡ fs
unfolding take_extents
extents_given [] fs vs rest h = ap (λ x. (flatten x.0 ++ replicate (0 - length x.0) absent_field) ++ x.1) (sym (ok_inj h))
extents_given (g ∷ gs) [] vs rest h = refused_ok h
extents_given (g ∷ gs) (f ∷ fs) vs rest h =
    ⊎_elim
    (λ (e, h₁).
    need_elim _ _ _ h₁ λ l h₂.
    need_elim _ _ _ h₂ λ t h₃.
    let n : length (take (length gs) fs) ≡ length gs = length-take-le (length gs) fs (leb→le _ _ l) in
    let a : take (length gs) fs ≡ replicate (length gs) absent_field = all_absent_lem (take (length gs) fs) (true-T t) ∙ ap (λ k. replicate k absent_field) n in
    let z : suc (length gs) - 0 ≡ suc (length gs) = omega arith in
    ap (λ x. (flatten x.0 ++ replicate (suc (length gs) - length x.0) absent_field) ++ x.1) (sym (ok_inj h₃))
    ∙ ap (λ k. replicate k absent_field ++ drop (length gs) fs) z
    ∙ ap₂ ◌∷◌ (sym (absent_is f e)) (ap (λ m. m ++ drop (length gs) fs) (sym a) ∙ take-append-drop (length gs) fs))
    (λ (e, h₁).
    bind_elim _ _ h₁ λ x p h₂.
    bind_elim _ _ h₂ λ y q h₃.
    ap (λ z. (flatten z.0 ++ replicate (suc (length gs) - length z.0) absent_field) ++ z.1) (sym (ok_inj h₃))
    ∙ one_more x.0 y.0 (length gs) (f ∷ fs) y.1 (parts_count (g ∷ []) (f ∷ fs) x.0 x.1 p)
    (ap (λ m. flatten x.0 ++ m) (extents_given gs x.1 y.0 y.1 q) ∙ parts_given (g ∷ []) (f ∷ fs) x.0 x.1 p))
    (if_inv _ _ _ h)
  where
    true-T : {t : Bool} → T t → t ≡ true
    true-T {t = true} h = refl
    true-T {t = false} h = absurd h

count_given : (f : ℤ) (g : List Field) (fs : List ℤ) (vs : PartValues) (rest : List ℤ) → take_count f g fs ≡ ok (vs, rest) → (pos (length vs) ∷ flatten vs) ++ rest ≡ f ∷ fs
count_given (pos c) g fs vs rest h =
    ap₂ ◌∷◌ (ap pos (parts_count (replicate c g) fs vs rest h ∙ length-replicate c g)) (parts_given (replicate c g) fs vs rest h)
count_given (negsuc c) g fs vs rest h = refused_ok h

sub_given : (s : Format) (fs : List ℤ) (vs : PartValues) (rest : List ℤ) → take_sub s fs ≡ ok (vs, rest) → sub_fields s vs ++ rest ≡ fs
unfolding take_sub
sub_given s [] vs rest h = refused_ok h
sub_given (fixed g) (f ∷ fs) vs rest h = parts_given (g.fields ∷ []) (f ∷ fs) vs rest h
sub_given (repeated lo hi g) (f ∷ fs) vs rest h = count_given f g.fields fs vs rest h
sub_given (led lo) (f ∷ fs) vs rest h = count_given f (any 8 ∷ []) fs vs rest h
sub_given (extended gs) (f ∷ fs) vs rest h = rw (← length-map gs (λ g. g.fields)) (extents_given (map (λ g. g.fields) gs) (f ∷ fs) vs rest h)

place_given : (p : Option Format) (fs : List ℤ) (v : Option PartValues) (rest : List ℤ) → take_place p fs ≡ ok (v, rest) → place_fields p v ++ rest ≡ fs
unfolding take_place
place_given none fs v rest h = ap (λ x. x.1) (sym (ok_inj h))
place_given (some s) [] v rest h = refused_ok h
place_given (some s) (f ∷ fs) v rest h =
    ⊎_elim
    (λ (e, h₁). ap (λ x. place_fields (some s) x.0 ++ x.1) (sym (ok_inj h₁)) ∙ ap (λ a. a ∷ fs) (sym (absent_is f e)))
    (λ (e, h₁).
    bind_elim _ _ h₁ λ x p h₂.
    ap (λ z. place_fields (some s) z.0 ++ z.1) (sym (ok_inj h₂)) ∙ sub_given s (f ∷ fs) x.0 x.1 p)
    (if_inv _ _ _ h)

row_given : (ps : List (Option Format)) (fs : List ℤ) (vs : List (Option PartValues)) (rest : List ℤ) → take_row ps fs ≡ ok (vs, rest) → row_fields ps vs ++ rest ≡ fs
unfolding take_row
row_given [] fs vs rest h = ap (λ x. x.1) (sym (ok_inj h))
row_given (p ∷ ps) fs vs rest h =
    bind_elim _ _ h λ x q h₁.
    bind_elim _ _ h₁ λ y r h₂.
    ap (λ z. row_fields (p ∷ ps) z.0 ++ z.1) (sym (ok_inj h₂))
    ∙ append_assoc (place_fields p x.0) (row_fields ps y.0) y.1
    ∙ ap (λ m. place_fields p x.0 ++ m) (row_given ps x.1 y.0 y.1 r)
    ∙ place_given p fs x.0 x.1 q

-- a row without a subfield has the list of no row
empty_row : (ps : List (Option Format)) (vs : List (Option PartValues)) → any_set (map present vs) ≡ false → row_fields ps vs ≡ row_fields ps []
empty_row [] vs e = refl
empty_row (p ∷ ps) [] e = refl
empty_row (p ∷ ps) (none ∷ vs) e = ap (λ m. place_fields p none ++ m) (empty_row ps vs e)
empty_row (p ∷ ps) (some v ∷ vs) e = absurd (false≢true (sym e))

kept_fields : (p : List (Option Format)) (ps : List (List (Option Format))) (r : List (Option PartValues)) (rs : List (List (Option PartValues)))
    → rows_fields (p ∷ ps) (keep_row (any_set (map present r)) r rs) ≡ row_fields p r ++ rows_fields ps rs
kept_fields p ps r rs = go (any_set (map present r)) rs refl
  where
    go : (t : Bool) (qs : List (List (Option PartValues))) → any_set (map present r) ≡ t → rows_fields (p ∷ ps) (keep_row t r qs) ≡ row_fields p r ++ rows_fields ps qs
    go true qs e = refl
    go false [] e = ap (λ m. m ++ rows_fields ps []) (sym (empty_row p r e))
    go false (q ∷ qs) e = refl

rows_given : (ps : List (List (Option Format))) (fs : List ℤ) (rs : List (List (Option PartValues))) (rest : List ℤ) → take_rows ps fs ≡ ok (rs, rest)
    → rows_fields ps rs ++ rest ≡ fs
unfolding take_rows
rows_given [] fs rs rest h = ap (λ x. x.1) (sym (ok_inj h))
rows_given (p ∷ ps) fs rs rest h =
    bind_elim _ _ h λ x q h₁.
    bind_elim _ _ h₁ λ y r h₂.
    ap (λ z. rows_fields (p ∷ ps) z.0 ++ z.1) (sym (ok_inj h₂))
    ∙ ap (λ m. m ++ y.1) (kept_fields p ps x.0 y.0)
    ∙ append_assoc (row_fields p x.0) (rows_fields ps y.0) y.1
    ∙ ap (λ m. row_fields p x.0 ++ m) (rows_given ps x.1 y.0 y.1 r)
    ∙ row_given p fs x.0 x.1 q

plain_given : (s : Format) (fs : List ℤ) (vs : PartValues) (rest : List ℤ) → take_plain s fs ≡ ok (vs, rest) → plain_fields s vs ++ rest ≡ fs
unfolding take_plain
plain_given (fixed g) fs vs rest h = parts_given (g.fields ∷ []) fs vs rest h
plain_given (repeated lo hi g) fs vs rest h = parts_given _ fs vs rest h
plain_given (led lo) fs vs rest h = parts_given _ fs vs rest h
plain_given (extended gs) fs vs rest h = rw (← length-map gs (λ g. g.fields)) (extents_given (map (λ g. g.fields) gs) fs vs rest h)

item_given : (l : Layout) (fs : List ℤ) (v : Values) (rest : List ℤ) → take_item l fs ≡ ok (v, rest) → field_list l v ++ rest ≡ fs
unfolding take_item
item_given (plain s) fs v rest h =
    bind_elim _ _ h λ x p h₁.
    ap (λ z. field_list (plain s) z.0 ++ z.1) (sym (ok_inj h₁)) ∙ plain_given s fs x.0 x.1 p
item_given (compound ps) fs v rest h =
    bind_elim _ _ h λ x p h₁.
    ap (λ z. field_list (compound ps) z.0 ++ z.1) (sym (ok_inj h₁)) ∙ rows_given ps fs x.0 x.1 p

pub values_given : (l : Layout) (fs : List ℤ) (v : Values) → values_from l fs ≡ ok v → field_list l v ≡ fs
unfolding values_from
values_given l fs v h =
    bind_elim _ _ h λ x p h₁.
    need_elim _ _ _ h₁ λ t h₂.
    let z : x.1 ≡ [] = nil_of_length x.1 (eqb→eq _ 0 t) in
    ap (field_list l) (sym (ok_inj h₂)) ∙ sym (append-nil (field_list l x.0)) ∙ ap (λ m. field_list l x.0 ++ m) (sym z) ∙ item_given l fs x.0 x.1 p

-- ---- the list of a value that can be written is taken apart to that value again

-- a part for each of the groups, each with as many values as its group
abbrev Fits : List (List Field) → PartValues → Type 0
Fits [] [] = Unit {0}
Fits [] (v ∷ vs) = ⊥
Fits (g ∷ gs) [] = ⊥
Fits (g ∷ gs) (v ∷ vs) = (length v ≡ arity g) × Fits gs vs

pack_arity : (g : List Field) (v : List ℤ) (n : ℕ) → pack g v ≡ ok n → length v ≡ arity g
pack_arity g v n h = unpack_arity g n v ((fields_inverse g).from n v h)

not_absent : (w : ℕ) (k : Kind) (v : ℤ) (c : ℕ) → is_refused (put w k absent_field) ≡ true → put w k v ≡ ok c → is_absent v ≡ false
not_absent w k v c t h = go (is_absent v) refl
  where
    go : (b : Bool) → is_absent v ≡ b → b ≡ false
    go true e = absurd (false≢true (ap is_refused (sym (ap (put w k) (sym (absent_is v e)) ∙ h)) ∙ t))
    go false e = refl

equal_fit : (hi : ℕ) (g : List Field) (vs : PartValues) (ns : List ℕ) → pack_all (replicate hi g) vs ≡ ok ns → Fits (replicate (length vs) g) vs
unfolding pack_all
equal_fit hi g [] ns h = tt
equal_fit zero g (v ∷ vs) ns h = refused_ok h
equal_fit (suc hi) g (v ∷ vs) ns h =
    bind_elim _ _ h λ n p h₁.
    bind_elim _ _ h₁ λ us q h₂.
    (pack_arity g v n p, equal_fit hi g vs us q)

parts_taken : (gs : List (List Field)) (vs : PartValues) (rest : List ℤ) → Fits gs vs → take_parts gs (flatten vs ++ rest) ≡ ok (vs, rest)
unfolding take_parts
parts_taken [] [] rest f = refl
parts_taken [] (v ∷ vs) rest f = absurd f
parts_taken (g ∷ gs) [] rest f = absurd f
parts_taken (g ∷ gs) (v ∷ vs) rest f =
    let l : length v ≡ arity g = f.0 in
    let la : length (v ++ (flatten vs ++ rest)) ≡ length v + length (flatten vs ++ rest) = length-append v (flatten vs ++ rest) in
    rw append_assoc
    (need_in _ _ (le→leb (arity g) (length (v ++ (flatten vs ++ rest))) (omega arith))
    (rw (drop_at v (flatten vs ++ rest) (arity g) l, take_at v (flatten vs ++ rest) (arity g) l)
    (bind_in _ (parts_taken gs vs rest f.1) refl)))

-- a part has a first value, and that is not `absent_field`
first_tells_lem : (g : List Field) (x : ℤ) (v : List ℤ) (n : ℕ) → tells g ≡ true → pack g (x ∷ v) ≡ ok n → is_absent x ≡ false
unfolding pack
first_tells_lem [] x v n t h = refused_ok h
first_tells_lem (spare w ∷ fs) x v n t h = first_tells_lem fs x v n t h
first_tells_lem (value w k ∷ fs) x v n t h = bind_elim _ _ h λ c p h₁. not_absent w k x c (both_left (is_refused (put w k absent_field)) (tells fs) t) p

first_told_lem : (g : List Field) (x : ℤ) (v : List ℤ) (n : ℕ) → listed g ≡ true → pack g (x ∷ v) ≡ ok n → is_absent x ≡ false
first_told_lem g x v n t h = first_tells_lem g x v n (both_right (ltb 0 (arity g)) (tells g) t) h

no_values : {A : Type 0} (g : List Field) (n : ℕ) → listed g ≡ true → pack g [] ≡ ok n → A
no_values g n t h =
    let z : 0 < arity g = ltb-true _ _ (both_left (ltb 0 (arity g)) (tells g) t) in
    let l : 0 ≡ arity g = pack_arity g [] n h in
    absurd (omega arith)

regroup : (u a b c : List ℤ) → ((u ++ a) ++ b) ++ c ≡ (u ++ []) ++ ((a ++ b) ++ c)
regroup u a b c = simp (append_assoc, append-nil)

extents_taken : (gs : List (List Field)) (vs : PartValues) (ns : List ℕ) (rest : List ℤ) → all_listed gs ≡ true → pack_all gs vs ≡ ok ns
    → take_extents gs ((flatten vs ++ replicate (length gs - length vs) absent_field) ++ rest) ≡ ok (vs, rest)
unfolding pack_all take_extents
extents_taken [] [] ns rest t h = refl
extents_taken [] (v ∷ vs) ns rest t h = refused_ok h
extents_taken (g ∷ gs) [] ns rest t h =
    let z : suc (length gs) - 0 ≡ suc (length gs) = omega arith in
    let n : length (replicate (length gs) absent_field) ≡ length gs = length-replicate (length gs) absent_field in
    let la : length (replicate (length gs) absent_field ++ rest) ≡ length (replicate (length gs) absent_field) + length rest = length-append (replicate (length gs) absent_field) rest in
    rw z
    (if_true _ refl
    (need_in _ _ (le→leb (length gs) (length (replicate (length gs) absent_field ++ rest)) (omega arith))
    (rw (take_at (replicate (length gs) absent_field) rest (length gs) n, drop_at (replicate (length gs) absent_field) rest (length gs) n)
    (need_in _ _ (T_true (absents (length gs))) refl))))
extents_taken (g ∷ gs) ([] ∷ vs) ns rest t h = bind_elim _ _ h λ n p h₁. no_values g n (both_left (listed g) (all_listed gs) t) p
extents_taken (g ∷ gs) ((x ∷ v) ∷ vs) ns rest t h =
    bind_elim _ _ h λ n p h₁.
    bind_elim _ _ h₁ λ us q h₂.
    let tg : listed g ≡ true = both_left (listed g) (all_listed gs) t in
    let k : suc (length gs) - suc (length vs) ≡ length gs - length vs = omega arith in
    let a : (((x ∷ v) ++ flatten vs) ++ replicate (suc (length gs) - suc (length vs)) absent_field) ++ rest
    ≡ (flatten ((x ∷ v) ∷ []) ++ ((flatten vs ++ replicate (length gs - length vs) absent_field) ++ rest)) =
    ap (λ j. (((x ∷ v) ++ flatten vs) ++ replicate j absent_field) ++ rest) k ∙ regroup (x ∷ v) (flatten vs) (replicate (length gs - length vs) absent_field) rest in
    rw a
    (if_false _ (first_told_lem g x v n tg p)
    (bind_in _ (parts_taken (g ∷ []) ((x ∷ v) ∷ []) _ (pack_arity g (x ∷ v) n p, tt))
    (bind_in _ (extents_taken gs vs us rest (both_right (listed g) (all_listed gs) t) q) refl)))

-- what a format that can be written has
record Packed (s : Format) (vs : PartValues) : Type 0 where
  pub numbers : List ℕ
  pub packs : pack_all (groups s) vs ≡ ok numbers
  pub enough : least s ≤ length vs

packed : (s : Format) (vs : PartValues) (bs : List ℕ) → write_plain s vs ≡ ok bs → Packed s vs
unfolding write_plain
packed s vs bs h =
    bind_elim _ _ h λ ns p h₁.
    need_elim _ _ _ p λ t h₂.
    record { numbers = ns; packs = h₂; enough = leb→le _ _ t }

fixed_fits : (g : List Field) (vs : PartValues) (ns : List ℕ) → 1 ≤ length vs → pack_all (g ∷ []) vs ≡ ok ns → Fits (g ∷ []) vs
unfolding pack_all
fixed_fits g [] ns l h = absurd (omega arith)
fixed_fits g (v ∷ []) ns l h = bind_elim _ _ h λ n p h₁. (pack_arity g v n p, tt)
fixed_fits g (v ∷ (u ∷ vs)) ns l h = bind_elim _ _ h λ n p h₁. bind_elim _ _ h₁ λ us q h₂. refused_ok q

-- a subfield that is there: its list does not start with `absent_field`
at_place : (s : Format) (f : ℤ) (fs : List ℤ) (vs : PartValues) (rest : List ℤ) → is_absent f ≡ false → take_sub s (f ∷ fs) ≡ ok (vs, rest)
    → take_place (some s) (f ∷ fs) ≡ ok (some vs, rest)
unfolding take_place
at_place s f fs vs rest e h = if_false _ e (bind_in _ h refl)

fixed_taken : (g : Group) (vs : PartValues) (ns : List ℕ) (rest : List ℤ) → listed g.fields ≡ true → 1 ≤ length vs → pack_all (g.fields ∷ []) vs ≡ ok ns
    → take_place (some (fixed g)) (flatten vs ++ rest) ≡ ok (some vs, rest)
unfolding take_sub pack_all
fixed_taken g [] ns rest t l h = absurd (omega arith)
fixed_taken g ([] ∷ vs) ns rest t l h = bind_elim _ _ h λ n p h₁. no_values g.fields n t p
fixed_taken g ((x ∷ v) ∷ vs) ns rest t l h =
    bind_elim _ _ h λ n p h₁.
    at_place (fixed g) x _ ((x ∷ v) ∷ vs) rest (first_told_lem g.fields x v n t p)
    (parts_taken (g.fields ∷ []) ((x ∷ v) ∷ vs) rest (fixed_fits g.fields ((x ∷ v) ∷ vs) ns l h))

extended_taken : (gs : List Group) (vs : PartValues) (ns : List ℕ) (rest : List ℤ) → all_listed (map (λ g. g.fields) gs) ≡ true → 1 ≤ length vs
    → pack_all (map (λ g. g.fields) gs) vs ≡ ok ns → take_place (some (extended gs)) ((flatten vs ++ replicate (length gs - length vs) absent_field) ++ rest) ≡ ok (some vs, rest)
unfolding take_sub pack_all
extended_taken gs [] ns rest t l h = absurd (omega arith)
extended_taken [] (v ∷ vs) ns rest t l h = refused_ok h
extended_taken (g ∷ gs) ([] ∷ vs) ns rest t l h =
    bind_elim _ _ h λ n p h₁. no_values g.fields n (both_left (listed g.fields) (all_listed (map (λ g. g.fields) gs)) t) p
extended_taken (g ∷ gs) ((x ∷ v) ∷ vs) ns rest t l h =
    bind_elim _ _ h λ n p h₁.
    at_place (extended (g ∷ gs)) x _ ((x ∷ v) ∷ vs) rest
    (first_told_lem g.fields x v n (both_left (listed g.fields) (all_listed (map (λ g. g.fields) gs)) t) p)
    (ap (λ k. take_extents (map (λ g. g.fields) (g ∷ gs)) ((flatten ((x ∷ v) ∷ vs) ++ replicate (k - length ((x ∷ v) ∷ vs)) absent_field) ++ rest))
    (sym (length-map (g ∷ gs) (λ g. g.fields)))
    ∙ extents_taken (map (λ g. g.fields) (g ∷ gs)) ((x ∷ v) ∷ vs) ns rest t h)

place_taken : (s : Format) (vs : PartValues) (bs : List ℕ) (rest : List ℤ) → format_listed s ≡ true → write_plain s vs ≡ ok bs
    → take_place (some s) (sub_fields s vs ++ rest) ≡ ok (some vs, rest)
unfolding take_sub
place_taken (fixed g) vs bs rest t h = let w : Packed (fixed g) vs = packed (fixed g) vs bs h in fixed_taken g vs w.numbers rest t w.enough w.packs
place_taken (repeated lo hi g) vs bs rest t h =
    let w : Packed (repeated lo hi g) vs = packed (repeated lo hi g) vs bs h in
    at_place (repeated lo hi g) _ _ vs rest refl (parts_taken _ vs rest (equal_fit hi g.fields vs w.numbers w.packs))
place_taken (led lo) vs bs rest t h =
    let w : Packed (led lo) vs = packed (led lo) vs bs h in
    at_place (led lo) _ _ vs rest refl (parts_taken _ vs rest (equal_fit 254 (any 8 ∷ []) vs w.numbers w.packs))
place_taken (extended gs) vs bs rest t h =
    let w : Packed (extended gs) vs = packed (extended gs) vs bs h in extended_taken gs vs w.numbers rest t w.enough w.packs

none_taken : (p : Option Format) (rest : List ℤ) → take_place p (place_fields p none ++ rest) ≡ ok (none, rest)
unfolding take_place
none_taken none rest = refl
none_taken (some s) rest = if_true _ refl refl

row_taken : (ps : List (Option Format)) (vs : List (Option PartValues)) (bs : List ℕ) (rest : List ℤ) → row_listed ps ≡ true → write_row write_plain ps vs ≡ ok bs
    → take_row ps (row_fields ps vs ++ rest) ≡ ok (vs, rest)
unfolding take_row write_row
row_taken [] [] bs rest t h = refl
row_taken [] (v ∷ vs) bs rest t h = refused_ok h
row_taken (p ∷ ps) [] bs rest t h = refused_ok h
row_taken (none ∷ ps) (none ∷ vs) bs rest t h =
    bind_in _ (none_taken none (row_fields ps vs ++ rest)) (bind_in _ (row_taken ps vs bs rest t h) refl)
row_taken (some s ∷ ps) (none ∷ vs) bs rest t h =
    bind_in _ (none_taken (some s) (row_fields ps vs ++ rest)) (bind_in _ (row_taken ps vs bs rest (both_right (format_listed s) (row_listed ps) t) h) refl)
row_taken (none ∷ ps) (some v ∷ vs) bs rest t h = refused_ok h
row_taken (some s ∷ ps) (some v ∷ vs) bs rest t h =
    bind_elim _ _ h λ b q h₁.
    bind_elim _ _ h₁ λ us r h₂.
    rw (append_assoc (sub_fields s v) (row_fields ps vs) rest)
    (bind_in _ (place_taken s v b (row_fields ps vs ++ rest) (both_left (format_listed s) (row_listed ps) t) q)
    (bind_in _ (row_taken ps vs us rest (both_right (format_listed s) (row_listed ps) t) r) refl))

-- a row that is not there
nothing : List (Option Format) → List (Option PartValues)
nothing [] = []
nothing (p ∷ ps) = none ∷ nothing ps

nothing_set : (ps : List (Option Format)) → any_set (map present (nothing ps)) ≡ false
unfolding nothing
nothing_set [] = refl
nothing_set (p ∷ ps) = nothing_set ps

no_row_taken : (ps : List (Option Format)) (rest : List ℤ) → take_row ps (row_fields ps [] ++ rest) ≡ ok (nothing ps, rest)
unfolding take_row nothing
no_row_taken [] rest = refl
no_row_taken (p ∷ ps) rest =
    rw (append_assoc (place_fields p none) (row_fields ps []) rest)
    (bind_in _ (none_taken p (row_fields ps [] ++ rest)) (bind_in _ (no_row_taken ps rest) refl))

no_rows_taken : (ps : List (List (Option Format))) (rest : List ℤ) → take_rows ps (rows_fields ps [] ++ rest) ≡ ok ([], rest)
unfolding take_rows
no_rows_taken [] rest = refl
no_rows_taken (p ∷ ps) rest =
    rw (append_assoc (row_fields p []) (rows_fields ps []) rest)
    (bind_in _ (no_row_taken p (rows_fields ps [] ++ rest))
    (bind_in _ (no_rows_taken ps rest) (ap (λ b. ok (keep_row b (nothing p) [], rest)) (nothing_set p))))

-- the last row has a subfield
abbrev ends : List (List (Option PartValues)) → Bool
ends [] = false
ends (r ∷ []) = any_set (map present r)
ends (r ∷ (q ∷ rs)) = ends (q ∷ rs)

number_set : (ts : List Bool) → 0 < number ts → any_set ts ≡ true
unfolding number
number_set [] l = absurd (omega arith)
number_set (true ∷ ts) l = refl
number_set (false ∷ ts) l = number_set ts l

house_ends : (ps : List (List (Option Format))) (rs : List (List (Option PartValues))) (ns : List ℕ) → numbers ps (map (map present) rs) ≡ ok ns → T (house ns)
    → ends rs ≡ true
unfolding numbers house
house_ends ps [] ns h t = absurd (subst (λ m. T (house m)) (sym (ok_inj h)) t)
house_ends [] (r ∷ rs) ns h t = refused_ok h
house_ends (p ∷ ps) (r ∷ []) ns h t =
    need_elim _ _ _ h λ u h₁.
    bind_elim _ _ h₁ λ us q h₂.
    number_set (map present r) (ltb→lt 0 _ (subst (λ m. T (house m)) (sym (ok_inj h₂) ∙ ap (λ m. number (map present r) ∷ m) (sym (ok_inj q))) t))
house_ends (p ∷ ps) (r ∷ (q ∷ rs)) ns h t =
    need_elim _ _ _ h λ u h₁.
    bind_elim _ _ h₁ λ us e h₂.
    house_ends ps (q ∷ rs) us e (tail us e (subst (λ m. T (house m)) (sym (ok_inj h₂)) t))
  where
    tail : (us : List ℕ) → numbers ps (map (map present) (q ∷ rs)) ≡ ok us → T (house (number (map present r) ∷ us)) → T (house us)
    tail [] e t = go ps e
      where
        go : (ps : List (List (Option Format))) → numbers ps (map (map present) (q ∷ rs)) ≡ ok [] → T (house [])
        go [] e = refused_ok e
        go (p ∷ ps) e = need_elim _ _ _ e λ u e₁. bind_elim _ _ e₁ λ us g e₂. let z : length (number (map present q) ∷ us) ≡ 0 = ap length (ok_inj e₂) in absurd (omega arith)
    tail (u ∷ us) e t = t

rows_taken : (ps : List (List (Option Format))) (rs : List (List (Option PartValues))) (bs : List ℕ) (rest : List ℤ) → rows_listed ps ≡ true → ends rs ≡ true
    → write_rows write_plain ps rs ≡ ok bs → take_rows ps (rows_fields ps rs ++ rest) ≡ ok (rs, rest)
unfolding take_rows write_rows
rows_taken ps [] bs rest t e h = absurd (false≢true e)
rows_taken [] (r ∷ rs) bs rest t e h = refused_ok h
rows_taken (p ∷ ps) (r ∷ []) bs rest t e h =
    bind_elim _ _ h λ b q h₁.
    rw (append_assoc (row_fields p r) (rows_fields ps []) rest)
    (bind_in _ (row_taken p r b (rows_fields ps [] ++ rest) (both_left (row_listed p) (rows_listed ps) t) q)
    (bind_in _ (no_rows_taken ps rest) (ap (λ b. ok (keep_row b r [], rest)) e)))
rows_taken (p ∷ ps) (r ∷ (q ∷ rs)) bs rest t e h =
    bind_elim _ _ h λ b k h₁.
    bind_elim _ _ h₁ λ us m h₂.
    rw (append_assoc (row_fields p r) (rows_fields ps (q ∷ rs)) rest)
    (bind_in _ (row_taken p r b (rows_fields ps (q ∷ rs) ++ rest) (both_left (row_listed p) (rows_listed ps) t) k)
    (bind_in _ (rows_taken ps (q ∷ rs) us rest (both_right (row_listed p) (rows_listed ps) t) e m) (go (any_set (map present r)))))
  where
    go : (b : Bool) → ◌≡◌ {A = Answer (List (List (Option PartValues)) × List ℤ)} (ok (keep_row b r (q ∷ rs), rest)) (ok (r ∷ (q ∷ rs), rest))
    go true = refl
    go false = refl

-- as many values as the parts of a list make
equal_length : (g : List Field) (vs : PartValues) → Fits (replicate (length vs) g) vs → length (flatten vs) ≡ length vs * arity g
equal_length g [] f = sym (zero-mul (arity g))
equal_length g (v ∷ vs) f =
    let l : length v ≡ arity g = f.0 in
    length-append v (flatten vs) ∙ ap₂ ◌+◌ l (equal_length g vs f.1) ∙ add_comm (arity g) (length vs * arity g) ∙ sym (suc-mul (length vs) (arity g))

list_taken : (hi : ℕ) (g : List Field) (vs : PartValues) (ns : List ℕ) (k : ℕ) → pack_all (replicate hi g) vs ≡ ok ns → k ≡ length vs
    → take_parts (replicate k g) (flatten vs) ≡ ok (vs, [])
list_taken hi g vs ns k h e =
    ap (λ n. take_parts (replicate n g) (flatten vs)) e ∙ ap (take_parts (replicate (length vs) g)) (sym (append-nil (flatten vs)))
    ∙ parts_taken (replicate (length vs) g) vs [] (equal_fit hi g vs ns h)

plain_taken : (s : Format) (vs : PartValues) (bs : List ℕ) → format_listed s ≡ true → write_plain s vs ≡ ok bs → take_plain s (plain_fields s vs) ≡ ok (vs, [])
unfolding take_plain
plain_taken (fixed g) vs bs t h =
    let w : Packed (fixed g) vs = packed (fixed g) vs bs h in
    ap (take_parts (g.fields ∷ [])) (sym (append-nil (flatten vs))) ∙ parts_taken (g.fields ∷ []) vs [] (fixed_fits g.fields vs w.numbers w.enough w.packs)
plain_taken (repeated lo hi g) vs bs t h =
    let w : Packed (repeated lo hi g) vs = packed (repeated lo hi g) vs bs h in
    let z : 0 < arity g.fields = ltb-true _ _ (both_left (ltb 0 (arity g.fields)) (tells g.fields) t) in
    list_taken hi g.fields vs w.numbers _ w.packs
    (ap (λ n. n / arity g.fields) (equal_length g.fields vs (equal_fit hi g.fields vs w.numbers w.packs)) ∙ mul-div_cancel (length vs) z)
plain_taken (led lo) vs bs t h =
    let w : Packed (led lo) vs = packed (led lo) vs bs h in
    list_taken 254 (any 8 ∷ []) vs w.numbers _ w.packs
    (equal_length (any 8 ∷ []) vs (equal_fit 254 (any 8 ∷ []) vs w.numbers w.packs) ∙ mul-one (length vs))
plain_taken (extended gs) vs bs t h =
    let w : Packed (extended gs) vs = packed (extended gs) vs bs h in
    ap (λ k. take_extents (map (λ g. g.fields) gs) (flatten vs ++ replicate (k - length vs) absent_field)) (sym (length-map gs (λ g. g.fields)))
    ∙ ap (take_extents (map (λ g. g.fields) gs)) (sym (append-nil _))
    ∙ extents_taken (map (λ g. g.fields) gs) vs w.numbers [] t w.packs

item_taken : (l : Layout) (v : Values) (bs : List ℕ) → layout_listed l ≡ true → write_item l v ≡ ok bs → take_item l (field_list l v) ≡ ok (v, [])
unfolding take_item write_item write_places write_presence
item_taken (plain s) (in_parts vs) bs t h = bind_in _ (plain_taken s vs bs t h) refl
item_taken (plain s) (in_subfields rs) bs t h = refused_ok h
item_taken (compound ps) (in_parts vs) bs t h = refused_ok h
item_taken (compound ps) (in_subfields rs) bs t h =
    bind_elim _ _ (barred_inv _ h) λ a p h₁.
    bind_elim _ _ h₁ λ u q h₂.
    bind_elim _ _ p λ ns e p₁.
    need_elim _ _ _ p₁ λ y p₂.
    bind_in _ (ap (take_rows ps) (sym (append-nil (rows_fields ps rs))) ∙ rows_taken ps rs u [] t (house_ends ps rs ns e y) q) refl

pub values_taken : (l : Layout) (v : Values) (bs : List ℕ) → layout_listed l ≡ true → write_item l v ≡ ok bs → values_from l (field_list l v) ≡ ok v
unfolding values_from
values_taken l v bs t h = bind_in _ (item_taken l v bs t h) (need_in _ _ tt refl)

-- ---- the laws

fields_back : (l : Layout) (fs : List ℤ) (bs rest : List ℕ) → write_fields l fs ≡ ok bs → read_fields l (bs ++ rest) ≡ ok (fs, rest)
unfolding write_fields read_fields
fields_back l fs bs rest h =
    bind_elim _ _ h λ v p h₁.
    step_back (item_laws l) _ h₁ (ap (λ z. ok (z, rest)) (values_given l fs v p))

fields_forth : (l : Layout) → layout_listed l ≡ true → (fs : List ℤ) (bs rest : List ℕ) → Octets bs → read_fields l bs ≡ ok (fs, rest) → Split (write_fields l) fs bs rest
unfolding write_fields read_fields
fields_forth l t fs bs rest b h =
    bind_elim _ _ h λ x p h₁.
    let s : Split (write_item l) x.0 bs x.1 = (item_laws l).forth x.0 bs x.1 b p in
    subst (λ z. Split (write_fields l) z.0 bs z.1) (ok_inj h₁)
    (record { out = s.out; writes = bind_in _ (values_taken l x.0 s.out t s.writes) s.writes; joins = s.joins })

fields_clean : (l : Layout) (fs : List ℤ) (bs : List ℕ) → write_fields l fs ≡ ok bs → Octets bs
unfolding write_fields
fields_clean l fs bs h = bind_elim _ _ h λ v p h₁. (item_laws l).clean v bs h₁

-- THE LAWS OF EVERY LAYOUT whose parts have values, with the fields as one list
pub fields_laws : (l : Layout) → layout_listed l ≡ true → Laws (read_fields l) (write_fields l)
fields_laws l t = record { back = fields_back l; forth = fields_forth l t; clean = fields_clean l }
