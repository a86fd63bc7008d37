-- The reading rule as the code follows it is the rules' own: an item is read by its shape and then by its parts.
--
-- In order: the fields of a group; the parts of an item unpacked; lists and other equal parts; parts with an FX bit; an item read, by how its
-- parts lie. Assumes nothing.
use Prim.Native.Nat.{ℕ, zero, suc, ◌+◌, ◌-◌, ◌*◌, ◌%◌, ◌<◌, ◌≤◌, ◌^◌, zero-le}
use mathlib.Core.Path.{◌≡◌, refl, sym, ap, ◌∙◌, subst}
use mathlib.Core.Bool.{Bool, true, false, ◌&&◌, false≢true}
use mathlib.Core.Logic.{⊎_elim, ◌⊎◌, inl, inr}
use mathlib.Core.Option.{some}
use mathlib.Core.List.{List, [], ◌∷◌, map}
use native.Mathlib.Omega.{arith}
use native.Mathlib.Numerals.{add-one}
use native.Mathlib.Nat.{not-suc-le-zero, le_of_suc-le-suc, le_trans, add-zero, zero-mul, mul-one, div-one}
use lib.Dec.{leb, ltb, eqb, leb-zero, lit≤, lit<, T, leb→le, ltb→lt}
use lib.IntN.{ℤ, pos, negsuc}
use lib.ListN.{length, get_or, take, drop, replicate, length-drop, length-map, length-replicate, get_or-map}
use lib.Seq.{slice, slice-cons, slice_empty, drop-drop, length-take-le}
use lib.Pow.{shr_lt}
use borrow.Author.Tests.{le-leb, lt-leb, lt-ltb, le-ltb, leb-true, leb-false, eqb-true}
use Rattle.rules.specs.Answer.{Answer, ok, refused, ◌>>=◌, need◌or◌then◌, when◌then◌else◌}
use Rattle.rules.specs.Field.{Field, Kind, spare, value, unsigned, signed, any, bits, half, get, unpack}
use Rattle.rules.specs.Chain.{joined, read_num, read_many, read_chain}
use Rattle.rules.specs.Format.{Group, Format, fixed, repeated, led, extended, read_parts, groups, least, unpack_all, read_plain}
use Rattle.rules.proofs.AnswerLaws.{Octets, both_left, both_right, need_bind, ok_inj, refused_ok, need_elim, bind_elim, if_inv, some_inj, none_some, octets_drop}
use Rattle.rules.proofs.ChainLaws.{octets_take}
use Rattle.rules.specs.Catalogue.{categories}
use Rattle.tables.specs.declared.tables.Kind.{Kind as LayoutKind}
use Rattle.tables.specs.declared.tables.Kind.TheVariants.{NoItem, Fixed, Repeated, Led, Extended, Compound}
use Rattle.tables.specs.declared.tables.LayoutRow.{LayoutRow}
use Rattle.tables.specs.Tables as t
use Rattle.tables.specs.Tables.{group_count, fields, field_row, group_is, group_rows, no_group_row, group_at, format_is, format_by}
use Rattle.tables.proofs.TableLaws.{fields_at, groups_long}
use Rattle.layouts.specs.Read.{rows, rows_at, part_at, width, legal, values, span, holds, part_sound, parts_sound, parts_legal, fault_at, need◌or◌further◌then◌, part_values, Shaped, chain, head_of, step_of, list_shape, shape_by, shape_of, read_kind, read_by, is_octet, row_sound}
use Rattle.layouts.proofs.FieldCodes.{Wide, width_bits, unpack_is}
use Rattle.layouts.proofs.OctetLaws.{joined_lt}
use Rattle.layouts.proofs.PartLaws.{PartSound, part_sound_lem}
use Rattle.layouts.proofs.ShapeLaws.{Rowed, rowed, fixed_one, led_many, led_size, led_octet, chain_ends, chain_inside}

-- ---- the fields of a group

take_map : {A B : Type 0} (f : A → B) (k : ℕ) (l : List A) → take k (map f l) ≡ map f (take k l)
take_map f zero l = refl
take_map f (suc k) [] = refl
take_map f (suc k) (a ∷ l) = ap (λ m. f a ∷ m) (take_map f k l)

drop_map : {A B : Type 0} (f : A → B) (k : ℕ) (l : List A) → drop k (map f l) ≡ map f (drop k l)
drop_map f zero l = refl
drop_map f (suc k) [] = refl
drop_map f (suc k) (a ∷ l) = drop_map f k l

pub rows_map : (a e : ℕ) → rows a e ≡ map field_row (slice a e fields)
unfolding rows
rows_map a e = ap (drop a) (take_map field_row e fields) ∙ drop_map field_row a (take e fields)

wide_take : (k : ℕ) (fs : List Field) → Wide fs → Wide (take k fs)
wide_take zero fs h = tt
wide_take (suc k) [] h = tt
wide_take (suc k) (spare w ∷ fs) h = wide_take k fs h
wide_take (suc k) (value w j ∷ fs) h = (h.0, wide_take k fs h.1)

wide_drop : (k : ℕ) (fs : List Field) → Wide fs → Wide (drop k fs)
wide_drop zero fs h = h
wide_drop (suc k) [] h = tt
wide_drop (suc k) (spare w ∷ fs) h = wide_drop k fs h
wide_drop (suc k) (value w j ∷ fs) h = wide_drop k fs h.1

is_wide : List Field → Bool
is_wide [] = true
is_wide (spare w ∷ fs) = is_wide fs
is_wide (value w k ∷ fs) = leb 1 w && is_wide fs

is_wide_lem : (fs : List Field) → is_wide fs ≡ true → Wide fs
unfolding is_wide
is_wide_lem [] h = tt
is_wide_lem (spare w ∷ fs) h = is_wide_lem fs h
is_wide_lem (value w k ∷ fs) h = (leb-true 1 w (both_left (leb 1 w) (is_wide fs) h), is_wide_lem fs (both_right (leb 1 w) (is_wide fs) h))

wide_fields : Wide fields
unfolding is_wide fields t.groups t.layouts categories
wide_fields = is_wide_lem fields refl

pub wide_slice : (a e : ℕ) → Wide (slice a e fields)
wide_slice a e = wide_drop a (take e fields) (wide_take e fields wide_fields)

-- a part's number fits its fields
pub part_small : (step g : ℕ) (bs : List ℕ) → Octets bs → PartSound step (group_at g) → (group_at g).octets ≤ length bs → part_at step g bs < 2 ^ bits (fields_at g)
part_small step g bs o s h =
    let l : length (take (group_at g).octets bs) ≡ (group_at g).octets = length-take-le (group_at g).octets bs h in
    let n : joined (take (group_at g).octets bs) < 2 ^ (8 * (group_at g).octets) =
    subst (λ k. joined (take (group_at g).octets bs) < 2 ^ (8 * k)) l (joined_lt (take (group_at g).octets bs) (octets_take (group_at g).octets bs o)) in
    let w : width (rows_at g) ≡ bits (fields_at g) = ap width (rows_map (group_at g).first (group_at g).end) ∙ width_bits (fields_at g) in
    let e : 8 * (group_at g).octets ≡ bits (fields_at g) + step = omega (arith, s.whole) in
    shr_lt (bits (fields_at g)) step (subst (λ k. joined (take (group_at g).octets bs) < 2 ^ k) e n)

part_is : (step g : ℕ) (bs : List ℕ) → Octets bs → PartSound step (group_at g) → (group_at g).octets ≤ length bs
    → unpack (fields_at g) (part_at step g bs) ≡ (need legal (rows_at g) (part_at step g bs) or 11 then ok (values (rows_at g) (part_at step g bs)))
part_is step g bs o s h =
    rw (rows_map (group_at g).first (group_at g).end)
    (unpack_is (fields_at g) (part_at step g bs) (wide_slice (group_at g).first (group_at g).end) (part_small step g bs o s h))

-- ---- the parts of an item unpacked

unfoldable part_numbers : ℕ → ℕ → ℕ → List ℕ → List ℕ
part_numbers step g zero bs = []
part_numbers step g (suc c) bs = part_at step g bs ∷ part_numbers step (g + step) c (drop (group_at g).octets bs)

length_numbers : (step g c : ℕ) (bs : List ℕ) → length (part_numbers step g c bs) ≡ c
unfolding part_numbers
length_numbers step g zero bs = refl
length_numbers step g (suc c) bs = ap suc (length_numbers step (g + step) c (drop (group_at g).octets bs))

-- the fields of so many parts are those of the groups
Grouping : ℕ → ℕ → ℕ → List (List Field) → Type 0
Grouping step g zero gs = Unit {0}
Grouping step g (suc c) [] = ⊥
Grouping step g (suc c) (fs ∷ gs) = (fs ≡ fields_at g) × Grouping step (g + step) c gs

need_cons : (s t : Bool) (v : List ℤ) (vs : List (List ℤ))
    → ((need s or 11 then ok v) >>= (λ a. (need t or 11 then ok vs) >>= (λ as'. ok (a ∷ as')))) ≡ (need (s && t) or 11 then ok (v ∷ vs))
unfolding need◌or◌then◌ ◌>>=◌
need_cons true true v vs = refl
need_cons true false v vs = refl
need_cons false t v vs = refl

unpacked : (step g c : ℕ) (gs : List (List Field)) (bs : List ℕ) → Octets bs → parts_sound step g c ≡ true → span step g c ≤ length bs → Grouping step g c gs
    → unpack_all gs (part_numbers step g c bs) ≡ (need parts_legal step g c bs or 11 then ok (part_values step g c bs))
unfolding unpack_all part_numbers Grouping parts_sound span parts_legal part_values need◌or◌then◌
unpacked step g zero gs bs o s h e = refl
unpacked step g (suc c) [] bs o s h e = absurd e
unpacked step g (suc c) (fs ∷ gs) bs o s h e =
    let a = ltb g group_count in
    let b = part_sound step (group_at g) in
    let d = parts_sound step (g + step) c in
    let p : PartSound step (group_at g) = part_sound_lem step (group_at g) (both_right a b (both_left (a && b) d s)) in
    rw (e.0, part_is step g bs o p (omega arith), unpacked step (g + step) c gs (drop (group_at g).octets bs) (octets_drop (group_at g).octets bs o) (both_right (a && b) d s) (omega (arith, length-drop (group_at g).octets bs)) e.1)
    (need_cons (legal (rows_at g) (part_at step g bs)) (parts_legal step (g + step) c (drop (group_at g).octets bs)) _ _)

-- ---- lists and other equal parts

pub le_or_lt : (a b : ℕ) → (a ≤ b) ⊎ (b < a)
le_or_lt a b = go (leb a b) refl
  where
    go : (t : Bool) → leb a b ≡ t → (a ≤ b) ⊎ (b < a)
    go true e = inl (leb-true a b e)
    go false e = inr (leb-false a b e)

-- a test, both ways
pub same_leb : (a b c d : ℕ) → (a ≤ b → c ≤ d) → (c ≤ d → a ≤ b) → leb a b ≡ leb c d
same_leb a b c d f g =
    ⊎_elim
    (λ h. le-leb a b h ∙ sym (le-leb c d (f h)))
    (λ h. lt-leb a b h ∙ sym (lt-leb c d (⊎_elim (λ k. absurd (omega (arith, g k))) (λ k. k) (le_or_lt c d))))
    (le_or_lt a b)

many_is : (g c : ℕ) (bs : List ℕ)
    → read_many (group_at g).octets c bs ≡ (need leb (c * (group_at g).octets) (length bs) or 9 then ok (part_numbers 0 g c bs, drop (c * (group_at g).octets) bs))
unfolding read_many read_num part_numbers ◌>>=◌ need◌or◌then◌
many_is g zero bs = rw (zero-mul (group_at g).octets, leb-zero (length bs))
many_is g (suc c) bs =
    let k = (group_at g).octets in
    ⊎_elim
    (λ (h : k ≤ length bs).
    let m : leb (c * k) (length (drop k bs)) ≡ leb (suc c * k) (length bs) =
    same_leb (c * k) (length (drop k bs)) (suc c * k) (length bs) (λ l. omega (arith, l, length-drop k bs)) (λ l. omega (arith, l, length-drop k bs)) in
    let a : k + c * k ≡ suc c * k = omega arith in
    let d : drop (c * k) (drop k bs) ≡ drop (suc c * k) bs = drop-drop (c * k) k bs ∙ ap (λ j. drop j bs) a in
    rw (le-leb k (length bs) h, many_is g c (drop k bs), m, d, add-zero g, div-one (joined (take k bs)))
    (need_bind (leb (suc c * k) (length bs)) 9 (ok (part_numbers 0 g c (drop k bs), drop (suc c * k) bs)) _))
    (λ (h : length bs < k).
    rw (lt-leb k (length bs) h, lt-leb (suc c * k) (length bs) (omega arith)))
    (le_or_lt k (length bs))

pub span_equal : (g c : ℕ) → span 0 g c ≡ c * (group_at g).octets
unfolding span
span_equal g zero = sym (zero-mul (group_at g).octets)
span_equal g (suc c) = rw (add-zero g, span_equal g c) (omega arith)

-- of one octet each
many_one : (g c : ℕ) (bs : List ℕ) → (group_at g).octets ≡ 1 → read_many 1 c bs ≡ (need leb c (length bs) or 9 then ok (part_numbers 0 g c bs, drop c bs))
many_one g c bs one = rw mul-one at (rw one at (many_is g c bs))

span_one : (g c : ℕ) → (group_at g).octets ≡ 1 → span 0 g c ≡ c
span_one g c one = span_equal g c ∙ ap (λ x. c * x) one ∙ mul-one c

grouping_equal : (g c hi : ℕ) (fs : List Field) → fs ≡ fields_at g → c ≤ hi → Grouping 0 g c (replicate hi fs)
unfolding Grouping
grouping_equal g zero hi fs e h = tt
grouping_equal g (suc c) zero fs e h = absurd (not-suc-le-zero h)
grouping_equal g (suc c) (suc hi) fs e h = (e, subst (λ x. Grouping 0 x c (replicate hi fs)) (sym (add-zero g)) (grouping_equal g c hi fs e (le_of_suc-le-suc h)))

-- ---- an item whose octets are there

-- all refusals of a field are 11
pub data Eleven {A : Type 0} (m : Answer A) : Type 0 where
  fine : (a : A) → m ≡ ok a → Eleven m
  eleven : m ≡ refused 11 0 → Eleven m

eleven_need : {A : Type 0} (t : Bool) (x : Answer A) → Eleven x → Eleven (need t or 11 then x)
unfolding need◌or◌then◌
eleven_need true x e = e
eleven_need false x e = eleven refl

eleven_bind : {A B : Type 0} (m : Answer A) (f : A → Answer B) → Eleven m → ((a : A) → Eleven (f a)) → Eleven (m >>= f)
unfolding ◌>>=◌
eleven_bind m f (fine a e) h = rw e (h a)
eleven_bind m f (eleven e) h = rw e (eleven refl)

eleven_get : (w c : ℕ) (k : Kind) → Eleven (get w k c)
unfolding get when◌then◌else◌
eleven_get w c (unsigned lo hi) = eleven_need _ _ (eleven_need _ _ (fine _ refl))
eleven_get w c (signed lo hi) = go (ltb c (half w))
  where
    go : (t : Bool) → Eleven (when t then need leb c hi or 11 then ok (pos c) else need ltb c (half w + half w) or 11 then need ltb (half w + half w - suc c) lo or 11 then ok (negsuc (half w + half w - suc c)))
    go true = eleven_need _ _ (fine _ refl)
    go false = eleven_need _ _ (eleven_need _ _ (fine _ refl))

eleven_unpack : (fs : List Field) (n : ℕ) → Eleven (unpack fs n)
unfolding unpack
eleven_unpack [] n = eleven_need _ _ (fine _ refl)
eleven_unpack (spare w ∷ fs) n = eleven_need _ _ (eleven_unpack fs _)
eleven_unpack (value w k ∷ fs) n = eleven_bind _ _ (eleven_get w _ k) (λ v. eleven_need _ _ (eleven_bind _ _ (eleven_unpack fs _) (λ vs. fine _ refl)))

-- more parts than there may be
too_many : (gs : List (List Field)) (ns : List ℕ) → length gs < length ns → unpack_all gs ns ≡ refused 11 0
unfolding unpack_all ◌>>=◌
too_many gs [] h = absurd (not-suc-le-zero h)
too_many [] (n ∷ ns) h = refl
too_many (fs ∷ gs) (n ∷ ns) h = go (eleven_unpack fs n) (too_many gs ns (le_of_suc-le-suc h))
  where
    go : Eleven (unpack fs n) → unpack_all gs ns ≡ refused 11 0 → (unpack fs n >>= (λ v. unpack_all gs ns >>= (λ vs. ok (v ∷ vs)))) ≡ refused 11 0
    go (fine v e) t = rw (e, t)
    go (eleven e) t = rw e

-- the fields of a part refuse at the item's start
fault_start : (step g c at : ℕ) (bs : List ℕ) → fault_at step g c at bs ≡ 0
unfolding fault_at
fault_start step g c at bs = refl

need_with : {A B : Type 0} (t : Bool) (a : A) (b : B) {p : ℕ} → p ≡ 0 → ◌>>=◌ {B = A × B} (need t or 11 then ok a) (λ x. ok (x, b)) ≡ (need t or 11 further p then ok (a, b))
unfolding need◌or◌then◌ need◌or◌further◌then◌ ◌>>=◌
need_with true a b e = refl
need_with false a b e = ap (refused 11) (sym e)

pub further_elim : {A C : Type 0} (t : Bool) (n p : ℕ) (x : Answer A) {a : A} → (need t or n further p then x) ≡ ok a → (t ≡ true → x ≡ ok a → C) → C
unfolding need◌or◌further◌then◌
further_elim true n p x h k = k refl h
further_elim false n p x h k = refused_ok h

module _ (l : Format) (bs : List ℕ) where
  stopped : (n p : ℕ) → read_parts l bs ≡ refused n p → read_plain l bs ≡ refused n p
  unfolding read_plain ◌>>=◌
  stopped n p e = rw e

  too_few : (ns rest : List ℕ) → read_parts l bs ≡ ok (ns, rest) → length ns < least l → read_plain l bs ≡ refused 11 0
  unfolding read_plain ◌>>=◌ need◌or◌then◌
  too_few ns rest e h = rw (e, lt-leb (least l) (length ns) h)

  past_groups : (ns rest : List ℕ) → read_parts l bs ≡ ok (ns, rest) → least l ≤ length ns → length (groups l) < length ns → read_plain l bs ≡ refused 11 0
  unfolding read_plain ◌>>=◌ need◌or◌then◌
  past_groups ns rest e h k = rw (e, le-leb (least l) (length ns) h, too_many (groups l) ns k)

  all_there : (step g c at : ℕ) (ds rest : List ℕ) → read_parts l bs ≡ ok (part_numbers step g c ds, rest) → least l ≤ c → Octets ds → parts_sound step g c ≡ true → span step g c ≤ length ds
      → Grouping step g c (groups l) → read_plain l bs ≡ (need parts_legal step g c ds or 11 further fault_at step g c at bs then ok (part_values step g c ds, rest))
  unfolding read_plain ◌>>=◌ need◌or◌then◌
  all_there step g c at ds rest e h o s k u =
      rw (e, le-leb (least l) (length (part_numbers step g c ds)) (subst (λ x. least l ≤ x) (sym (length_numbers step g c ds)) h), unpacked step g c (groups l) ds o s k u)
      (need_with (parts_legal step g c ds) (part_values step g c ds) rest (fault_start step g c at bs))

-- fewer parts
pub parts_fewer : (step g c d : ℕ) → c ≤ d → parts_sound step g d ≡ true → parts_sound step g c ≡ true
unfolding parts_sound
parts_fewer step g zero d h e = refl
parts_fewer step g (suc c) zero h e = absurd (not-suc-le-zero h)
parts_fewer step g (suc c) (suc d) h e =
    let a = ltb g group_count && part_sound step (group_at g) in
    rw (both_left a (parts_sound step (g + step) d) e) (parts_fewer step (g + step) c d (le_of_suc-le-suc h) (both_right a (parts_sound step (g + step) d) e))

-- the octet before the parts
head_is : (bs : List ℕ) → 1 ≤ length bs → read_num 9 1 bs ≡ ok (get_or bs 0 0, drop 1 bs)
unfolding read_num joined need◌or◌then◌
head_is [] h = absurd (not-suc-le-zero h)
head_is (b ∷ bs) h =
    let e : b * 1 + 0 ≡ b = omega arith in
    rw (le-leb 1 (suc (length bs)) h, e)

no_head_lem : (bs : List ℕ) → length bs < 1 → read_num 9 1 bs ≡ refused 9 0
unfolding read_num need◌or◌then◌
no_head_lem bs h = rw (lt-leb 1 (length bs) h)

octet_small : (bs : List ℕ) → Octets bs → get_or bs 0 0 < 256
octet_small [] o = lit< tt
octet_small (b ∷ bs) o = o.0

octet_is : (fs : List Field) → is_octet fs ≡ true → fs ≡ any 8 ∷ []
octet_is [] e = absurd (false≢true e)
octet_is (spare w ∷ fs) e = absurd (false≢true e)
octet_is (value w (unsigned lo hi) ∷ []) e =
    let u = both_left (eqb w 8 && eqb lo 0) (eqb hi 255) e in
    let a : w ≡ 8 = eqb-true w 8 (both_left (eqb w 8) (eqb lo 0) u) in
    let b : lo ≡ 0 = eqb-true lo 0 (both_right (eqb w 8) (eqb lo 0) u) in
    let c : hi ≡ 255 = eqb-true hi 255 (both_right (eqb w 8 && eqb lo 0) (eqb hi 255) e) in
    rw (a, b, c)
octet_is (value w (unsigned lo hi) ∷ (f ∷ fs)) e = absurd (false≢true e)
octet_is (value w (signed lo hi) ∷ fs) e = absurd (false≢true e)

-- ---- parts with an FX bit

abbrev all_groups : List Group
all_groups = map group_is (group_rows 0 t.groups)

all_groups_lem : length all_groups ≡ group_count
all_groups_lem = length-map (group_rows 0 t.groups) group_is ∙ groups_long

groups_cons : (g e : ℕ) → g < e → e ≤ group_count → slice g e all_groups ≡ group_is (group_at g) ∷ slice (g + 1) e all_groups
unfolding group_at
groups_cons g e h k =
    rw (add-one g)
    (slice-cons g e all_groups (group_is no_group_row) h (subst (λ n. e ≤ n) (sym all_groups_lem) k)
    ∙ ap (λ x. x ∷ slice (suc g) e all_groups) (get_or-map group_is (group_rows 0 t.groups) g no_group_row))

-- what a chain's shape says of its parts
chain_parts : ℕ → List ℕ → Shaped → Answer (List ℕ × List ℕ)
chain_parts g bs s = ok (part_numbers 1 g s.0 bs, drop s.1 bs)

chain_next : (g : ℕ) (bs : List ℕ) (m : Answer Shaped)
    → ◌>>=◌ {B = List ℕ × List ℕ} (m >>= chain_parts (g + 1) (drop (group_at g).octets bs)) (λ x. ok (part_at 1 g bs ∷ x.0, x.1))
    ≡ (◌>>=◌ {B = Shaped} m (λ s. ok (s.0 + 1, s.1 + (group_at g).octets)) >>= chain_parts g bs)
unfolding ◌>>=◌ chain_parts part_numbers
chain_next g bs (ok s) =
    let c : (group_at g).octets + s.1 ≡ s.1 + (group_at g).octets = omega arith in
    rw (add-one s.0, drop-drop s.1 (group_at g).octets bs, c)
chain_next g bs (refused n p) = refl

chain_is : (n g e : ℕ) (bs : List ℕ) → g + n ≡ e → e ≤ group_count → read_chain 9 6 (map (λ x. x.size) (slice g e all_groups)) bs ≡ (chain g n bs >>= chain_parts g bs)
unfolding chain read_chain read_num chain_parts part_numbers ◌>>=◌ need◌or◌then◌ when◌then◌else◌
chain_is zero g e bs h k =
    let j : g ≡ e = omega arith in
    rw (j, slice_empty e all_groups)
chain_is (suc n) g e bs h k =
    let j = (group_at g).octets in
    let m : g + 1 + n ≡ e = omega arith in
    rw (groups_cons g e (omega arith) k)
    (⊎_elim
    (λ (l : j ≤ length bs). rw (le-leb j (length bs) l) (go (eqb (joined (take j bs) % 2) 0) (chain_is n (g + 1) e (drop j bs) m k)))
    (λ (l : length bs < j). rw (lt-leb j (length bs) l))
    (le_or_lt j (length bs)))
  where
    go : (t : Bool) → read_chain 9 6 (map (λ x. x.size) (slice (g + 1) e all_groups)) (drop (group_at g).octets bs) ≡ (chain (g + 1) n (drop (group_at g).octets bs) >>= chain_parts (g + 1) (drop (group_at g).octets bs))
        → (when t then ok (part_at 1 g bs ∷ [], drop (group_at g).octets bs)
        else ◌>>=◌ {B = List ℕ × List ℕ} (read_chain 9 6 (map (λ x. x.size) (slice (g + 1) e all_groups)) (drop (group_at g).octets bs)) (λ x. ok (part_at 1 g bs ∷ x.0, x.1)))
        ≡ ((when t then ok (1, (group_at g).octets) else ◌>>=◌ {B = Shaped} (chain (g + 1) n (drop (group_at g).octets bs)) (λ s. ok (s.0 + 1, s.1 + (group_at g).octets))) >>= chain_parts g bs)
    go true r = refl
    go false r = rw r (chain_next g bs (chain (g + 1) n (drop (group_at g).octets bs)))

-- the parts that a chain has
pub record Chained (g n c long : ℕ) (bs : List ℕ) : Type 0 where
  pub some : 1 ≤ c
  pub few : c ≤ n
  pub spans : span 1 g c ≡ long
  pub there : long ≤ length bs

pub chained : (n g : ℕ) (bs : List ℕ) (s : Shaped) → chain g n bs ≡ ok s → Chained g n s.0 s.1 bs
unfolding chain span
chained zero g bs s h = refused_ok h
chained (suc n) g bs s h =
    need_elim (leb (group_at g).octets (length bs)) 9 _ h λ l h₁.
    ⊎_elim
    (λ (t, u). one l (ok_inj u))
    (λ (t, u). bind_elim (chain (g + 1) n (drop (group_at g).octets bs)) _ u λ x p h₂. more x l (chained n (g + 1) (drop (group_at g).octets bs) x p) (ok_inj h₂))
    (if_inv (eqb (joined (take (group_at g).octets bs) % 2) 0) _ _ h₁)
  where
    one : T (leb (group_at g).octets (length bs)) → ◌≡◌ {A = Shaped} (1, (group_at g).octets) s → Chained g (suc n) s.0 s.1 bs
    one l e = subst (λ (x : Shaped). Chained g (suc n) x.0 x.1 bs) e (record { some = lit≤ tt; few = omega arith; spans = add-zero (group_at g).octets; there = leb→le _ _ l })

    more : (x : Shaped) → T (leb (group_at g).octets (length bs)) → Chained (g + 1) n x.0 x.1 (drop (group_at g).octets bs) → ◌≡◌ {A = Shaped} (x.0 + 1, x.1 + (group_at g).octets) s → Chained g (suc n) s.0 s.1 bs
    more x l d e =
        let h : (group_at g).octets ≤ length bs = leb→le _ _ l in
        subst (λ (y : Shaped). Chained g (suc n) y.0 y.1 bs) e
        (record {
          some = omega arith;
          few = omega (arith, d.few);
          spans = rw (add-one x.0, d.spans) (omega arith);
          there = omega (arith, d.there, length-drop (group_at g).octets bs);
        })

grouping_chain : (c g e : ℕ) → g + c ≤ e → e ≤ group_count → Grouping 1 g c (map (λ x. x.fields) (slice g e all_groups))
unfolding Grouping
grouping_chain zero g e h k = tt
grouping_chain (suc c) g e h k = rw (groups_cons g e (omega arith) k) (refl, grouping_chain c (g + 1) e (omega arith) k)

-- ---- by how the parts lie

module _ (lo hi a e : ℕ) (bs : List ℕ) (o : Octets bs) where
  -- one part
  fixed_reads : parts_sound 0 a 1 ≡ true → read_plain (fixed (group_is (group_at a))) bs ≡ read_kind Fixed lo hi a e bs
  unfolding shape_by read_parts Grouping need◌or◌then◌ ◌>>=◌
  fixed_reads s =
      let k = (group_at a).octets in
      let j : 1 * k ≡ k = omega arith in
      let m = rw j at (many_is a 1 bs) in
      ⊎_elim
      (λ (h : k ≤ length bs).
      let r : read_parts (fixed (group_is (group_at a))) bs ≡ ok (part_numbers 0 a 1 bs, drop k bs) = rw (m, le-leb k (length bs) h) in
      all_there (fixed (group_is (group_at a))) bs 0 a 1 0 bs (drop k bs) r (lit≤ tt) o s (omega (arith, span_equal a 1)) (refl, tt)
      ∙ rw (le-leb k (length bs) h))
      (λ (h : length bs < k).
      stopped (fixed (group_is (group_at a))) bs 9 0 (rw (m, lt-leb k (length bs) h)) ∙ rw (lt-leb k (length bs) h))
      (le_or_lt k (length bs))

  -- a count octet and parts
  list_reads : parts_sound 0 a hi ≡ true → read_plain (repeated lo hi (group_is (group_at a))) bs ≡ read_kind Repeated lo hi a e bs
  unfolding shape_by list_shape read_parts need◌or◌then◌ ◌>>=◌
  list_reads s =
      let l = repeated lo hi (group_is (group_at a)) in
      let k = (group_at a).octets in
      let c = get_or bs 0 0 in
      let ds = drop 1 bs in
      ⊎_elim
      (λ (h : 1 ≤ length bs).
      let long : length ds ≡ length bs - 1 = length-drop 1 bs in
      ⊎_elim
      (λ (h₁ : 1 + c * k ≤ length bs).
      let r : read_parts l bs ≡ ok (part_numbers 0 a c ds, drop (c * k) ds) = rw (head_is bs h, many_is a c ds, le-leb (c * k) (length ds) (omega arith)) in
      let d : drop (c * k) ds ≡ drop (1 + c * k) bs = drop-drop (c * k) 1 bs in
      ⊎_elim
      (λ (h₂ : lo ≤ c).
      ⊎_elim
      (λ (h₃ : c ≤ hi).
      all_there l bs 0 a c 1 ds (drop (c * k) ds) r h₂ (octets_drop 1 bs o) (parts_fewer 0 a c hi h₃ s) (omega (arith, span_equal a c)) (grouping_equal a c hi (fields_at a) refl h₃)
      ∙ rw (le-leb 1 (length bs) h, le-leb (1 + c * k) (length bs) h₁, le-leb lo c h₂, le-leb c hi h₃, d))
      (λ (h₃ : hi < c).
      past_groups l bs (part_numbers 0 a c ds) (drop (c * k) ds) r (rw (length_numbers 0 a c ds) h₂) (rw (length_numbers 0 a c ds, length-replicate hi (fields_at a)) h₃)
      ∙ rw (le-leb 1 (length bs) h, le-leb (1 + c * k) (length bs) h₁, le-leb lo c h₂, lt-leb c hi h₃))
      (le_or_lt c hi))
      (λ (h₂ : c < lo).
      too_few l bs (part_numbers 0 a c ds) (drop (c * k) ds) r (rw (length_numbers 0 a c ds) h₂)
      ∙ rw (le-leb 1 (length bs) h, le-leb (1 + c * k) (length bs) h₁, lt-leb lo c h₂))
      (le_or_lt lo c))
      (λ (h₁ : length bs < 1 + c * k).
      stopped l bs 9 0 (rw (head_is bs h, many_is a c ds, lt-leb (c * k) (length ds) (omega arith)))
      ∙ rw (le-leb 1 (length bs) h, lt-leb (1 + c * k) (length bs) h₁))
      (le_or_lt (1 + c * k) (length bs)))
      (λ (h : length bs < 1). stopped l bs 9 0 (rw (no_head_lem bs h)) ∙ rw (lt-leb 1 (length bs) h))
      (le_or_lt 1 (length bs))

  -- a length octet and contents
  led_reads : parts_sound 0 a 254 ≡ true → (group_at a).octets ≡ 1 → is_octet (fields_at a) ≡ true → read_plain (led lo) bs ≡ read_kind Led lo hi a e bs
  unfolding shape_by read_parts need◌or◌then◌ ◌>>=◌
  led_reads s one oct =
      let l = led lo in
      let c = get_or bs 0 0 in
      let ds = drop 1 bs in
      let m = many_one a (c - 1) ds one in
      ⊎_elim
      (λ (h : 1 ≤ length bs).
      let long : length ds ≡ length bs - 1 = length-drop 1 bs in
      ⊎_elim
      (λ (h₁ : suc lo ≤ c).
      ⊎_elim
      (λ (h₂ : c ≤ length bs).
      let r : read_parts l bs ≡ ok (part_numbers 0 a (c - 1) ds, drop (c - 1) ds) = rw (head_is bs h, lt-ltb lo c h₁, m, le-leb (c - 1) (length ds) (omega arith)) in
      let j : 1 + (c - 1) ≡ c = omega arith in
      let d : drop (c - 1) ds ≡ drop c bs = drop-drop (c - 1) 1 bs ∙ ap (λ x. drop x bs) j in
      let few : c - 1 ≤ 254 = omega (arith, octet_small bs o) in
      all_there l bs 0 a (c - 1) 1 ds (drop (c - 1) ds) r (omega arith) (octets_drop 1 bs o) (parts_fewer 0 a (c - 1) 254 few s) (omega (arith, span_one a (c - 1) one))
      (grouping_equal a (c - 1) 254 (any 8 ∷ []) (sym (octet_is (fields_at a) oct)) few)
      ∙ rw (le-leb 1 (length bs) h, lt-ltb lo c h₁, le-leb c (length bs) h₂, d))
      (λ (h₂ : length bs < c).
      stopped l bs 9 0 (rw (head_is bs h, lt-ltb lo c h₁, m, lt-leb (c - 1) (length ds) (omega arith)))
      ∙ rw (le-leb 1 (length bs) h, lt-ltb lo c h₁, lt-leb c (length bs) h₂))
      (le_or_lt c (length bs)))
      (λ (h₁ : c < suc lo).
      stopped l bs 10 0 (rw (head_is bs h, le-ltb lo c (le_of_suc-le-suc h₁)))
      ∙ rw (le-leb 1 (length bs) h, le-ltb lo c (le_of_suc-le-suc h₁)))
      (le_or_lt (suc lo) c))
      (λ (h : length bs < 1). stopped l bs 9 0 (rw (no_head_lem bs h)) ∙ rw (lt-leb 1 (length bs) h))
      (le_or_lt 1 (length bs))

  -- parts as far as the FX bits say
  chain_reads : parts_sound 1 a hi ≡ true → a + hi ≡ e → e ≤ group_count → read_plain (extended (slice a e all_groups)) bs ≡ read_kind Extended lo hi a e bs
  unfolding shape_by read_parts chain_parts ◌>>=◌
  chain_reads s h k = go (chain a (e - a) bs) refl
    where
      l : Format
      l = extended (slice a e all_groups)

      parts_are : read_parts l bs ≡ (chain a (e - a) bs >>= chain_parts a bs)
      parts_are = chain_is (e - a) a e bs (omega arith) k

      go : (m : Answer Shaped) → chain a (e - a) bs ≡ m → read_plain l bs ≡ read_kind Extended lo hi a e bs
      go (ok x) q =
          let d : Chained a (e - a) x.0 x.1 bs = chained (e - a) a bs x q in
          all_there l bs 1 a x.0 0 bs (drop x.1 bs) (parts_are ∙ rw q) d.some o (parts_fewer 1 a x.0 hi (omega (arith, d.few)) s) (omega (arith, d.spans, d.there))
          (grouping_chain x.0 a e (omega (arith, d.few)) k)
          ∙ rw q
      go (refused n p) q = stopped l bs n p (parts_are ∙ rw q) ∙ rw q

-- ---- an item by its row is the rules' item

pub reads : (l : LayoutRow) (i : Format) (bs : List ℕ) → row_sound l ≡ true → format_is l ≡ some i → Octets bs → read_plain i bs ≡ read_by l bs
unfolding format_is format_by read_by
reads l i bs s h o = go l.kind refl
  where
    r : Rowed l
    r = rowed l s

    by : (k : LayoutKind) → l.kind ≡ k → format_by k l.least l.most (group_is (group_at l.first)) (slice l.first l.end all_groups) ≡ some i
    by k e = subst (λ x. format_by x l.least l.most (group_is (group_at l.first)) (slice l.first l.end all_groups) ≡ some i) e h

    at_kind : (k : LayoutKind) (j : Format) → l.kind ≡ k → some j ≡ some i → read_plain j bs ≡ read_kind k l.least l.most l.first l.end bs → read_plain i bs ≡ read_kind l.kind l.least l.most l.first l.end bs
    at_kind k j e f g = ap (λ x. read_plain x bs) (sym (some_inj f)) ∙ g ∙ ap (λ x. read_kind x l.least l.most l.first l.end bs) (sym e)

    sound : (k : LayoutKind) (n : ℕ) → l.kind ≡ k → l.most ≡ n → parts_sound (step_of k) l.first n ≡ true
    sound k n e f = subst (λ x. parts_sound (step_of k) l.first x ≡ true) f (subst (λ x. parts_sound (step_of x) l.first l.most ≡ true) e r.parts)

    go : (k : LayoutKind) → l.kind ≡ k → read_plain i bs ≡ read_kind l.kind l.least l.most l.first l.end bs
    go NoItem e = none_some (by NoItem e)
    go Fixed e = at_kind Fixed (fixed (group_is (group_at l.first))) e (by Fixed e) (fixed_reads l.least l.most l.first l.end bs o (sound Fixed 1 e (fixed_one l r e)))
    go Repeated e = at_kind Repeated (repeated l.least l.most (group_is (group_at l.first))) e (by Repeated e) (list_reads l.least l.most l.first l.end bs o (sound Repeated l.most e refl))
    go Led e =
        at_kind Led (led l.least) e (by Led e) (led_reads l.least l.most l.first l.end bs o (sound Led 254 e (led_many l r e)) (led_size l r e) (led_octet l r e))
    go Extended e =
        at_kind Extended (extended (slice l.first l.end all_groups)) e (by Extended e)
        (chain_reads l.least l.most l.first l.end bs o (sound Extended l.most e refl) (chain_ends l r e) (chain_inside l r e))
    go Compound e = none_some (by Compound e)

-- ---- what a shape says of the parts: they are there, in the tables and in the item

pub record Fitting (l : LayoutRow) (bs : List ℕ) (c long : ℕ) : Type 0 where
  pub few : c ≤ l.most
  pub sound : parts_sound (step_of l.kind) l.first c ≡ true
  pub room : holds (step_of l.kind) l.first c ≤ 8_192
  pub spans : head_of l.kind + span (step_of l.kind) l.first c ≡ long
  pub there : long ≤ length bs

-- fewer parts have fewer values
pub holds_fewer : (step g c d : ℕ) → c ≤ d → holds step g c ≤ holds step g d
unfolding holds
holds_fewer step g zero d h = zero-le
holds_fewer step g (suc c) zero h = absurd (not-suc-le-zero h)
holds_fewer step g (suc c) (suc d) h = omega (arith, holds_fewer step (g + step) c d (le_of_suc-le-suc h))

-- the number of parts is one that the layout allows
record Counted (k : LayoutKind) (hi a : ℕ) (bs : List ℕ) (c long : ℕ) : Type 0 where
  few : c ≤ hi
  spans : head_of k + span (step_of k) a c ≡ long
  there : long ≤ length bs

fixed_counted : (lo hi a e : ℕ) (bs : List ℕ) (s : Shaped) → hi ≡ 1 → shape_by Fixed lo hi a e bs ≡ ok s → Counted Fixed hi a bs s.0 s.1
unfolding shape_by
fixed_counted lo hi a e bs s h q =
    need_elim (leb (group_at a).octets (length bs)) 9 _ q λ t u.
    subst (λ (x : Shaped). Counted Fixed hi a bs x.0 x.1) (ok_inj u)
    (record { few = omega arith; spans = omega (arith, span_equal a 1); there = leb→le _ _ t })

list_counted : (lo hi a e : ℕ) (bs : List ℕ) (s : Shaped) → shape_by Repeated lo hi a e bs ≡ ok s → Counted Repeated hi a bs s.0 s.1
unfolding shape_by list_shape
list_counted lo hi a e bs s q =
    need_elim _ 9 _ q λ t₀ u₀.
    need_elim _ 9 _ u₀ λ t₁ u₁.
    need_elim _ 11 _ u₁ λ t₂ u₂.
    need_elim _ 11 _ u₂ λ t₃ u₃.
    subst (λ (x : Shaped). Counted Repeated hi a bs x.0 x.1) (ok_inj u₃)
    (record { few = leb→le _ _ t₃; spans = ap (λ x. 1 + x) (span_equal a (get_or bs 0 0)); there = leb→le _ _ t₁ })

led_counted : (lo hi a e : ℕ) (bs : List ℕ) (s : Shaped) → Octets bs → hi ≡ 254 → (group_at a).octets ≡ 1 → shape_by Led lo hi a e bs ≡ ok s → Counted Led hi a bs s.0 s.1
unfolding shape_by
led_counted lo hi a e bs s o h one q =
    need_elim _ 9 _ q λ t₀ u₀.
    need_elim _ 10 _ u₀ λ t₁ u₁.
    need_elim _ 9 _ u₁ λ t₂ u₂.
    let k : lo < get_or bs 0 0 = ltb→lt _ _ t₁ in
    subst (λ (x : Shaped). Counted Led hi a bs x.0 x.1) (ok_inj u₂)
    (record {
      few = omega (arith, octet_small bs o);
      spans = omega (arith, span_one a (get_or bs 0 0 - 1) one);
      there = leb→le _ _ t₂;
    })

chain_counted : (lo hi a e : ℕ) (bs : List ℕ) (s : Shaped) → a + hi ≡ e → shape_by Extended lo hi a e bs ≡ ok s → Counted Extended hi a bs s.0 s.1
unfolding shape_by
chain_counted lo hi a e bs s h q =
    let d : Chained a (e - a) s.0 s.1 bs = chained (e - a) a bs s q in
    record { few = omega (arith, d.few); spans = omega (arith, d.spans); there = d.there }

none_counted : (lo hi a e : ℕ) (bs : List ℕ) (s : Shaped) {C : Type 0} → shape_by NoItem lo hi a e bs ≡ ok s → C
unfolding shape_by
none_counted lo hi a e bs s q = refused_ok q

compound_counted : (lo hi a e : ℕ) (bs : List ℕ) (s : Shaped) {C : Type 0} → shape_by Compound lo hi a e bs ≡ ok s → C
unfolding shape_by
compound_counted lo hi a e bs s q = refused_ok q

pub fitting : (l : LayoutRow) (bs : List ℕ) (s : Shaped) → row_sound l ≡ true → Octets bs → shape_of l bs ≡ ok s → Fitting l bs s.0 s.1
unfolding shape_of
fitting l bs s h o q =
    let d : Counted l.kind l.most l.first bs s.0 s.1 = go l.kind refl in
    record {
      few = d.few;
      sound = parts_fewer (step_of l.kind) l.first s.0 l.most d.few r.parts;
      room = le_trans (holds_fewer (step_of l.kind) l.first s.0 l.most d.few) r.room;
      spans = d.spans;
      there = d.there;
    }
  where
    r : Rowed l
    r = rowed l h

    by : (k : LayoutKind) → l.kind ≡ k → shape_by k l.least l.most l.first l.end bs ≡ ok s
    by k e = subst (λ x. shape_by x l.least l.most l.first l.end bs ≡ ok s) e q

    back : (k : LayoutKind) → l.kind ≡ k → Counted k l.most l.first bs s.0 s.1 → Counted l.kind l.most l.first bs s.0 s.1
    back k e d = subst (λ x. Counted x l.most l.first bs s.0 s.1) (sym e) d

    go : (k : LayoutKind) → l.kind ≡ k → Counted l.kind l.most l.first bs s.0 s.1
    go NoItem e = none_counted l.least l.most l.first l.end bs s (by NoItem e)
    go Fixed e = back Fixed e (fixed_counted l.least l.most l.first l.end bs s (fixed_one l r e) (by Fixed e))
    go Repeated e = back Repeated e (list_counted l.least l.most l.first l.end bs s (by Repeated e))
    go Led e = back Led e (led_counted l.least l.most l.first l.end bs s o (led_many l r e) (led_size l r e) (by Led e))
    go Extended e = back Extended e (chain_counted l.least l.most l.first l.end bs s (chain_ends l r e) (by Extended e))
    go Compound e = compound_counted l.least l.most l.first l.end bs s (by Compound e)
