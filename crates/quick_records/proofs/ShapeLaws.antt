-- A record of a known shape is legal: its FSPEC, its message type, and its items as far as the shape goes.
--
-- In order: octets as a number; the FSPEC; the message type; the item that is looked into; runs of free items; the walk; the record. Assumes nothing.
use Rattle.std.specs.Prelude.{Some, Ok}
use Prim.Native.Nat.{ℕ, zero, suc, ◌+◌, ◌-◌, ◌*◌, ◌/◌, ◌%◌, ◌^◌, ◌≤◌, ◌<◌}
use mathlib.Core.Path.{◌≡◌, refl, sym, ap, ap₂, ◌∙◌, subst}
use mathlib.Core.Bool.{Bool, true, false, cond, not, ◌&&◌, ◌||◌, false≢true}
use mathlib.Core.List.{List, [], ◌∷◌, ◌++◌}
use native.Mathlib.Omega.{arith}
use native.Mathlib.Nat.{add-zero, add_assoc, mul-zero}
use lib.Dec.{leb, ltb, eqb}
use lib.ListN.{length, take, drop, get_or, length-drop, take-append-drop}
use lib.Seq.{drop-drop, get_or-drop}
use lib.Pow.{field, mod-mod-pow}
use mir.Syntax.{w8}
use mir.Val.{Fits}
use borrow.Author.Tests.{leb-true, ltb-true, eqb-true}
use Rattle.rules.specs.Answer.{Answer, ok, refused, when◌then◌else◌}
use Rattle.rules.specs.Presence.{flags, number}
use Rattle.rules.proofs.AnswerLaws.{refused_ok, both_left, both_right, Octets, octets_drop, to_end}
use Rattle.rules.proofs.PresenceLaws.{flags_length, flags_number, number_lt}
use Rattle.tables.specs.declared.tables.LayoutRow.{LayoutRow}
use Rattle.layouts.specs.Read.{whole_size, row_sound}
use Rattle.tables.specs.Tables.{profile_count, frn_count, layout_at, place_row_at}
use Rattle.layouts.proofs.SoundLaws.{layout_sound}
use Rattle.tables.proofs.TableLaws.{place_row_lem, all_below_lem}
use Rattle.items.specs.Answers.{check_at}
use Rattle.items.proofs.CheckLaws.{whole_check}
use Rattle.sets.specs.Sets.{category_at, set_at, within}
use Rattle.records.specs.Walk.{Came, passed, walk, start_at}
use Rattle.sets.specs.Steps.{row_at, judge_set, ended, set_from}
use Rattle.sets.proofs.SetLaws.{set_law, octets_all}
use Rattle.records.proofs.WalkLaws.{walk_none, walk_skip}
use Rattle.tables.specs.Tests.{all_below}
use Rattle.quick_items.specs.Item.{first_three, asks, sound_single, sound_counted}
use Rattle.quick_records.specs.Record.{row_count, type_sets, must_at, may_at, free, has_front, front_octets, type_at, Typed, Content, Goes, Later, Walks, Passed, end_at}
use Rattle.quick_records.specs.Shape.{shape_count, set_count, low_number, low_octets, used_of, start_of, tail_of, profile_of, types_of, word_of, place_of, sound_type, sound_mask, is_free, run_sum, run_left, sound_special, sound_first, sound_then, sound_items, sound_front, shape_by, bounded, sound_shape, sound_shape_at, sound_sets, Front, Listed, OfType}
use Rattle.quick_items.proofs.ItemLaws.{octet_at, cut, free_check, ruled_told, counted_told, other}
use Rattle.quick_records.proofs.RecordLaws.{one, none_here, kind_stays, Skipped, third, first_three_lem, third_here, third_kind, seven, content, quick_whole}

octet_here : (n : ℕ) (xs bs : List ℕ) → xs ≡ drop n bs → get_or xs 0 0 ≡ get_or bs n 0
octet_here n xs bs e = ap (λ l. get_or l 0 0) e ∙ get_or-drop n bs 0 0 ∙ ap (λ y. get_or bs y 0) (add-zero n)

type_here : (n m c : ℕ) (bs : List ℕ) → c ≡ get_or bs (n + m) 0 → c ≡ get_or (take (length bs - n) (drop n bs)) m 0
type_here n m c bs e = e ∙ sym (ap (λ l. get_or l m 0) (to_end bs n) ∙ get_or-drop n bs m 0)

-- ---- octets as a number, the first one lowest

low_octets_lem : (n m : ℕ) (bs : List ℕ) → Octets bs → n ≤ m → m ≤ length bs → low_octets n (low_number m bs) ≡ take n bs
low_octets_lem zero m bs o h l = refl
low_octets_lem (suc n) zero bs o h l = absurd (omega arith)
low_octets_lem (suc n) (suc m) [] o h l = absurd (omega arith)
low_octets_lem (suc n) (suc m) (b ∷ bs) o h l =
    let e : (b + low_number m bs * 256) % 256 ≡ b = omega (arith, o.0) in
    let d : (b + low_number m bs * 256) / 256 ≡ low_number m bs = omega (arith, o.0) in
    ap₂ ◌∷◌ e (ap (low_octets n) d ∙ low_octets_lem n m bs o.1 (omega arith) (omega arith))

same_octets : (n x y : ℕ) → x % 2 ^ (8 * n) ≡ y % 2 ^ (8 * n) → low_octets n x ≡ low_octets n y
same_octets zero x y h = refl
same_octets (suc n) x y h =
    let e : 8 * suc n ≡ 8 * n + 8 = omega arith in
    let g : x % 2 ^ (8 * n + 8) ≡ y % 2 ^ (8 * n + 8) = subst (λ k. x % 2 ^ k ≡ y % 2 ^ k) e h in
    ap₂ ◌∷◌ (sym (mod-mod-pow x (8 * n) 8) ∙ ap (λ k. k % 2 ^ 8) g ∙ mod-mod-pow y (8 * n) 8)
    (same_octets n (x / 256) (y / 256) (sym (field x (8 * n) 8) ∙ ap (λ k. k / 2 ^ 8) g ∙ field y (8 * n) 8))

-- numbers moved up are alike where their low octets are
pub cut_same : (x y n : ℕ) → 0 < n → n ≤ 5 → x * 2 ^ (64 - 8 * n) % 2 ^ 64 ≡ y * 2 ^ (64 - 8 * n) % 2 ^ 64 → x % 2 ^ (8 * n) ≡ y % 2 ^ (8 * n)
cut_same x y n h l e =
    let u : ℕ = 64 - 8 * n in
    let k : 64 - u ≡ 8 * n = omega arith in
    subst (λ j. x % 2 ^ j ≡ y % 2 ^ j) k (sym (cut x u (omega arith)) ∙ ap (λ z. z / 2 ^ u) e ∙ cut y u (omega arith))

pub five_is : (bs : List ℕ) → 5 ≤ length bs → get_or bs 0 0 + get_or bs 1 0 * 256 + get_or bs 2 0 * 65_536 + get_or bs 3 0 * 16_777_216 + get_or bs 4 0 * 4_294_967_296 ≡ low_number 5 bs
five_is [] l = absurd (omega arith)
five_is (a ∷ []) l = absurd (omega arith)
five_is (a ∷ (b ∷ [])) l = absurd (omega arith)
five_is (a ∷ (b ∷ (c ∷ []))) l = absurd (omega arith)
five_is (a ∷ (b ∷ (c ∷ (d ∷ [])))) l = absurd (omega arith)
five_is (a ∷ (b ∷ (c ∷ (d ∷ (e ∷ bs))))) l = omega arith

-- ---- the FSPEC: what follows it changes nothing

either : {A : Type 0} (t : Bool) (a : Answer A) {b c : Answer A} {r : A} → (b ≡ ok r → c ≡ ok r) → (when t then a else b) ≡ ok r → (when t then a else c) ≡ ok r
unfolding when◌then◌else◌
either true a f h = h
either false a f h = f h

set_front : (i l : ℕ) (xs ys : List ℕ) (bits used : ℕ) (r : ℕ × ℕ) → set_from i l xs bits used ≡ ok r → set_from i l (xs ++ ys) bits used ≡ ok r
unfolding set_from
set_front i zero xs ys bits used r h = h
set_front i (suc l) [] ys bits used r h = refused_ok h
set_front i (suc l) (x ∷ xs) ys bits used r h = either (eqb (x % 2) 0) (ended i x (bits + x / 2 * 2 ^ (56 - 7 * used)) (used + 1)) (set_front i l xs ys (bits + x / 2 * 2 ^ (56 - 7 * used)) (used + 1) r) h

-- octets that start with a shape's have its set
pub fspec_told : (i n a word : ℕ) (bs : List ℕ) (r : ℕ × ℕ) → Octets bs → n ≤ 5 → 5 ≤ length bs → word ≡ low_number 5 bs → word % 2 ^ (8 * n) ≡ a % 2 ^ (8 * n)
    → set_from i (length (category_at i).profile) (low_octets n a) 0 0 ≡ ok r → set_at i bs ≡ ok r
fspec_told i n a word bs r o l m w e h =
    let same : low_octets n a ≡ take n bs = same_octets n a word (sym e) ∙ ap (low_octets n) w ∙ low_octets_lem n 5 bs o l m in
    sym (set_law i bs o)
    ∙ subst (λ xs. set_from i (length (category_at i).profile) xs 0 0 ≡ ok r) (ap (λ xs. xs ++ drop n bs) same ∙ take-append-drop n bs)
    (set_front i (length (category_at i).profile) (low_octets n a) (drop n bs) 0 0 r h)

-- ---- the message type

type_told : (i bits types kind r : ℕ) → has_front i ≡ true → bits / 2 ^ 60 ≡ 7 → sound_mask i bits types ≡ true → r < row_count → types / 2 ^ r % 2 ≡ 1
    → ((r ≡ 0 → ⊥) → row_at i kind ≡ ok (must_at i r, may_at i r)) → Content true (judge_set i bits kind)
unfolding sound_mask
type_told i bits types kind r h e s l t is =
    let none : types % 2 ≡ 0 = eqb-true _ _ (both_left (eqb (types % 2) 0) (all_below row_count (sound_type i bits types)) s) in
    let some : r ≡ 0 → ⊥ = λ z. (let q : types / 2 ^ 0 % 2 ≡ 1 = subst (λ x. types / 2 ^ x % 2 ≡ 1) z t in omega (arith, q, none)) in
    let a = within (flags 64 (must_at i r)) (flags 64 bits) in
    let b = within (flags 64 bits) (flags 64 (may_at i r)) in
    let w : a && b ≡ true =
    other (eqb (types / 2 ^ r % 2) 0) (a && b) (all_below_lem row_count (sound_type i bits types) r (both_right (eqb (types % 2) 0) (all_below row_count (sound_type i bits types)) s) l)
    (λ z. omega (arith, t, eqb-true (types / 2 ^ r % 2) 0 z)) in
    content i bits kind (must_at i r) (may_at i r) {a = true} {b = true} h e (is some) (sym (both_left a b w)) refl (sym (both_right a b w))

-- by the bit of its row
pub listed_told : (i kind types r : ℕ) (t : Bool) → Typed i kind r → t ≡ eqb (types / 2 ^ r % 2) 1 → OfType t i types kind
listed_told i kind types r false k q = tt
listed_told i kind types r true k q = record { row = r; there = eqb-true _ _ (sym q); typed = k }

pub listed_right : (t : Bool) (i types kind : ℕ) → OfType t i types kind → not t ≡ false → Listed i types kind
listed_right true i types kind l n = l
listed_right false i types kind l n = absurd (false≢true (sym n))

-- ---- the item that is looked into

three_at : (at : ℕ) (bs : List ℕ) {x y z : ℕ} → x ≡ get_or bs at 0 → y ≡ get_or bs (at + 1) 0 → z ≡ get_or bs (at + 2) 0 → x * 65_536 + y * 256 + z ≡ first_three (drop at bs)
unfolding first_three
three_at at bs ex ey ez = omega (arith, ex, ey, ez, octet_here at (drop at bs) bs refl, get_or-drop at bs 1 0, get_or-drop at bs 2 0)

pub front_told : (a w rule : ℕ) (bs : List ℕ) {x y z : ℕ} {t : Bool} → start_of a + 3 ≤ length bs → start_of a + tail_of a + w % 16 + x * (w / 16 % 16) ≤ length bs → w / 4_096 % 16 ≤ x
    → x ≡ get_or bs (start_of a) 0 → y ≡ get_or bs (start_of a + 1) 0 → z ≡ get_or bs (start_of a + 2) 0 → t ≡ asks rule (rule / 2 ^ 32) (x * 65_536 + y * 256 + z) → t ≡ true
    → Front a w rule bs (start_of a + tail_of a + w % 16 + x * (w / 16 % 16))
front_told a w rule bs there fits least ex ey ez et k = record {
  there = there;
  size = ap (λ u. start_of a + tail_of a + w % 16 + u * (w / 16 % 16)) ex;
  fits = fits;
  least = omega (arith, least, ex);
  kept = ap (asks rule (rule / 2 ^ 32)) (sym (three_at (start_of a) bs ex ey ez)) ∙ sym et ∙ k;
}

special_told : (i f w rule n : ℕ) (bs : List ℕ) → i < profile_count → f < frn_count → Octets bs → sound_special w rule (layout_at (place_row_at (i * frn_count + f)).layout) ≡ true → 1 ≤ length bs
    → get_or bs 0 0 < 256 → n ≡ w % 16 + get_or bs 0 0 * (w / 16 % 16) → n ≤ length bs → w / 4_096 % 16 ≤ get_or bs 0 0 → asks rule (rule / 2 ^ 32) (first_three bs) ≡ true
    → check_at i f bs ≡ ok n
special_told i f w rule n bs h k o s long b e l least asked =
    let lay : LayoutRow = layout_at (place_row_at (i * frn_count + f)).layout in
    let min : Bool = ltb 0 (w % 16 + w / 4_096 % 16 * (w / 16 % 16)) in
    let sound = layout_sound (place_row_at (i * frn_count + f)).layout (place_row_lem (i * frn_count + f)) in
    whole_check i f bs n h k o (go sound (eqb (w / 256 % 16) 1) (both_right min _ s))
  where
    go : row_sound (layout_at (place_row_at (i * frn_count + f)).layout) ≡ true → (t : Bool) → cond t (eqb (w / 16 % 16) 0 && sound_single rule (rule / 2 ^ 32) w (layout_at (place_row_at (i * frn_count + f)).layout)) (sound_counted w (layout_at (place_row_at (i * frn_count + f)).layout)) ≡ true
        → whole_size (layout_at (place_row_at (i * frn_count + f)).layout) bs ≡ ok n
    go sound true q =
        let z : w / 16 % 16 ≡ 0 = eqb-true _ _ (both_left (eqb (w / 16 % 16) 0) _ q) in
        let y : w % 16 + get_or bs 0 0 * 0 ≡ w % 16 = omega arith in
        let m : n ≡ w % 16 = e ∙ ap (λ x. w % 16 + get_or bs 0 0 * x) z ∙ y in
        subst (λ x. whole_size (layout_at (place_row_at (i * frn_count + f)).layout) bs ≡ ok x) (sym m)
        (ruled_told (layout_at (place_row_at (i * frn_count + f)).layout) w bs sound o (omega (arith, m)) rule (rule / 2 ^ 32) (both_right (eqb (w / 16 % 16) 0) _ q) asked)
    go sound false q =
        subst (λ x. whole_size (layout_at (place_row_at (i * frn_count + f)).layout) bs ≡ ok x) (sym e)
        (counted_told (layout_at (place_row_at (i * frn_count + f)).layout) w bs sound o long q refl b least (omega (arith, e)))

-- ---- runs of free items

run_fewer : (i f : ℕ) (ts : List Bool) → length (run_left i f ts) ≤ length ts
run_fewer i f [] = omega arith
run_fewer i f (false ∷ ts) = omega (arith, run_fewer i (f + 1) ts)
run_fewer i f (true ∷ ts) = go (is_free i f) (run_fewer i (f + 1) ts)
  where
    go : (b : Bool) → length (run_left i (f + 1) ts) ≤ length ts → length (cond b (run_left i (f + 1) ts) (true ∷ ts)) ≤ suc (length ts)
    go true h = omega (arith, h)
    go false h = omega arith

abbrev Ran : ℕ → ℕ → List Bool → ℕ → List Bool → List ℕ → Came → Type 0
Ran i f ts s us bs w = Skipped i (64 - length us) s us bs w (walk i ts f bs w)

run_skip : (i f : ℕ) (ts : List Bool) (bs : List ℕ) (w : Came) → i < profile_count → has_front i ≡ true → 3 < f → f + length ts ≡ 64 → Octets bs → run_sum i f ts ≤ length bs → Ran i f ts (run_sum i f ts) (run_left i f ts) bs w
run_skip i f [] bs w h g k l o b =
    let e : f ≡ 64 - 0 = omega (arith, l) in
    record { came = w; walks = ap (λ x. walk i [] x bs w) e; here = sym (add-zero w.here); kind = refl }
run_skip i f (false ∷ ts) bs w h g k l o b =
    let s : Ran i (f + 1) ts (run_sum i (f + 1) ts) (run_left i (f + 1) ts) bs w = run_skip i (f + 1) ts bs w h g (omega arith) (omega (arith, l)) o b in
    record { came = s.came; walks = none_here i f ts bs w ∙ s.walks; here = s.here; kind = s.kind }
run_skip i f (true ∷ ts) bs w h g k l o b = go (is_free i f) refl b (λ v q. run_skip i (f + 1) ts (drop (free i f) bs) v h g (omega arith) (omega (arith, l)) (octets_drop (free i f) bs o) q)
  where
    go : (t : Bool) → is_free i f ≡ t → cond t (free i f + run_sum i (f + 1) ts) 0 ≤ length bs
        → ((v : Came) → run_sum i (f + 1) ts ≤ length (drop (free i f) bs) → Ran i (f + 1) ts (run_sum i (f + 1) ts) (run_left i (f + 1) ts) (drop (free i f) bs) v)
        → Ran i f (true ∷ ts) (cond t (free i f + run_sum i (f + 1) ts) 0) (cond t (run_left i (f + 1) ts) (true ∷ ts)) bs w
    go false e q r =
        let m : f ≡ 64 - suc (length ts) = omega (arith, l) in
        record { came = w; walks = ap (λ x. walk i (true ∷ ts) x bs w) m; here = sym (add-zero w.here); kind = refl }
    go true e q r =
        let n : ℕ = free i f in
        let y : ltb 0 n && ltb n 8 ≡ true = both_right (ltb f frn_count) _ e in
        let c : check_at i f bs ≡ ok n = free_check i f n bs h (ltb-true f frn_count (both_left (ltb f frn_count) _ e)) o refl (ltb-true 0 n (both_left _ _ y)) (ltb-true n 8 (both_right (ltb 0 n) _ y)) (omega (arith, q)) in
        let v : Came = passed i f n (take n bs) w in
        let s : Ran i (f + 1) ts (run_sum i (f + 1) ts) (run_left i (f + 1) ts) (drop n bs) v = r v (omega (arith, q, length-drop n bs)) in
        record {
          came = s.came;
          walks = one i f n ts bs w c ∙ s.walks ∙ ap (λ x. walk i (run_left i (f + 1) ts) (64 - length (run_left i (f + 1) ts)) x s.came) (drop-drop (run_sum i (f + 1) ts) n bs);
          here = s.here ∙ add_assoc w.here n (run_sum i (f + 1) ts);
          kind = s.kind ∙ kind_stays i f n (take n bs) w g k;
        }

-- ---- the walk: how far it has come, the flags that are left

module _ (i bits : ℕ) (items : List ℕ) (h : i < profile_count) (g : has_front i ≡ true) (o : Octets items) where
  record Reached (us : List Bool) (n k : ℕ) : Type 0 where
    came : Came
    few : length us ≤ 60
    walks : walk i (flags 63 bits) 1 items (start_at k) ≡ walk i us (64 - length us) (drop n items) came
    here : came.here ≡ k + n
    kind : came.kind ≡ get_or items (type_at i) 0

  reach_three : (k : ℕ) → bits / 2 ^ 60 ≡ 7 → front_octets i ≤ length items → Reached (flags 60 (bits % 2 ^ 60)) (front_octets i) k
  reach_three k e l =
      let us : List Bool = flags 60 (bits % 2 ^ 60) in
      let m : length us ≡ 60 = flags_length 60 (bits % 2 ^ 60) in
      let f : 4 ≡ 64 - length us = omega (arith, m) in
      let u : Came = third i us items k h g o l in
      record {
        came = u;
        few = omega (arith, m);
        walks = ap (λ ts. walk i ts 1 items (start_at k)) (seven i bits items h g o e) ∙ first_three_lem i us items k h g o l ∙ ap (λ x. walk i us x (drop (front_octets i) items) u) f;
        here = third_here i us items k h g o l;
        kind = third_kind i us items k h g o l;
      }

  reach_run : (us : List Bool) (n k f : ℕ) → f ≡ 64 - length us → Reached us n k → n + run_sum i f us ≤ length items → Reached (run_left i f us) (n + run_sum i f us) k
  reach_run us n k f e r l =
      let s : Ran i f us (run_sum i f us) (run_left i f us) (drop n items) r.came =
      run_skip i f us (drop n items) r.came h g (omega (arith, e, r.few)) (omega (arith, e, r.few)) (octets_drop n items o) (omega (arith, l, length-drop n items)) in
      record {
        came = s.came;
        few = omega (arith, r.few, run_fewer i f us);
        walks =
            r.walks ∙ ap (λ x. walk i us x (drop n items) r.came) (sym e) ∙ s.walks
            ∙ ap (λ x. walk i (run_left i f us) (64 - length (run_left i f us)) x s.came) (drop-drop (run_sum i f us) n items);
        here = s.here ∙ ap (λ x. x + run_sum i f us) r.here ∙ add_assoc k n (run_sum i f us);
        kind = s.kind ∙ r.kind;
      }

  reach_one : (vs : List Bool) (n m k : ℕ) → Reached (true ∷ vs) n k → check_at i (63 - length vs) (drop n items) ≡ ok m → Reached vs (n + m) k
  reach_one vs n m k r c =
      let f : ℕ = 63 - length vs in
      let e : 64 - suc (length vs) ≡ f = omega arith in
      let next : f + 1 ≡ 64 - length vs = omega (arith, r.few) in
      let v : Came = passed i f m (take m (drop n items)) r.came in
      record {
        came = v;
        few = omega (arith, r.few);
        walks =
            r.walks ∙ ap (λ x. walk i (true ∷ vs) x (drop n items) r.came) e ∙ one i f m vs (drop n items) r.came c
            ∙ ap₂ (λ x y. walk i vs x y v) next (drop-drop m n items);
        here = ap (λ x. x + m) r.here ∙ add_assoc k n m;
        kind = kind_stays i f m (take m (drop n items)) r.came g (omega (arith, r.few)) ∙ r.kind;
      }

  -- the items that are left are walked from FRN 4 on
  reach_end : (us : List Bool) (n k left m : ℕ) → Reached us n k → left ≡ number us → Later i left (drop n items) (Some m) → Walks i bits items (n + m) k
  reach_end us n k left m r e later =
      let q : Goes i left (drop n items) m r.came = later.1 r.came in
      let j : ℕ = 60 - length us in
      let a : j + length us ≡ 60 = omega (arith, r.few) in
      let b : 64 - length us ≡ 4 + j = omega (arith, r.few) in
      let c : walk i (flags 60 left) 4 (drop n items) r.came ≡ walk i us (64 - length us) (drop n items) r.came =
      ap₂ (λ x y. walk i (flags x y) 4 (drop n items) r.came) (sym a) e
      ∙ walk_skip i j (length us) 4 (number us) (drop n items) r.came (number_lt us)
      ∙ ap₂ (λ x y. walk i x y (drop n items) r.came) (flags_number us) (sym b) in
      record {
        came = q.came;
        walks = r.walks ∙ sym c ∙ q.walks;
        here = q.here ∙ ap (λ x. x + m) r.here ∙ add_assoc k n m;
        kind = q.kind g ∙ r.kind;
      }

-- no item is left
pub later_none : (i : ℕ) (bs : List ℕ) → Later i 0 bs (Some 0)
later_none i bs = (omega arith, λ w. record { came = w; walks = walk_none i 60 4 bs w; here = sym (add-zero w.here); kind = λ g. refl })

-- ---- the items, by a row of the table

module _ (i a b rule left n m bits : ℕ) (bs : List ℕ) (h : i < profile_count) (fronted : has_front i ≡ true) (o : Octets bs) (top : bits / 2 ^ 60 ≡ 7) (front : Front a (word_of b) rule bs n) (rest : Later i left (drop n bs) (Some m)) where
  abbrev items : List ℕ
  items = drop (used_of a) bs

  -- the octets of FRN 1 to 3
  abbrev ahead : ℕ
  ahead = front_octets i

  abbrev Ends : Type 0
  Ends = (used_of a + ahead ≤ n) × ((k : ℕ) → Walks i bits items (n - used_of a + m) k)

  long : length items ≡ length bs - used_of a
  long = length-drop (used_of a) bs

  clean : Octets items
  clean = octets_drop (used_of a) bs o

  -- free items alone
  first_ends : (ts : List Bool) → ts ≡ flags 60 (bits % 2 ^ 60) → sound_first i a b left (run_sum i 4 ts) (run_left i 4 ts) ≡ true → Ends
  first_ends ts et s =
      let sum : ℕ = run_sum i 4 ts in
      let us : List Bool = run_left i 4 ts in
      let p = eqb (word_of b) 0 in
      let q = eqb (start_of a) (used_of a) in
      let r = eqb (tail_of a) (ahead + sum) in
      let z = eqb left (number us) in
      let spq : p && q && r ≡ true = both_left (p && q && r) z s in
      let sp : p && q ≡ true = both_left (p && q) r spq in
      let e₁ : word_of b ≡ 0 = eqb-true _ _ (both_left p q sp) in
      let e₂ : start_of a ≡ used_of a = eqb-true _ _ (both_right p q sp) in
      let e₃ : tail_of a ≡ ahead + sum = eqb-true _ _ (both_right (p && q) r spq) in
      let e₄ : left ≡ number us = eqb-true _ _ (both_right (p && q && r) z s) in
      let w₁ : word_of b % 16 ≡ 0 = ap (λ x. x % 16) e₁ in
      let w₂ : get_or bs (start_of a) 0 * (word_of b / 16 % 16) ≡ 0 = ap (λ x. get_or bs (start_of a) 0 * (x / 16 % 16)) e₁ ∙ mul-zero (get_or bs (start_of a) 0) in
      let size : n ≡ used_of a + (ahead + sum) = omega (arith, front.size, w₁, w₂, e₂, e₃) in
      let less : n - used_of a ≡ ahead + sum = omega (arith, size) in
      let f : 4 ≡ 64 - length ts = omega (arith, ap length et, flags_length 60 (bits % 2 ^ 60)) in (
        omega (arith, size),
        λ k.
            let r₁ : Reached i bits items h fronted clean ts ahead k = subst (λ x. Reached i bits items h fronted clean x ahead k) (sym et) (reach_three i bits items h fronted clean k top (omega (arith, front.fits, size, long))) in
            let r₂ : Reached i bits items h fronted clean us (ahead + sum) k = reach_run i bits items h fronted clean ts ahead k 4 f r₁ (omega (arith, front.fits, size, long)) in
            let g : Later i left (drop (ahead + sum) items) (Some m) = subst (λ x. Later i left x (Some m)) (ap (λ x. drop x bs) size ∙ sym (drop-drop (ahead + sum) (used_of a) bs)) rest in
            subst (λ x. Walks i bits items (x + m) k) (sym less) (reach_end i bits items h fronted clean us (ahead + sum) k left m r₂ e₄ g),
      )

  -- free items, one that is looked into, free items
  then_ends : (s : ℕ) (us : List Bool) → ((k : ℕ) → used_of a + (ahead + s) ≤ length bs → Reached i bits items h fronted clean us (ahead + s) k) → sound_then i a b rule left s us ≡ true → Ends
  then_ends s [] reach t = absurd (false≢true t)
  then_ends s (false ∷ vs) reach t = absurd (false≢true t)
  then_ends s (true ∷ vs) reach t =
      let f : ℕ = 63 - length vs in
      let g : ℕ = 64 - length vs in
      let w : ℕ = word_of b in
      let head : ℕ = get_or bs (start_of a) 0 in
      let x : ℕ = w % 16 + head * (w / 16 % 16) in
      let p = ltb f frn_count in
      let q = eqb (start_of a) (used_of a + ahead + s) in
      let r = sound_special w rule (layout_at (place_row_at (i * frn_count + f)).layout) in
      let u = eqb (tail_of a) (run_sum i g vs) in
      let v = eqb left (number (run_left i g vs)) in
      let t₁ : p && q && r && u ≡ true = both_left (p && q && r && u) v t in
      let t₂ : p && q && r ≡ true = both_left (p && q && r) u t₁ in
      let t₃ : p && q ≡ true = both_left (p && q) r t₂ in
      let few : f < frn_count = ltb-true f frn_count (both_left p q t₃) in
      let e₁ : start_of a ≡ used_of a + ahead + s = eqb-true _ _ (both_right p q t₃) in
      let e₂ : tail_of a ≡ run_sum i g vs = eqb-true _ _ (both_right (p && q && r) u t₁) in
      let e₃ : left ≡ number (run_left i g vs) = eqb-true _ _ (both_right (p && q && r && u) v t) in
      let e₄ : start_of a ≡ used_of a + (ahead + s) = omega (arith, e₁) in
      let size : n ≡ used_of a + (ahead + s + x + run_sum i g vs) = omega (arith, front.size, e₂, e₄) in
      let less : n - used_of a ≡ ahead + s + x + run_sum i g vs = omega (arith, size) in
      let here : drop (ahead + s) items ≡ drop (start_of a) bs = drop-drop (ahead + s) (used_of a) bs ∙ ap (λ y. drop y bs) (sym e₄) in
      let at : get_or (drop (ahead + s) items) 0 0 ≡ head = octet_here (start_of a) (drop (ahead + s) items) bs here in
      let rests : length (drop (ahead + s) items) ≡ length bs - start_of a = ap length here ∙ length-drop (start_of a) bs in
      let c : check_at i f (drop (ahead + s) items) ≡ ok x =
      special_told i f w rule x (drop (ahead + s) items) h few (octets_drop (ahead + s) items clean) (both_right (p && q) r t₂) (omega (arith, rests, front.there)) (octet_at (drop (ahead + s) items) (octets_drop (ahead + s) items clean) 0)
      (ap (λ y. w % 16 + y * (w / 16 % 16)) (sym at)) (omega (arith, rests, front.fits, size, e₄)) (omega (arith, front.least, at)) (ap (λ l. asks rule (rule / 2 ^ 32) (first_three l)) here ∙ front.kept) in (
        omega (arith, size),
        λ k.
            let r₁ : Reached i bits items h fronted clean vs (ahead + s + x) k = reach_one i bits items h fronted clean vs (ahead + s) x k (reach k (omega (arith, e₄, front.there))) c in
            let r₂ : Reached i bits items h fronted clean (run_left i g vs) (ahead + s + x + run_sum i g vs) k = reach_run i bits items h fronted clean vs (ahead + s + x) k g refl r₁ (omega (arith, front.fits, size, long)) in
            let z : Later i left (drop (ahead + s + x + run_sum i g vs) items) (Some m) = subst (λ y. Later i left y (Some m)) (ap (λ y. drop y bs) size ∙ sym (drop-drop (ahead + s + x + run_sum i g vs) (used_of a) bs)) rest in
            subst (λ y. Walks i bits items (y + m) k) (sym less) (reach_end i bits items h fronted clean (run_left i g vs) (ahead + s + x + run_sum i g vs) k left m r₂ e₃ z),
      )

  items_end : sound_items i a b rule left (flags 60 (bits % 2 ^ 60)) ≡ true → Ends
  items_end s =
      let ts : List Bool = flags 60 (bits % 2 ^ 60) in
      let sum : ℕ = run_sum i 4 ts in
      let us : List Bool = run_left i 4 ts in
      let f : 4 ≡ 64 - length ts = omega (arith, flags_length 60 (bits % 2 ^ 60)) in
      either_way (sound_first i a b left sum us) (sound_then i a b rule left sum us) s (first_ends ts refl)
      (then_ends sum us (λ k l. reach_run i bits items h fronted clean ts ahead k 4 f (reach_three i bits items h fronted clean k top (omega (arith, l, long))) (omega (arith, l, long))))
    where
      either_way : {A : Type 0} (x y : Bool) → x || y ≡ true → (x ≡ true → A) → (y ≡ true → A) → A
      either_way true y e g k = g refl
      either_way false y e g k = k e

-- ---- the record

module _ (a b rule left : ℕ) (s : sound_shape a b rule left ≡ true) where
  abbrev read : Answer (ℕ × ℕ)
  read = set_from (profile_of a) (length (category_at (profile_of a)).profile) (low_octets (used_of a) a) 0 0

  in_bounds : bounded a b left ≡ true
  unfolding sound_shape
  in_bounds = both_left (bounded a b left) (shape_by (profile_of a) a b rule left read) s

  by_set : shape_by (profile_of a) a b rule left read ≡ true
  unfolding sound_shape
  by_set = both_right (bounded a b left) (shape_by (profile_of a) a b rule left read) s

  pub shape_known : profile_of a < profile_count
  shape_known = ltb-true (profile_of a) profile_count (both_left (ltb (profile_of a) profile_count) _ in_bounds)

  in_octets : ltb 0 (used_of a) && (leb (used_of a) 5 && (ltb left (2 ^ 60) && ltb (place_of b) (start_of a + tail_of a))) ≡ true
  in_octets = both_right (ltb (profile_of a) profile_count) _ in_bounds

  pub shape_some : 0 < used_of a
  shape_some = ltb-true 0 (used_of a) (both_left (ltb 0 (used_of a)) _ in_octets)

  in_five : leb (used_of a) 5 && (ltb left (2 ^ 60) && ltb (place_of b) (start_of a + tail_of a)) ≡ true
  in_five = both_right (ltb 0 (used_of a)) _ in_octets

  pub shape_few : used_of a ≤ 5
  shape_few = leb-true (used_of a) 5 (both_left (leb (used_of a) 5) _ in_five)

  pub shape_left : left < 2 ^ 60
  shape_left = ltb-true left (2 ^ 60) (both_left (ltb left (2 ^ 60)) _ (both_right (leb (used_of a) 5) _ in_five))

  -- the message type is before the end of what the shape says
  pub shape_long : (bs : List ℕ) (n : ℕ) → Front a (word_of b) rule bs n → place_of b < n
  shape_long bs n front =
      let l : place_of b < start_of a + tail_of a = ltb-true _ _ (both_right (ltb left (2 ^ 60)) _ (both_right (leb (used_of a) 5) _ in_five)) in
      omega (arith, l, front.size)

  module _ (bs : List ℕ) (known : (j : ℕ) → Fits w8 (get_or bs j 0)) (fits : length bs < 65_536) where
    octets : Octets bs
    octets = octets_all bs known

    shape_end : (word n m c : ℕ) → 5 ≤ length bs → word ≡ low_number 5 bs → word * 2 ^ (64 - 8 * used_of a) % 2 ^ 64 ≡ a * 2 ^ (64 - 8 * used_of a) % 2 ^ 64
        → Front a (word_of b) rule bs n → c ≡ get_or bs (place_of b) 0 → Listed (profile_of a) (types_of b) c → Later (profile_of a) left (drop n bs) (Some m) → end_at (profile_of a) 0 bs ≡ ok (n + m)
    shape_end word n m c long ew ec front eq listed rest = go read refl by_set
      where
        go : (x : Answer (ℕ × ℕ)) → read ≡ x → shape_by (profile_of a) a b rule left x ≡ true → end_at (profile_of a) 0 bs ≡ ok (n + m)
        go (refused p q) e y = absurd (false≢true y)
        go (ok (bits, used)) e y =
            let i : ℕ = profile_of a in
            let p = eqb used (used_of a) in
            let q = sound_front i a b bits in
            let r = sound_mask i bits (types_of b) in
            let u = sound_items i a b rule left (flags 60 (bits % 2 ^ 60)) in
            let y₁ : p && q && r ≡ true = both_left (p && q && r) u y in
            let y₂ : p && q ≡ true = both_left (p && q) r y₁ in
            let e₁ : used ≡ used_of a = eqb-true _ _ (both_left p q y₂) in
            let y₃ : eqb (bits / 2 ^ 60) 7 && eqb (place_of b) (used_of a + type_at i) ≡ true = both_right (has_front i) _ (both_right p q y₂) in
            let fronted : has_front i ≡ true = both_left (has_front i) _ (both_right p q y₂) in
            let top : bits / 2 ^ 60 ≡ 7 = eqb-true _ _ (both_left (eqb (bits / 2 ^ 60) 7) _ y₃) in
            let e₂ : place_of b ≡ used_of a + type_at i = eqb-true _ _ (both_right (eqb (bits / 2 ^ 60) 7) _ y₃) in
            let set_is : set_at i bs ≡ ok (bits, used) = fspec_told i (used_of a) a word bs (bits, used) octets shape_few long ew (cut_same word a (used_of a) shape_some shape_few ec) e in
            let ends = items_end i a b rule left n m bits bs shape_known fronted octets top front rest (both_right (p && q && r) u y) in
            let kind : c ≡ get_or (take (length bs - used_of a) (drop (used_of a) bs)) (type_at i) 0 = type_here (used_of a) (type_at i) c bs (eq ∙ ap (λ x. get_or bs x 0) e₂) in
            let n₁ : ℕ = n - used_of a + m in
            let same : used_of a + n₁ ≡ n + m = omega (arith, ends.0) in
            quick_whole i bs known fits (Ok (record { set = record { bits = bits }; octets = used_of a })) (record { set = record { bits = bits }; octets = used_of a }) n₁ (ap (λ x. ok (bits, x)) (sym e₁) ∙ sym set_is) refl c (type_at i) kind refl
            (type_told i bits (types_of b) c listed.row fronted top (both_right (p && q) r y₁) listed.typed.few listed.there listed.typed.is)
            (subst (λ l. Passed i bits l (Some n₁)) (sym (to_end bs (used_of a))) ends.1)
            ∙ ap ok same

    -- the record of a profile, with the items that are left
    module _ (i word n c : ℕ) (ep : profile_of a ≡ i) (long : 5 ≤ length bs) (ew : word ≡ low_number 5 bs) (ec : word * 2 ^ (64 - 8 * used_of a) % 2 ^ 64 ≡ a * 2 ^ (64 - 8 * used_of a) % 2 ^ 64) (front : Front a (word_of b) rule bs n) (eq : c ≡ get_or bs (place_of b) 0) (listed : Listed i (types_of b) c) where
      pub shape_whole : (m : ℕ) → Later i left (take (length bs - n) (drop n bs)) (Some m) → end_at i 0 bs ≡ ok (n + m)
      shape_whole m rest =
          subst (λ j. Listed j (types_of b) c → Later j left (drop n bs) (Some m) → end_at j 0 bs ≡ ok (n + m)) ep (λ l r. shape_end word n m c long ew ec front eq l r)
          listed (subst (λ x. Later i left x (Some m)) (to_end bs n) rest)

      pub shape_only : left ≡ 0 → end_at i 0 bs ≡ ok n
      shape_only z =
          let e : n + 0 ≡ n = omega arith in
          shape_whole 0 (subst (λ x. Later i x (take (length bs - n) (drop n bs)) (Some 0)) (sym z) (later_none i (take (length bs - n) (drop n bs)))) ∙ ap ok e

-- ---- the table

module _ (t : List ℕ) (s : sound_sets t ≡ true) where
  abbrev same_set : ℕ → Bool
  same_set k = eqb (get_or t k 0) (get_or type_sets k 0)

  abbrev shape_in : ℕ → Bool
  shape_in k = sound_shape_at t (set_count + 4 * k)

  -- what message types must and may have
  pub sets_read : (k : ℕ) → k < set_count → get_or t k 0 ≡ get_or type_sets k 0
  unfolding sound_sets
  sets_read k l = eqb-true _ _ (all_below_lem set_count same_set k (both_left (all_below set_count same_set) (all_below shape_count shape_in) s) l)

  pub shape_read : (k : ℕ) {a b rule left : ℕ} → k < shape_count → a ≡ get_or t (set_count + 4 * k) 0 → b ≡ get_or t (set_count + 4 * k + 1) 0 → rule ≡ get_or t (set_count + 4 * k + 2) 0 → left ≡ get_or t (set_count + 4 * k + 3) 0
      → sound_shape a b rule left ≡ true
  unfolding sound_sets
  shape_read k l ea eb er el = rw (ea, eb, er, el) (all_below_lem shape_count shape_in k (both_right (all_below set_count same_set) (all_below shape_count shape_in) s) l)
