-- A record that is plainly legal is legal: its tables, its items walked by the highest bit that is left, and what the message type asks for.
--
-- In order: the tables; the front; flags that are not set; free items; the first three items; the steps of the loop; the record. Assumes nothing.
use Rattle.std.specs.Prelude.{Some, Result, Ok, Err}
use Prim.Native.Nat.{ℕ, zero, suc, ◌+◌, ◌-◌, ◌*◌, ◌/◌, ◌%◌, ◌^◌, ◌≤◌, ◌<◌}
use mathlib.Core.Path.{◌≡◌, refl, sym, ap, ap₂, ◌∙◌, subst}
use mathlib.Core.Bool.{Bool, true, false, not, ◌&&◌, false≢true}
use mathlib.Core.Logic.{⊎_elim}
use mathlib.Core.List.{List, [], ◌∷◌, ◌++◌}
use native.Mathlib.Omega.{arith}
use native.Mathlib.Nat.{add_assoc, add-zero, zero-add, mod-lt}
use lib.Pow.{pow_pos}
use lib.Dec.{ltb, eqb}
use lib.ListN.{length, take, drop, get_or, replicate, length-drop}
use lib.Seq.{drop-drop, get_or-drop}
use mir.Syntax.{w8}
use mir.Val.{Fits}
use borrow.Author.Tests.{ltb-true, eqb-true, eq-eqb, ne_eqb}
use Rattle.rules.specs.Answer.{Answer, ok, refused, ◌>>=◌, when◌then◌else◌}
use Rattle.rules.specs.Presence.{flags}
use Rattle.rules.specs.Entry.{RecordMap, map_of}
use Rattle.rules.proofs.AnswerLaws.{ok_inj, bind_in, bind_elim, later_in, both_left, both_right, Octets, octets_drop, to_end}
use Rattle.rules.proofs.PresenceLaws.{flags_length}
use Rattle.items.specs.Answers.{check_at}
use Rattle.tables.specs.Tests.{all_below}
use Rattle.tables.specs.Tables.{profile_count, frn_count}
use Rattle.layouts.proofs.ReadLaws.{le_or_lt}
use Rattle.tables.proofs.TableLaws.{all_below_lem}
use Rattle.quick_items.proofs.ItemLaws.{free_check, other}
use Rattle.sets.specs.Sets.{category_at, set_at, within}
use Rattle.sets.specs.Steps.{type_frn, row_at, judge_set}
use Rattle.records.specs.Walk.{Came, passed, walk, start_at, record_by}
use Rattle.sets.specs.Answers.{set_of}
use Rattle.records.specs.declared.RecordMap as found
use Rattle.rules.specs.declared.faults.Refusal.{Refusal}
use Rattle.rules.specs.Told.{told_as}
use Rattle.records.specs.Answers.{Walked, record_at}
use Rattle.quick_records.specs.Record.{kind_count, row_count, way_count, must_at, may_at, is_row, sound_row, free, all_free, free_sum, has_front, front_octets, type_at, sound_sum, row_in, sum_in, place_in, sound_place, sound_profile, sound_types, Typed, Content, Goes, Later, Walks, Passed, end_at}
use Rattle.rules.specs.declared.faults.Fault.{Fault}
use Rattle.sets.specs.declared.Fspec.{Fspec}
use Rattle.sets.proofs.FlagLaws.{flags_split, has_bit, First, first_from, first_rest, first_flags}
use Rattle.sets.proofs.SetLaws.{octets_all}
use Rattle.records.proofs.PlaceLaws.{check_within}
use Rattle.records.proofs.WalkLaws.{walk_none, walk_skip}
use Rattle.sets.proofs.JudgeLaws.{judge_right}
use Rattle.records.proofs.RecordLaws.{record_law, record_read, RecordRead}

-- ---- the tables

module _ (ts : List ℕ) (i : ℕ) (s : sound_types ts ≡ true) (h : i < profile_count) where
  abbrev rows_of : ℕ → Bool
  rows_of t = sound_row i t (row_in ts i t)

  abbrev sums_of : ℕ → Bool
  sums_of v = sound_sum i v (sum_in ts i v)

  abbrev sums : Bool
  sums = all_below way_count sums_of

  sound_all : all_below kind_count rows_of && (sums && sound_place ts i) ≡ true
  unfolding sound_types
  sound_all = all_below_lem profile_count (sound_profile ts) i s h

  sound_later : sums && sound_place ts i ≡ true
  sound_later = both_right (all_below kind_count rows_of) (sums && sound_place ts i) sound_all

  row_sound_lem : (t r : ℕ) → t < kind_count → row_in ts i t ≡ r → (r ≡ 0 → ⊥) → ltb r row_count && is_row (row_at i t) (must_at i r) (may_at i r) ≡ true
  row_sound_lem t r k e n =
      other (eqb r 0) _ (subst (λ x. sound_row i t x ≡ true) e (all_below_lem kind_count rows_of t (both_left (all_below kind_count rows_of) (sums && sound_place ts i) sound_all) k)) (λ q. n (eqb-true r 0 q))

  pub row_few : (t r : ℕ) → t < kind_count → row_in ts i t ≡ r → (r ≡ 0 → ⊥) → r < row_count
  row_few t r k e n = ltb-true r row_count (both_left (ltb r row_count) _ (row_sound_lem t r k e n))

  pub row_under : (t r : ℕ) → t < kind_count → row_in ts i t ≡ r → r < row_count
  row_under t r k e = ⊎_elim (λ (z : r ≤ 0). omega arith) (λ (p : 0 < r). row_few t r k e (λ z. omega arith)) (le_or_lt r 0)

  -- a row that the table has for a type
  pub row_read : (t r : ℕ) → t < kind_count → row_in ts i t ≡ r → (r ≡ 0 → ⊥) → row_at i t ≡ ok (must_at i r, may_at i r)
  row_read t r k e n =
      go (row_at i t) (both_right (ltb r row_count) _ (row_sound_lem t r k e n))
    where
      go : (a : Answer (ℕ × ℕ)) → is_row a (must_at i r) (may_at i r) ≡ true → a ≡ ok (must_at i r, may_at i r)
      go (ok (a, b)) q =
          ap₂ (λ x y. ok (x, y)) (eqb-true a (must_at i r) (both_left _ _ q)) (eqb-true b (may_at i r) (both_right (eqb a (must_at i r)) _ q))
      go (refused n p) q = absurd (false≢true q)

  pub typed_known : (t r : ℕ) → t < kind_count → r ≡ row_in ts i t → Typed i t r
  typed_known t r k e = record { few = row_under t r k (sym e); is = row_read t r k (sym e) }

  sum_sound : (v m : ℕ) → v < way_count → sum_in ts i v ≡ m → (m ≡ 0 → ⊥) → has_front i && (all_free i 4 (flags 4 v) && eqb m (front_octets i + free_sum i 4 (flags 4 v))) ≡ true
  sum_sound v m k e n = other (eqb m 0) _ (subst (λ x. sound_sum i v x ≡ true) e (all_below_lem way_count sums_of v (both_left sums (sound_place ts i) sound_later) k)) (λ q. n (eqb-true m 0 q))

  pub sum_read : (v m : ℕ) → v < way_count → sum_in ts i v ≡ m → (m ≡ 0 → ⊥) → (all_free i 4 (flags 4 v) ≡ true) × (m ≡ front_octets i + free_sum i 4 (flags 4 v))
  sum_read v m k e n =
      let q : all_free i 4 (flags 4 v) && eqb m (front_octets i + free_sum i 4 (flags 4 v)) ≡ true = both_right (has_front i) _ (sum_sound v m k e n) in
      (both_left _ _ q, eqb-true m _ (both_right (all_free i 4 (flags 4 v)) _ q))

  -- the way of FRN 1 to 3 alone is the front
  module _ {m : ℕ} (e₁ : m ≡ get_or ts (profile_count * kind_count + i * way_count) 0) (n : m ≡ 0 → ⊥) where
    e : m ≡ sum_in ts i 0
    e = e₁ ∙ ap (λ x. get_or ts x 0) (sym (add-zero (profile_count * kind_count + i * way_count)))

    pub front_there : has_front i ≡ true
    front_there = both_left (has_front i) _ (sum_sound 0 m (omega arith) (sym e) n)

    pub front_read : m ≡ front_octets i
    unfolding flags
    front_read = (sum_read 0 m (omega arith) (sym e) n).1 ∙ add-zero (front_octets i)

    pub place_read_lem : place_in ts i ≡ type_at i
    place_read_lem = eqb-true (place_in ts i) (type_at i) (other (eqb (sum_in ts i 0) 0) _ (both_right sums (sound_place ts i) sound_later) (λ q. n (e ∙ eqb-true (sum_in ts i 0) 0 q)))

pub typed_none : (i t : ℕ) → Typed i t 0
typed_none i t = record { few = omega arith; is = λ z. absurd (z refl) }

-- ---- the front of a record's items

abbrev Free : ℕ → Type 0
Free n = (0 < n) × (n < 8)

module _ (i : ℕ) (g : has_front i ≡ true) where
  abbrev is_free : ℕ → Bool
  is_free f = ltb 0 (free i f) && ltb (free i f) 8

  abbrev type_first : Bool
  type_first = ltb 0 (type_frn i) && ltb (type_frn i) 4

  three : is_free 1 && (is_free 2 && (is_free 3 && true)) ≡ true
  unfolding has_front
  three = both_left (all_free i 1 (replicate 3 true)) type_first g

  type_both : type_first ≡ true
  unfolding has_front
  type_both = both_right (all_free i 1 (replicate 3 true)) type_first g

  type_some : 0 < type_frn i
  type_some = ltb-true 0 (type_frn i) (both_left _ _ type_both)

  type_first_lem : type_frn i < 4
  type_first_lem = ltb-true (type_frn i) 4 (both_right (ltb 0 (type_frn i)) _ type_both)

  is_free_lem : (f : ℕ) → is_free f ≡ true → Free (free i f)
  is_free_lem f q = (ltb-true 0 (free i f) (both_left _ _ q), ltb-true (free i f) 8 (both_right (ltb 0 (free i f)) _ q))

  free_one : Free (free i 1)
  free_one = is_free_lem 1 (both_left (is_free 1) _ three)

  free_two : Free (free i 2)
  free_two = is_free_lem 2 (both_left (is_free 2) _ (both_right (is_free 1) _ three))

  free_three : Free (free i 3)
  free_three = is_free_lem 3 (both_left (is_free 3) _ (both_right (is_free 2) _ (both_right (is_free 1) _ three)))

  front_is : front_octets i ≡ free i 1 + free i 2 + free i 3
  unfolding front_octets
  front_is = omega arith

  pub front_some : 0 < front_octets i
  front_some = omega (arith, front_is, free_one)

  pub type_within : type_at i < front_octets i
  unfolding type_at
  type_within = go (type_frn i) type_some type_first_lem
    where
      go : (t : ℕ) → 0 < t → t < 4 → free_sum i 1 (replicate (t - 1) true) < front_octets i
      go zero k l = absurd (omega arith)
      go (suc zero) k l = omega (arith, front_some)
      go (suc (suc zero)) k l = omega (arith, front_is, free_two)
      go (suc (suc (suc zero))) k l = omega (arith, front_is, free_three)
      go (suc (suc (suc (suc t)))) k l = absurd (omega arith)

  -- a set that has the front has the message type
  type_set : (bits : ℕ) → bits / 2 ^ 60 ≡ 7 → bits / 2 ^ (63 - type_frn i) % 2 ≡ 1
  type_set bits e =
      go (type_frn i) type_some type_first_lem
    where
      go : (t : ℕ) → 0 < t → t < 4 → bits / 2 ^ (63 - t) % 2 ≡ 1
      go zero k l = absurd (omega arith)
      go (suc zero) k l = omega arith
      go (suc (suc zero)) k l = omega arith
      go (suc (suc (suc zero))) k l = omega arith
      go (suc (suc (suc (suc t)))) k l = absurd (omega arith)

-- the message type is content
pub content : (i bits kind must may : ℕ) {a b : Bool} → has_front i ≡ true → bits / 2 ^ 60 ≡ 7 → row_at i kind ≡ ok (must, may)
    → a ≡ within (flags 64 must) (flags 64 bits) → not a ≡ false → b ≡ within (flags 64 bits) (flags 64 may) → Content b (judge_set i bits kind)
content i bits kind must may {b = true} h e r g m k =
    let l : bits < 2 ^ 64 = omega arith in
    let f : ℕ = type_frn i in
    sym (judge_right i bits kind f {t = true} refl (sym (has_bit bits f l (omega (arith, type_first_lem i h)) ∙ eq-eqb _ 1 (type_set i h bits e))) refl r g m k refl)
content i bits kind must may {b = false} h e r g m k = tt

pub right : (t : Bool) (a : Answer (Unit {0})) → Content t a → not t ≡ false → Content true a
right true a h n = h
right false a h n = absurd (false≢true (sym n))

-- ---- one item, and items that are free

pub one : (i f n : ℕ) (ts : List Bool) (bs : List ℕ) (w : Came) → check_at i f bs ≡ ok n → walk i (true ∷ ts) f bs w ≡ walk i ts (f + 1) (drop n bs) (passed i f n (take n bs) w)
unfolding walk
one i f n ts bs w c = bind_in _ (later_in w.here c) refl

pub none_here : (i f : ℕ) (ts : List Bool) (bs : List ℕ) (w : Came) → walk i (false ∷ ts) f bs w ≡ walk i ts (f + 1) bs w
unfolding walk
none_here i f ts bs w = refl

-- an item after the front leaves the type as it is
pub kind_stays : (i f n : ℕ) (item : List ℕ) (w : Came) → has_front i ≡ true → 3 < f → (passed i f n item w).kind ≡ w.kind
unfolding when◌then◌else◌
kind_stays i f n item w g k = rw (ne_eqb f (type_frn i) (λ e. omega (arith, type_first_lem i g)))

pub record Skipped (i f t : ℕ) (us : List Bool) (bs : List ℕ) (w : Came) (a : Answer Came) : Type 0 where
  pub came : Came
  pub walks : a ≡ walk i us f (drop t bs) came
  pub here : came.here ≡ w.here + t
  pub kind : came.kind ≡ w.kind

skip_free : (i f : ℕ) (ts us : List Bool) (bs : List ℕ) (w : Came) → i < profile_count → has_front i ≡ true → 3 < f → f + length ts ≤ frn_count → Octets bs → all_free i f ts ≡ true → free_sum i f ts ≤ length bs
    → Skipped i (f + length ts) (free_sum i f ts) us bs w (walk i (ts ++ us) f bs w)
skip_free i f [] us bs w h g k l o a b = record { came = w; walks = ap (λ x. walk i us x bs w) (sym (add-zero f)); here = sym (add-zero w.here); kind = refl }
skip_free i f (false ∷ ts) us bs w h g k l o a b =
    let s : Skipped i (f + 1 + length ts) (free_sum i (f + 1) ts) us bs w (walk i (ts ++ us) (f + 1) bs w) = skip_free i (f + 1) ts us bs w h g (omega arith) (omega arith) o a b in
    record { came = s.came; walks = none_here i f (ts ++ us) bs w ∙ s.walks ∙ ap (λ x. walk i us x (drop (free_sum i (f + 1) ts) bs) s.came) (omega arith); here = s.here; kind = s.kind }
skip_free i f (true ∷ ts) us bs w h g k l o a b =
    let n : ℕ = free i f in
    let q = both_left (ltb 0 n && ltb n 8) (all_free i (f + 1) ts) a in
    let c : check_at i f bs ≡ ok n = free_check i f n bs h (omega arith) o refl (ltb-true 0 n (both_left _ _ q)) (ltb-true n 8 (both_right (ltb 0 n) _ q)) (omega arith) in
    let v : Came = passed i f n (take n bs) w in
    let s : Skipped i (f + 1 + length ts) (free_sum i (f + 1) ts) us (drop n bs) v (walk i (ts ++ us) (f + 1) (drop n bs) v) =
    skip_free i (f + 1) ts us (drop n bs) v h g (omega arith) (omega arith) (octets_drop n bs o) (both_right (ltb 0 n && ltb n 8) (all_free i (f + 1) ts) a) (omega (arith, length-drop n bs)) in
    record {
      came = s.came;
      walks =
          one i f n (ts ++ us) bs w c ∙ s.walks
          ∙ ap₂ (λ x l. walk i us x l s.came) (omega arith) (drop-drop (free_sum i (f + 1) ts) n bs);
      here = s.here ∙ add_assoc w.here n (free_sum i (f + 1) ts);
      kind = s.kind ∙ kind_stays i f n (take n bs) w g k;
    }

-- ---- the first three items

module _ (i : ℕ) (us : List Bool) (bs : List ℕ) (k : ℕ) (h : i < profile_count) (g : has_front i ≡ true) (o : Octets bs) (b : front_octets i ≤ length bs) where
  abbrev a₁ : ℕ
  a₁ = free i 1

  abbrev a₂ : ℕ
  a₂ = free i 2

  abbrev a₃ : ℕ
  a₃ = free i 3

  abbrev pub first : Came
  first = passed i 1 a₁ (take a₁ bs) (start_at k)

  abbrev pub second : Came
  second = passed i 2 a₂ (take a₂ (drop a₁ bs)) first

  abbrev pub third : Came
  third = passed i 3 a₃ (take a₃ (drop (a₁ + a₂) bs)) second

  pub first_three_lem : walk i (true ∷ true ∷ true ∷ us) 1 bs (start_at k) ≡ walk i us 4 (drop (front_octets i) bs) third
  first_three_lem =
      let f : front_octets i ≡ a₁ + a₂ + a₃ = front_is i g in
      let a : check_at i 1 bs ≡ ok a₁ = free_check i 1 a₁ bs h (omega arith) o refl (free_one i g).0 (free_one i g).1 (omega (arith, f)) in
      let c : check_at i 2 (drop a₁ bs) ≡ ok a₂ = free_check i 2 a₂ (drop a₁ bs) h (omega arith) (octets_drop a₁ bs o) refl (free_two i g).0 (free_two i g).1 (omega (arith, f, length-drop a₁ bs)) in
      let d : check_at i 3 (drop (a₁ + a₂) bs) ≡ ok a₃ = free_check i 3 a₃ (drop (a₁ + a₂) bs) h (omega arith) (octets_drop (a₁ + a₂) bs o) refl (free_three i g).0 (free_three i g).1 (omega (arith, f, length-drop (a₁ + a₂) bs)) in
      one i 1 a₁ (true ∷ true ∷ us) bs (start_at k) a
      ∙ one i 2 a₂ (true ∷ us) (drop a₁ bs) first c
      ∙ ap (λ l. walk i (true ∷ us) 3 l second) (drop-drop a₂ a₁ bs)
      ∙ one i 3 a₃ us (drop (a₁ + a₂) bs) second d
      ∙ ap (λ l. walk i us 4 l third) (drop-drop a₃ (a₁ + a₂) bs ∙ ap (λ n. drop n bs) (sym f))

  pub third_here : third.here ≡ k + front_octets i
  third_here = omega (arith, front_is i g)

  pub third_kind : third.kind ≡ get_or bs (type_at i) 0
  unfolding type_at when◌then◌else◌
  third_kind = go (type_frn i) (type_some i g) (type_first_lem i g)
    where
      -- the first octet of some
      head : (n : ℕ) (l : List ℕ) → 0 < n → get_or (take n l) 0 0 ≡ get_or l 0 0
      head zero l p = absurd (omega arith)
      head (suc n) [] p = refl
      head (suc n) (x ∷ l) p = refl

      at : (n m : ℕ) → 0 < n → get_or (take n (drop m bs)) 0 0 ≡ get_or bs m 0
      at n m p = head n (drop m bs) p ∙ get_or-drop m bs 0 0 ∙ ap (λ x. get_or bs x 0) (add-zero m)

      go : (t : ℕ) → 0 < t → t < 4
          → (when eqb 3 t then get_or (take a₃ (drop (a₁ + a₂) bs)) 0 0 else when eqb 2 t then get_or (take a₂ (drop a₁ bs)) 0 0 else when eqb 1 t then get_or (take a₁ bs) 0 0 else 0)
          ≡ get_or bs (free_sum i 1 (replicate (t - 1) true)) 0
      go zero p q = absurd (omega arith)
      go (suc zero) p q = head a₁ bs (free_one i g).0
      go (suc (suc zero)) p q = at a₂ a₁ (free_two i g).0 ∙ ap (λ x. get_or bs x 0) (sym (add-zero a₁))
      go (suc (suc (suc zero))) p q = at a₃ (a₁ + a₂) (free_three i g).0 ∙ ap (λ x. get_or bs (a₁ + x) 0) (sym (add-zero a₂))
      go (suc (suc (suc (suc t)))) p q = absurd (omega arith)

-- ---- the steps of the loop: what is left of the set has no FRN under 4, and walking on from FRN 4 gives what the whole walk gives

-- where a walk over the items has come
pub record Onward (i bits : ℕ) (part : List ℕ) (left : ℕ) (rest : List ℕ) (w : Came) : Type 0 where
  pub came : Came
  pub walks : walk i (flags 60 bits) 4 part w ≡ walk i (flags 60 left) 4 rest came
  pub here : came.here ≡ w.here + (length part - length rest)
  pub kind : has_front i ≡ true → came.kind ≡ w.kind

pub record Standing (i bits : ℕ) (part : List ℕ) (left : ℕ) (rest : List ℕ) : Type 0 where
  pub below : left < 2 ^ 60
  pub fewer : length rest ≤ length part
  pub onward : (w : Came) → Onward i bits part left rest w

module _ (i bits : ℕ) (part : List ℕ) where
  pub stand_first : bits < 2 ^ 60 → Standing i bits part bits part
  stand_first b = record { below = b; fewer = omega arith; onward = λ w. record { came = w; walks = refl; here = omega arith; kind = λ g. refl } }

  pub stand_next : (left : ℕ) (rest : List ℕ) (s : Standing i bits part left rest) (f : ℕ) → First left f → (n : ℕ) → check_at i f rest ≡ ok n → Standing i bits part (left - 2 ^ (63 - f)) (take (length rest - n) (drop n rest))
  stand_next left rest s f x n c =
      let d : left - 2 ^ (63 - f) < 2 ^ (63 - f) = first_rest left f x in
      let j : 4 ≤ f = first_from left f x 4 s.below in
      let l : n ≤ length rest = check_within i f rest n c in
      let m : length (drop n rest) ≡ length rest - n = length-drop n rest in
      let e₁ : 60 ≡ f - 4 + (64 - f) = omega (arith, x.few) in
      let e₂ : 4 + (f - 4) ≡ f = omega arith in
      let e₃ : f + 1 ≡ 4 + (f - 3) = omega arith in
      let e₄ : f - 3 + (63 - f) ≡ 60 = omega (arith, x.few) in
      record {
        below = omega (arith, s.below);
        fewer = rw to_end (omega (arith, s.fewer));
        onward = λ y.
            let w : Came = (s.onward y).came in
            let v : Came = passed i f n (take n rest) w in
            record {
              came = v;
              walks =
                  (s.onward y).walks
                  ∙ ap (λ y. walk i (flags y left) 4 rest w) e₁
                  ∙ walk_skip i (f - 4) (64 - f) 4 left rest w x.none_before
                  ∙ ap₂ (λ ts y. walk i ts y rest w) (first_flags left f x) e₂
                  ∙ one i f n (flags (63 - f) (left - 2 ^ (63 - f))) rest w c
                  ∙ ap (λ y. walk i (flags (63 - f) (left - 2 ^ (63 - f))) y (drop n rest) v) e₃
                  ∙ sym (walk_skip i (f - 3) (63 - f) 4 (left - 2 ^ (63 - f)) (drop n rest) v d)
                  ∙ ap₂ (λ y r. walk i (flags y (left - 2 ^ (63 - f))) 4 r v) e₄ (sym (to_end rest n));
              here = ap (λ z. z + n) (s.onward y).here ∙ rw to_end (omega (arith, s.fewer));
              kind = λ g. kind_stays i f n (take n rest) w g (omega arith) ∙ (s.onward y).kind g;
            };
      }

  pub stand_end : (left n : ℕ) (rest : List ℕ) → Standing i bits part left rest → left ≡ 0 → n ≡ length part - length rest → Later i bits part (Some n)
  stand_end left n rest s z e = (
    omega arith,
    λ w. record {
      came = (s.onward w).came;
      walks = (s.onward w).walks ∙ ap (λ x. walk i (flags 60 x) 4 rest (s.onward w).came) z ∙ walk_none i 60 4 rest (s.onward w).came;
      here = (s.onward w).here ∙ ap (λ x. w.here + x) (sym e);
      kind = (s.onward w).kind;
    },
  )

-- ---- all items of a set that has FRN 1 to 3

module _ (i bits : ℕ) (part : List ℕ) (h : i < profile_count) (f : has_front i ≡ true) (o : Octets part) (b : bits / 2 ^ 60 ≡ 7) where
  bits_below : bits < 2 ^ (3 + 60)
  bits_below = omega arith

  pub seven : flags 63 bits ≡ true ∷ true ∷ true ∷ flags 60 (bits % 2 ^ 60)
  unfolding flags
  seven = flags_split 3 60 bits bits_below ∙ ap (λ x. flags 3 x ++ flags 60 (bits % 2 ^ 60)) b

  -- the first three, and then those from FRN 4 on
  pub pass_three : (m n : ℕ) → m ≡ front_octets i → m ≤ length part → Later i (bits % 2 ^ 60) (take (length part - m) (drop m part)) (Some n) → (k : ℕ) → Walks i bits part (m + n) k
  pass_three m n em l g k =
      let us : List Bool = flags 60 (bits % 2 ^ 60) in
      let l₁ : front_octets i ≤ length part = omega (arith, em) in
      let u : Came = third i us part k h f o l₁ in
      let q : Goes i (bits % 2 ^ 60) (take (length part - m) (drop m part)) n u = g.1 u in
      record {
        came = q.came;
        walks =
            ap (λ ts. walk i ts 1 part (start_at k)) seven
            ∙ first_three_lem i us part k h f o l₁
            ∙ ap (λ r. walk i us 4 r u) (ap (λ x. drop x part) (sym em) ∙ sym (to_end part m))
            ∙ q.walks;
        here = q.here ∙ (let e : u.here + n ≡ k + (m + n) = omega (arith, em, third_here i us part k h f o l₁) in e);
        kind = q.kind f ∙ third_kind i us part k h f o l₁;
      }

  -- the first seven, where those after the third are free
  module _ (v n : ℕ) (ev : v ≡ bits / 2 ^ 56 % 16) (a : all_free i 4 (flags 4 v) ≡ true) (en : n ≡ front_octets i + free_sum i 4 (flags 4 v)) (l : n ≤ length part) where
    low : bits % 2 ^ 60 % 2 ^ 56 ≡ bits % 2 ^ 56
    low = omega arith

    high : bits % 2 ^ 60 / 2 ^ 56 ≡ v
    high = omega arith

    four : flags 60 (bits % 2 ^ 60) ≡ flags 4 v ++ flags 56 (bits % 2 ^ 56)
    four = flags_split 4 56 (bits % 2 ^ 60) (mod-lt bits (pow_pos 60)) ∙ ap₂ (λ x y. flags 4 x ++ flags 56 y) high low

    pub pass_seven : (m : ℕ) → Later i (bits % 2 ^ 56) (take (length part - n) (drop n part)) (Some m) → (k : ℕ) → Walks i bits part (n + m) k
    pass_seven m g k =
        let m₁ : ℕ = front_octets i in
        let l₁ : m₁ ≤ length part = omega arith in
        let u : Came = third i (flags 60 (bits % 2 ^ 60)) part k h f o l₁ in
        let s : Skipped i (4 + length (flags 4 v)) (free_sum i 4 (flags 4 v)) (flags 56 (bits % 2 ^ 56)) (drop m₁ part) u (walk i (flags 4 v ++ flags 56 (bits % 2 ^ 56)) 4 (drop m₁ part) u) =
        skip_free i 4 (flags 4 v) (flags 56 (bits % 2 ^ 56)) (drop m₁ part) u h f (omega arith) (omega (arith, flags_length 4 v)) (octets_drop m₁ part o) a (omega (arith, length-drop m₁ part)) in
        let q : Goes i (bits % 2 ^ 56) (take (length part - n) (drop n part)) m s.came = g.1 s.came in
        record {
          came = q.came;
          walks =
              ap (λ ts. walk i ts 1 part (start_at k)) seven
              ∙ first_three_lem i (flags 60 (bits % 2 ^ 60)) part k h f o l₁
              ∙ ap (λ ts. walk i ts 4 (drop m₁ part) u) four
              ∙ s.walks
              ∙ ap (λ x. walk i (flags 56 (bits % 2 ^ 56)) (4 + x) (drop (free_sum i 4 (flags 4 v)) (drop m₁ part)) s.came) (flags_length 4 v)
              ∙ ap (λ r. walk i (flags 56 (bits % 2 ^ 56)) 8 r s.came) (drop-drop (free_sum i 4 (flags 4 v)) m₁ part ∙ ap (λ x. drop x part) (sym en) ∙ sym (to_end part n))
              ∙ sym (walk_skip i 4 56 4 (bits % 2 ^ 56) (take (length part - n) (drop n part)) s.came (mod-lt bits (pow_pos 56)))
              ∙ q.walks;
          here = q.here ∙ ap (λ x. x + m) s.here ∙ (let e : u.here + free_sum i 4 (flags 4 v) + m ≡ k + (n + m) = omega (arith, third_here i (flags 60 (bits % 2 ^ 60)) part k h f o l₁) in e);
          kind = q.kind f ∙ s.kind ∙ third_kind i (flags 60 (bits % 2 ^ 60)) part k h f o l₁;
        }

-- ---- the record

module _ (i : ℕ) (bs : List ℕ) (known : (j : ℕ) → Fits w8 (get_or bs j 0)) (b : length bs < 65_536) where
  clean : Octets bs
  clean = octets_all bs known

  -- the set, what the message type asks for and the items told so
  pub quick_whole : (s : Result Fspec Fault) (f : Fspec) (n : ℕ) → set_of s ≡ set_at i bs → s ≡ Ok f
      → (c x : ℕ) → c ≡ get_or (take (length bs - f.octets) (drop f.octets bs)) x 0 → x ≡ type_at i → Content true (judge_set i f.set.bits c) → Passed i f.set.bits (take (length bs - f.octets) (drop f.octets bs)) (Some n)
      → end_at i 0 bs ≡ ok (f.octets + n)
  unfolding record_by
  quick_whole s f n h e c x ec ex j p =
      let used : ℕ = f.octets in
      let w : Walks i f.set.bits (take (length bs - used) (drop used bs)) n (0 + used) = p (0 + used) in
      let r : record_by i 0 bs ≡ ok (record { start = 0; starts = w.came.starts; end = w.came.here; count = w.came.count }) =
      bind_in _ (later_in 0 (sym h ∙ ap set_of e))
      (bind_in _ (ap (λ l. walk i (flags 63 f.set.bits) 1 l (start_at (0 + used))) (sym (to_end bs used)) ∙ w.walks)
      (bind_in _ (later_in 0 (ap (judge_set i f.set.bits) (w.kind ∙ sym (ec ∙ ap (λ y. get_or (take (length bs - used) (drop used bs)) y 0) ex)) ∙ j)) refl)) in
      bind_in _ (sym (record_law i 0 bs clean (omega arith)) ∙ r) (ap ok (w.here ∙ ap (λ x. x + n) (zero-add used)))

  -- wherever it stands
  pub end_anywhere : (k n : ℕ) → end_at i 0 bs ≡ ok n → end_at i k bs ≡ ok (k + n)
  unfolding record_at
  end_anywhere k n h =
      bind_elim _ _ h λ m p e.
      let r : RecordRead i 0 bs m = record_read i 0 bs m clean p in
      let m₁ : RecordMap = map_of (category_at i) (record { start = k; value = r.value }) in
      let q : record_at i k bs ≡ ok m₁ = later_in k (bind_in _ r.reads refl) in
      let r₁ : RecordRead i k bs m₁ = record_read i k bs m₁ clean q in
      let same : r₁.rest ≡ r.rest = ap (λ x. x.1) (ok_inj (sym r₁.reads ∙ r.reads)) in
      let l : length r₁.rest ≡ length r.rest = ap length same in
      let f : m.end ≡ n = ok_inj e in
      bind_in _ q (ap ok (omega (arith, r.ends, r₁.ends)))

  pub end_within : (n : ℕ) → end_at i 0 bs ≡ ok n → n ≤ length bs
  end_within n h =
      bind_elim _ _ h λ m p e.
      let f : m.end ≡ n = ok_inj e in
      omega (arith, (record_read i 0 bs m clean p).ends)

-- the exact check's map ends where the record ends
end_in : Answer found.RecordMap → Answer ℕ
end_in (ok m) = ok m.end
end_in (refused n p) = refused n p

pub walked_end : (r : Result found.RecordMap Refusal) (a : Answer RecordMap) → Walked r a → told_as (λ m. m.end) r ≡ (a >>= λ m. ok m.end)
unfolding ◌>>=◌ end_in
walked_end (Ok m) (ok x) w = ap end_in w
walked_end (Ok m) (refused n p) w = ap end_in w
walked_end (Err r) (ok x) w = ap end_in w
walked_end (Err r) (refused n p) w = ap end_in w
