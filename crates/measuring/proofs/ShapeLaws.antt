-- A record of a known shape has the size and the time that the shape's row tells.
--
-- In order: an item, by its first octet; the items of flags; the time; a record; the table. Assumes nothing.
use Prim.Native.Nat.{ℕ, ◌+◌, ◌-◌, ◌*◌, ◌%◌, ◌^◌, ◌≤◌, ◌<◌}
use mathlib.Core.Path.{◌≡◌, refl, sym, ap, ap₂, ◌∙◌, subst}
use mathlib.Core.Bool.{Bool, true, false, cond, ◌&&◌, false≢true}
use mathlib.Core.Option.{Option, none}
use mathlib.Core.List.{List, [], ◌∷◌}
use native.Mathlib.Omega.{arith}
use native.Mathlib.Nat.{add-zero, mul-zero, mul-le-mul_left}
use lib.Dec.{leb, ltb, eqb}
use lib.ListN.{length, get_or, drop}
use mir.Syntax.{w8}
use mir.Val.{Fits}
use borrow.Author.Tests.{leb-true, ltb-true, eqb-true, eq-eqb, ne_eqb, le-leb}
use Rattle.rules.specs.Answer.{Answer, ok, refused, when◌then◌else◌}
use Rattle.rules.specs.Presence.{flags}
use Rattle.rules.proofs.AnswerLaws.{if_true, if_false, both_left, both_right}
use Rattle.rules.specs.Catalogue.{categories}
use Rattle.items.specs.Answers.{profile_in}
use Rattle.sets.specs.Sets.{category_at, set_at}
use Rattle.sets.specs.Steps.{set_from, type_frn}
use Rattle.sets.proofs.SetLaws.{octets_all}
use Rattle.quick_items.specs.Item.{octets_by, row_of, tells_at, octets_at}
use Rattle.tables.specs.Tables.{group_at}
use Rattle.tables.specs.declared.tables.Kind.{Kind}
use Rattle.tables.specs.declared.tables.Kind.TheVariants as parts
use Rattle.tables.specs.Profiles.{profile_row_at}
use Rattle.tables.proofs.TableLaws.{all_below_lem}
use Rattle.quick_records.specs.Shape.{shape_count, low_number, low_octets, used_of, profile_of}
use Rattle.quick_records.proofs.ShapeLaws.{cut_same, fspec_told}
use Rattle.measuring.specs.Measure.{end_from, end_of, start_of, time_frn, is_in, is_untimed, clock_at, time_in, sized, measure_by, measure_in, measure_of}
use Rattle.measuring.specs.declared.record.Measured.{Measured}
use Rattle.measuring.specs.Shape.{is_fixed, by_first, part_octets, is_even, base_from, all_fixed, one_list, flags_before, starts_at, time_at, untimed_of, kind_of, time_of, base_of, place_of, part_of, row_by, sound_row, sound_shapes}
use Rattle.measuring.proofs.CategoryLaws.{untimed_told}
use Rattle.measuring.proofs.EndLaws.{octets_told, octets_fixed}

-- ---- an item, by its first octet

-- octets that grow by as many from 0 to 1 as from 1 to 2 do so for each 1
record Evenly (g : ℕ → ℕ) : Type 0 where
  grow : eqb (g 2) (g 1 + (g 1 - g 0)) ≡ true → (x : ℕ) → g x ≡ g 0 + x * (g 1 - g 0)

always : (n : ℕ) → Evenly (λ x. n)
always n = record {
  grow = λ e x.
      let d : n - n ≡ 0 = omega arith in
      sym (ap (λ y. n + x * y) d ∙ ap (λ y. n + y) (mul-zero x) ∙ add-zero n);
}

counted : (n : ℕ) → Evenly (λ x. 1 + x * n)
counted n = record {
  grow = λ e x.
      let d : 1 + 1 * n - (1 + 0 * n) ≡ n = omega arith in
      let s : 1 + x * n ≡ 1 + 0 * n + x * n = omega arith in
      s ∙ ap (λ y. 1 + 0 * n + x * y) (sym d);
}

led : Evenly (λ x. x)
led = record { grow = λ e x. omega arith }

extended : Evenly (λ x. 1 + x % 2)
extended = record { grow = λ e x. absurd (false≢true e) }

octets_even : (i f : ℕ) → Evenly (by_first i f)
octets_even i f = go (row_of i f).kind (group_at (row_of i f).first).octets
  where
    go : (k : Kind) (n : ℕ) → Evenly (octets_by k n)
    go parts.NoItem n = always 0
    go parts.Fixed n = always n
    go parts.Repeated n = counted n
    go parts.Led n = led
    go parts.Extended n = extended
    go parts.Compound n = extended

-- ---- the items of flags

all_fixed_lem : (i : ℕ) (ts : List Bool) (f : ℕ) (bs : List ℕ) (at : ℕ) → all_fixed i ts f ≡ true → end_from i ts f bs at ≡ at + base_from i ts f
unfolding end_from
all_fixed_lem i [] f bs at h = sym (add-zero at)
all_fixed_lem i (false ∷ ts) f bs at h = all_fixed_lem i ts (f + 1) bs at h
all_fixed_lem i (true ∷ ts) f bs at h =
    let n : ℕ = octets_at i f (drop at bs) in
    let e : n ≡ by_first i f 0 = octets_fixed i f bs at (both_left (is_fixed i f) (all_fixed i ts (f + 1)) h) in
    let s : at + n + base_from i ts (f + 1) ≡ at + (by_first i f 0 + base_from i ts (f + 1)) = omega (arith, e) in
    all_fixed_lem i ts (f + 1) bs (at + n) (both_right (is_fixed i f) (all_fixed i ts (f + 1)) h) ∙ s

one_list_lem : (i place part : ℕ) (ts : List Bool) (f : ℕ) (bs : List ℕ) (at : ℕ) → one_list i place part ts f at ≡ true
    → end_from i ts f bs at ≡ at + base_from i ts f + get_or bs place 0 * part
unfolding end_from
one_list_lem i place part [] f bs at h =
    let none : get_or bs place 0 * part ≡ 0 = ap (λ y. get_or bs place 0 * y) (eqb-true part 0 h) ∙ mul-zero (get_or bs place 0) in
    omega (arith, none)
one_list_lem i place part (false ∷ ts) f bs at h = one_list_lem i place part ts (f + 1) bs at h
one_list_lem i place part (true ∷ ts) f bs at h = go (is_fixed i f) refl h (one_list_lem i place part ts (f + 1) bs (at + by_first i f 0))
  where
    go : (t : Bool) → is_fixed i f ≡ t
        → cond t (one_list i place part ts (f + 1) (at + by_first i f 0)) (eqb at place && eqb (part_octets i f) part && is_even i f && all_fixed i ts (f + 1)) ≡ true
        → (one_list i place part ts (f + 1) (at + by_first i f 0) ≡ true
        → end_from i ts (f + 1) bs (at + by_first i f 0) ≡ at + by_first i f 0 + base_from i ts (f + 1) + get_or bs place 0 * part)
        → end_from i ts (f + 1) bs (at + octets_at i f (drop at bs)) ≡ at + (by_first i f 0 + base_from i ts (f + 1)) + get_or bs place 0 * part
    go true e q rest =
        let s : at + by_first i f 0 + base_from i ts (f + 1) ≡ at + (by_first i f 0 + base_from i ts (f + 1)) = omega arith in
        ap (λ y. end_from i ts (f + 1) bs (at + y)) (octets_fixed i f bs at e) ∙ rest q ∙ ap (λ y. y + get_or bs place 0 * part) s
    go false e q rest =
        let a : Bool = eqb at place in
        let b : Bool = eqb (part_octets i f) part in
        let c : Bool = is_even i f in
        let d : Bool = all_fixed i ts (f + 1) in
        let q₁ : a && b && c ≡ true = both_left (a && b && c) d q in
        let q₂ : a && b ≡ true = both_left (a && b) c q₁ in
        let n : ℕ = octets_at i f (drop at bs) in
        let v : tells_at i f && eqb (by_first i f 2) (by_first i f 1 + part_octets i f) ≡ true = both_right (a && b) c q₁ in
        let o : n ≡ by_first i f 0 + get_or bs place 0 * part =
        octets_told i f bs at (both_left (tells_at i f) _ v) ∙ (octets_even i f).grow (both_right (tells_at i f) _ v) (get_or bs at 0)
        ∙ ap₂ (λ y z. by_first i f 0 + get_or bs y 0 * z) (eqb-true at place (both_left a b q₂)) (eqb-true (part_octets i f) part (both_right a b q₂)) in
        let s : at + n + base_from i ts (f + 1) ≡ at + (by_first i f 0 + base_from i ts (f + 1)) + get_or bs place 0 * part = omega (arith, o) in
        all_fixed_lem i ts (f + 1) bs (at + n) (both_right (a && b && c) d q) ∙ s

-- ---- the time

starts_at_lem : (i f bits used at : ℕ) (bs : List ℕ) → starts_at i f bits used at ≡ true → start_of i f bits bs used ≡ at
unfolding start_of end_of
starts_at_lem i f bits used at bs h =
    let a : Bool = all_fixed i (flags_before f bits) 1 in
    let b : Bool = eqb (used + base_from i (flags_before f bits) 1) at in
    all_fixed_lem i (flags_before f bits) 1 bs used (both_left a b h) ∙ eqb-true _ _ (both_right a b h)

-- by the places of the time, 0 where there is none, and of the message type, and one more than the untimed type
abbrev pub time_by : ℕ → ℕ → ℕ → List ℕ → Option ℕ
time_by at kind untimed bs = when eqb at 0 then none else when eqb (get_or bs kind 0 + 1) untimed then none else clock_at bs at

time_at_lem : (i bits used at kind untimed : ℕ) (bs : List ℕ) → time_at i bits used at kind untimed ≡ true → time_in i bits bs used ≡ time_by at kind untimed bs
unfolding time_in
time_at_lem i bits used at kind untimed bs h = go (is_in (time_frn i) bits) h
  where
    go : (t : Bool)
        → cond t (ltb 0 at && starts_at i (time_frn i) bits used at && starts_at i (type_frn i) bits used kind && eqb untimed (profile_row_at i).untimed) (eqb at 0) ≡ true
        → (when t then when is_untimed i (get_or bs (start_of i (type_frn i) bits bs used) 0) then none else clock_at bs (start_of i (time_frn i) bits bs used) else none)
        ≡ time_by at kind untimed bs
    go false e = if_false _ refl (sym (if_true _ e refl))
    go true e =
        let a : Bool = ltb 0 at in
        let b : Bool = starts_at i (time_frn i) bits used at in
        let c : Bool = starts_at i (type_frn i) bits used kind in
        let d : Bool = eqb untimed (profile_row_at i).untimed in
        let e₁ : a && b && c ≡ true = both_left (a && b && c) d e in
        let e₂ : a && b ≡ true = both_left (a && b) c e₁ in
        let some : at ≡ 0 → ⊥ = λ z. omega (arith, z, ltb-true 0 at (both_left a b e₂)) in
        if_true _ refl
        (ap₂ (λ x y. when is_untimed i (get_or bs x 0) then none else clock_at bs y) (starts_at_lem i (type_frn i) bits used kind bs (both_right (a && b) c e₁))
        (starts_at_lem i (time_frn i) bits used at bs (both_right a b e₂))
        ∙ ap (λ u. when u then none else clock_at bs at) (sym (untimed_told i (eqb-true _ _ (both_right (a && b && c) d e)) (get_or bs kind 0)))
        ∙ sym (if_false _ (ne_eqb at 0 some) refl))

-- as the code finds it
module _ (at kind untimed : ℕ) (bs : List ℕ) where
  pub time_none : at ≡ 0 → time_by at kind untimed bs ≡ none
  time_none e = if_true _ (eq-eqb at 0 e) refl

  pub time_untimed : {k : ℕ} → (at ≡ 0 → ⊥) → k ≡ get_or bs kind 0 → k + 1 ≡ untimed → time_by at kind untimed bs ≡ none
  time_untimed z ek e = if_false _ (ne_eqb at 0 z) (if_true _ (ap (λ k. eqb (k + 1) untimed) (sym ek) ∙ eq-eqb _ _ e) refl)

  pub time_clock : {k : ℕ} → (at ≡ 0 → ⊥) → k ≡ get_or bs kind 0 → (k + 1 ≡ untimed → ⊥) → time_by at kind untimed bs ≡ clock_at bs at
  time_clock z ek e = if_false _ (ne_eqb at 0 z) (if_false _ (ap (λ k. eqb (k + 1) untimed) (sym ek) ∙ ne_eqb _ _ e) refl)

-- ---- a record

measured : (i bits used n : ℕ) (t : Option ℕ) (bs : List ℕ) → set_at i bs ≡ ok (bits, used) → end_of i bits bs used ≡ n → time_in i bits bs used ≡ t → n ≤ length bs
    → measure_in i bs ≡ sized n t
unfolding measure_in
measured i bits used n t bs h e et l = ap (measure_by i bs) h ∙ if_true _ (le-leb (end_of i bits bs used) (length bs) (omega (arith, e, l))) (ap₂ sized e et)

-- of the profile of a category
pub told_measure : (cat i : ℕ) (bs : List ℕ) (r : Measured) → i ≡ profile_in cat categories → measure_in i bs ≡ r → r ≡ measure_of cat bs
unfolding measure_of
told_measure cat i bs r e h = sym h ∙ ap (λ j. measure_in j bs) e

-- the parts of a list, as a number that fits
pub parts_fit : (x k : ℕ) → x < 256 → x * (k % 16) < 4_096
parts_fit x k h =
    let l : x * (k % 16) ≤ x * 15 = mul-le-mul_left x (omega arith) in
    omega arith

-- ---- the table

module _ (t : List ℕ) (s : sound_shapes t ≡ true) (k a b : ℕ) (l : k < shape_count) (ea : a ≡ get_or t (2 * k) 0) (eb : b ≡ get_or t (2 * k + 1) 0) where
  abbrev read : Answer (ℕ × ℕ)
  read = set_from (profile_of a) (length (category_at (profile_of a)).profile) (low_octets (used_of a) a) 0 0

  abbrev within : Bool
  within = ltb 0 (used_of a) && leb (used_of a) 5

  row : sound_row a b ≡ true
  unfolding sound_shapes
  row = rw (ea, eb) (all_below_lem shape_count (λ j. sound_row (get_or t (2 * j) 0) (get_or t (2 * j + 1) 0)) k s l)

  pub shape_some : 0 < used_of a
  unfolding sound_row
  shape_some = ltb-true 0 (used_of a) (both_left (ltb 0 (used_of a)) (leb (used_of a) 5) (both_left within (row_by (profile_of a) a b read) row))

  pub shape_few : used_of a ≤ 5
  unfolding sound_row
  shape_few = leb-true (used_of a) 5 (both_right (ltb 0 (used_of a)) (leb (used_of a) 5) (both_left within (row_by (profile_of a) a b read) row))

  -- octets that start with the shape's FSPEC, of its profile
  pub shape_told : (i word x : ℕ) (t : Option ℕ) (bs : List ℕ) (r : Measured) → ((j : ℕ) → Fits w8 (get_or bs j 0)) → profile_of a ≡ i → 5 ≤ length bs
      → word ≡ low_number 5 bs → word * 2 ^ (64 - 8 * used_of a) % 2 ^ 64 ≡ a * 2 ^ (64 - 8 * used_of a) % 2 ^ 64
      → x ≡ get_or bs (place_of b) 0 → base_of b + x * part_of b ≤ length bs → time_by (time_of b) (kind_of b) (untimed_of b) bs ≡ t → r ≡ sized (base_of b + x * part_of b) t → measure_in i bs ≡ r
  unfolding sound_row end_of
  shape_told i word x t bs r known ep long ew ec ex fits et er =
      subst (λ j. measure_in j bs ≡ sized (base_of b + x * part_of b) t) ep (go read refl (both_right within (row_by (profile_of a) a b read) row)) ∙ sym er
    where
      go : (r : Answer (ℕ × ℕ)) → read ≡ r → row_by (profile_of a) a b r ≡ true → measure_in (profile_of a) bs ≡ sized (base_of b + x * part_of b) t
      go (refused n p) e y = absurd (false≢true y)
      go (ok (bits, used)) e y =
          let ts : List Bool = flags 63 bits in
          let j : ℕ = profile_of a in
          let p : Bool = eqb used (used_of a) in
          let q : Bool = time_at j bits used (time_of b) (kind_of b) (untimed_of b) in
          let r : Bool = eqb (base_of b) (used + base_from j ts 1) in
          let u : Bool = one_list j (place_of b) (part_of b) ts 1 used in
          let y₁ : p && q && r ≡ true = both_left (p && q && r) u y in
          let y₂ : p && q ≡ true = both_left (p && q) r y₁ in
          let cut : word % 2 ^ (8 * used_of a) ≡ a % 2 ^ (8 * used_of a) = cut_same word a (used_of a) shape_some shape_few ec in
          let set_is : set_at j bs ≡ ok (bits, used) = fspec_told j (used_of a) a word bs (bits, used) (octets_all bs known) shape_few long ew cut e in
          let ends : end_from j ts 1 bs used ≡ base_of b + x * part_of b =
          one_list_lem j (place_of b) (part_of b) ts 1 bs used (both_right (p && q && r) u y)
          ∙ ap₂ (λ m n. m + n * part_of b) (sym (eqb-true _ _ (both_right (p && q) r y₁))) (sym ex) in
          let time : time_in j bits bs used ≡ t = time_at_lem j bits used (time_of b) (kind_of b) (untimed_of b) bs (both_right p q y₂) ∙ et in
          measured j bits used (base_of b + x * part_of b) t bs set_is ends time fits
