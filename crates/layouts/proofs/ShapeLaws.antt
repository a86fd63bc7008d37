-- Shapes of items: parts that follow each other as far as the FX bits say; and what the shape says of the parts.
--
-- In order: the FX bit; a turn of the loop over the parts; sound rows; the shape by how the parts lie. Assumes nothing.
use Prim.Native.Nat.{ℕ, zero, suc, ◌+◌, ◌-◌, ◌*◌, ◌%◌, ◌<◌, ◌≤◌}
use mathlib.Core.Path.{◌≡◌, refl, sym, ap, ◌∙◌, subst}
use mathlib.Core.Bool.{true, false, ◌&&◌}
use mathlib.Core.List.{List, []}
use native.Mathlib.Omega.{arith}
use native.Mathlib.Nat.{not-suc-le-zero, add-zero}
use lib.Dec.{leb, ltb, eqb}
use lib.ListN.{length, get_or, take, drop, length-drop}
use lib.Seq.{slice, drop-drop, get_or-drop}
use borrow.Author.Tests.{le-leb, lt-leb, le-ltb, lt-ltb, leb-true, eqb-true}
use Rattle.rules.specs.Answer.{Answer, ok, refused, ◌>>=◌, need◌or◌then◌, when◌then◌else◌}
use Rattle.rules.specs.Chain.{joined}
use Rattle.rules.proofs.AnswerLaws.{both_left, both_right}
use Rattle.tables.specs.declared.tables.Kind.{Kind}
use Rattle.tables.specs.declared.tables.Kind.TheVariants.{NoItem, Fixed, Repeated, Led, Extended, Compound}
use Rattle.tables.specs.declared.tables.LayoutRow.{LayoutRow}
use Rattle.tables.specs.Tables.{group_count, fields, group_at}
use Rattle.layouts.specs.Read.{holds, parts_sound, Shaped, chain, step_of, list_shape, shape_by, shape_of, is_octet, row_sound_by, row_sound}
use Rattle.layouts.proofs.OctetLaws.{joined_suc}
use Rattle.layouts.proofs.PartLaws.{PartSound, part_sound_lem, First, first_part}

-- ---- the FX bit is that of the last octet

low_bit : (bs : List ℕ) (k : ℕ) → 1 ≤ k → k ≤ length bs → joined (take k bs) % 2 ≡ get_or bs (k - 1) 0 % 2
low_bit bs zero h l = absurd (not-suc-le-zero h)
low_bit bs (suc i) h l = let e : suc i - 1 ≡ i = omega arith in rw (e, joined_suc bs i l) (omega arith)

-- ---- a turn of the loop

abbrev moved : ℕ → ℕ → Shaped → Answer Shaped
moved count at x = ok (x.0 + count, x.1 + at)

moved_none : (m : Answer Shaped) → (m >>= moved 0 0) ≡ m
unfolding ◌>>=◌
moved_none (ok x) = rw (add-zero x.0, add-zero x.1)
moved_none (refused n p) = refl

pub record Chaining (first last : ℕ) (s : List ℕ) (g at count : ℕ) : Type 0 where
  pub place : at ≤ length s
  pub few : count + first ≡ g
  pub sound : parts_sound 1 g (last - g) ≡ true
  pub same : (chain g (last - g) (drop at s) >>= moved count at) ≡ chain first (last - first) s

pub chain_begun : (first last : ℕ) (s : List ℕ) → parts_sound 1 first (last - first) ≡ true → Chaining first last s first 0 0
chain_begun first last s h =
    record { place = omega arith; few = omega arith; sound = h; same = moved_none (chain first (last - first) s) }

chain_cons : (g n : ℕ) (bs : List ℕ) → 0 < n
    → chain g n bs
    ≡ (need leb (group_at g).octets (length bs) or 9 then
    when eqb (joined (take (group_at g).octets bs) % 2) 0 then ok (1, (group_at g).octets)
    else chain (g + 1) (n - 1) (drop (group_at g).octets bs) >>= moved 1 (group_at g).octets)
unfolding chain
chain_cons g zero bs h = absurd (not-suc-le-zero h)
chain_cons g (suc n) bs h = let e : suc n - 1 ≡ n = omega arith in rw e refl

-- two moves are one
moved_twice : (m : Answer Shaped) (size count at : ℕ) → ((m >>= moved 1 size) >>= moved count at) ≡ (m >>= moved (count + 1) (at + size))
unfolding ◌>>=◌
moved_twice (ok x) size count at =
    let a : x.0 + 1 + count ≡ x.0 + (count + 1) = omega arith in
    let b : x.1 + size + at ≡ x.1 + (at + size) = omega arith in
    rw (a, b)
moved_twice (refused n p) size count at = refl

module _ (first last : ℕ) (s : List ℕ) (g at count : ℕ) (c : Chaining first last s g at count) (h : g < last) {m : ℕ} (em : m ≡ (group_at g).octets) where
  pub chain_group : First 1 g (last - g) s at
  chain_group = first_part 1 g (last - g) s at (omega arith) c.sound

  pub chain_some : 1 ≤ m
  chain_some = subst (λ x. 1 ≤ x) (sym em) (part_sound_lem 1 (group_at g) chain_group.sound).some

  whole : chain first (last - first) s
      ≡ ((need leb (m) (length (drop at s)) or 9 then
      when eqb (joined (take (m) (drop at s)) % 2) 0 then ok (1, m)
      else chain (g + 1) (last - g - 1) (drop (m) (drop at s)) >>= moved 1 (m)) >>= moved count at)
  whole = sym c.same ∙ ap (λ m. m >>= moved count at) (rw em (chain_cons g (last - g) (drop at s) (omega arith)))

  pub chain_short : length s - at < m → refused 9 0 ≡ chain first (last - first) s
  unfolding need◌or◌then◌ ◌>>=◌
  chain_short l =
      let k : length (drop at s) < m = omega (arith, length-drop at s) in
      sym (whole ∙ rw (lt-leb (m) (length (drop at s)) k))

  module _ (l : m ≤ length s - at) where
    long : leb (m) (length (drop at s)) ≡ true
    long = le-leb (m) (length (drop at s)) (omega (arith, length-drop at s))

    bit : joined (take (m) (drop at s)) % 2 ≡ get_or s (at + m - 1) 0 % 2
    bit =
        let e : at + (m - 1) ≡ at + m - 1 = omega (arith, chain_some) in
        low_bit (drop at s) (m) (chain_some) (omega (arith, length-drop at s)) ∙ ap (λ x. x % 2) (get_or-drop at s (m - 1) 0 ∙ ap (λ i. get_or s i 0) e)

    pub chain_last : eqb (get_or s (at + m - 1) 0 % 2) 0 ≡ true → ok (count + 1, at + m) ≡ chain first (last - first) s
    unfolding need◌or◌then◌ ◌>>=◌ when◌then◌else◌
    chain_last e =
        let a : 1 + count ≡ count + 1 = omega arith in
        let b : m + at ≡ at + m = omega arith in
        sym (whole ∙ rw (long, bit, e, a, b))

    pub chain_more : eqb (get_or s (at + m - 1) 0 % 2) 0 ≡ false → Chaining first last s (g + 1) (at + m) (count + 1)
    unfolding need◌or◌then◌ when◌then◌else◌
    chain_more e =
        let n : last - g - 1 ≡ last - (g + 1) = omega arith in
        record {
          place = omega arith;
          few = omega (arith, c.few);
          sound = subst (λ x. parts_sound 1 (g + 1) x ≡ true) n chain_group.rest;
          same =
              sym (whole ∙ rw (long, bit, e)
              (moved_twice (chain (g + 1) (last - g - 1) (drop (m) (drop at s))) (m) count at
              ∙ rw (drop-drop (m) at s, n)));
        }

pub chain_past : (first last : ℕ) (s : List ℕ) (g at count : ℕ) → Chaining first last s g at count → last ≤ g → refused 6 0 ≡ chain first (last - first) s
unfolding chain ◌>>=◌
chain_past first last s g at count c h =
    let z : last - g ≡ 0 = omega arith in
    sym (ap (λ n. chain g n (drop at s) >>= moved count at) z) ∙ c.same

-- ---- sound rows

pub record Rowed (l : LayoutRow) : Type 0 where
  pub parts : parts_sound (step_of l.kind) l.first l.most ≡ true
  pub room : holds (step_of l.kind) l.first l.most ≤ 8_192
  pub by : row_sound_by l.kind l.most l.first l.end ≡ true

pub rowed : (l : LayoutRow) → row_sound l ≡ true → Rowed l
unfolding row_sound
rowed l e =
    let a = parts_sound (step_of l.kind) l.first l.most in
    let b = leb (holds (step_of l.kind) l.first l.most) 8_192 in
    let c = row_sound_by l.kind l.most l.first l.end in
    let u : a && b ≡ true = both_left (a && b) c e in
    record { parts = both_left a b u; room = leb-true _ _ (both_right a b u); by = both_right (a && b) c e }

pub record Grouped (l : LayoutRow) : Type 0 where
  pub inside : l.first < group_count
  pub sound : PartSound 0 (group_at l.first)

module _ (l : LayoutRow) (r : Rowed l) where
  pub grouped : step_of l.kind ≡ 0 → 1 ≤ l.most → Grouped l
  grouped e h =
      let f : First 0 l.first l.most [] 0 = first_part 0 l.first l.most [] 0 h (subst (λ x. parts_sound x l.first l.most ≡ true) e r.parts) in
      record { inside = f.inside; sound = part_sound_lem 0 (group_at l.first) f.sound }

  by_kind : (k : Kind) → l.kind ≡ k → row_sound_by k l.most l.first l.end ≡ true
  by_kind k e = subst (λ x. row_sound_by x l.most l.first l.end ≡ true) e r.by

  step_kind : (k : Kind) → l.kind ≡ k → step_of l.kind ≡ step_of k
  step_kind k e = ap step_of e

  pub fixed_one : l.kind ≡ Fixed → l.most ≡ 1
  fixed_one e = eqb-true _ _ (both_left (eqb l.most 1) _ (by_kind Fixed e))

  pub fixed_short : l.kind ≡ Fixed → (group_at l.first).octets ≤ 7
  fixed_short e = leb-true _ _ (both_right (eqb l.most 1) _ (by_kind Fixed e))

  pub fixed_group : l.kind ≡ Fixed → Grouped l
  fixed_group e = grouped (step_kind Fixed e) (omega (arith, fixed_one e))

  pub list_group : l.kind ≡ Repeated → Grouped l
  list_group e = grouped (step_kind Repeated e) (leb-true _ _ (by_kind Repeated e))

  pub led_many : l.kind ≡ Led → l.most ≡ 254
  led_many e = let t = by_kind Led e in eqb-true _ _ (both_left (eqb l.most 254) _ (both_left (eqb l.most 254 && eqb (group_at l.first).octets 1) _ t))

  pub led_size : l.kind ≡ Led → (group_at l.first).octets ≡ 1
  led_size e = let t = by_kind Led e in eqb-true _ _ (both_right (eqb l.most 254) _ (both_left (eqb l.most 254 && eqb (group_at l.first).octets 1) _ t))

  pub led_octet : l.kind ≡ Led → is_octet (slice (group_at l.first).first (group_at l.first).end fields) ≡ true
  led_octet e = let t = by_kind Led e in both_right (eqb l.most 254 && eqb (group_at l.first).octets 1) _ t

  pub led_group : l.kind ≡ Led → Grouped l
  led_group e = grouped (step_kind Led e) (omega (arith, led_many e))

  pub chain_ends : l.kind ≡ Extended → l.first + l.most ≡ l.end
  chain_ends e = let t = by_kind Extended e in eqb-true _ _ (both_left (eqb (l.first + l.most) l.end) _ t)

  chain_many : l.kind ≡ Extended → l.most ≡ l.end - l.first
  chain_many e = omega (arith, chain_ends e)

  pub chain_inside : l.kind ≡ Extended → l.end ≤ group_count
  chain_inside e = let t = by_kind Extended e in leb-true _ _ (both_right (eqb (l.first + l.most) l.end) _ t)

  pub chain_parts_lem : l.kind ≡ Extended → parts_sound 1 l.first (l.end - l.first) ≡ true
  chain_parts_lem e = subst (λ x. parts_sound x l.first (l.end - l.first) ≡ true) (step_kind Extended e) (subst (λ x. parts_sound (step_of l.kind) l.first x ≡ true) (chain_many e) r.parts)

-- ---- the shape by how the parts lie

module _ (l : LayoutRow) (bs : List ℕ) where
  shape_kind : (k : Kind) → l.kind ≡ k → shape_of l bs ≡ shape_by k l.least l.most l.first l.end bs
  unfolding shape_of
  shape_kind k e = ap (λ x. shape_by x l.least l.most l.first l.end bs) e

  pub no_shape : l.kind ≡ NoItem → refused 21 0 ≡ shape_of l bs
  unfolding shape_by
  no_shape e = sym (shape_kind NoItem e)

  pub no_parts : l.kind ≡ Compound → refused 21 0 ≡ shape_of l bs
  unfolding shape_by
  no_parts e = sym (shape_kind Compound e)

  fixed_is : l.kind ≡ Fixed → shape_of l bs ≡ (need leb (group_at l.first).octets (length bs) or 9 then ok (1, (group_at l.first).octets))
  unfolding shape_by
  fixed_is e = shape_kind Fixed e

  pub fixed_cut : l.kind ≡ Fixed → {m : ℕ} → m ≡ (group_at l.first).octets → length bs < m → refused 9 0 ≡ shape_of l bs
  unfolding need◌or◌then◌
  fixed_cut e em h = sym (fixed_is e ∙ rw (← em, lt-leb _ _ h))

  pub fixed_there : l.kind ≡ Fixed → {m : ℕ} → m ≡ (group_at l.first).octets → m ≤ length bs → ok (1, m) ≡ shape_of l bs
  unfolding need◌or◌then◌
  fixed_there e em h = sym (fixed_is e ∙ rw (← em, le-leb _ _ h))

  pub chain_shape : l.kind ≡ Extended → chain l.first (l.end - l.first) bs ≡ shape_of l bs
  unfolding shape_by
  chain_shape e = sym (shape_kind Extended e)

  pub list_shape_lem : l.kind ≡ Repeated → 1 ≤ length bs → list_shape l.least l.most (group_at l.first).octets (get_or bs 0 0) (length bs) ≡ shape_of l bs
  unfolding shape_by need◌or◌then◌
  list_shape_lem e h = sym (shape_kind Repeated e ∙ rw (le-leb 1 (length bs) h))

  -- no count or length octet
  pub list_none : l.kind ≡ Repeated → length bs < 1 → refused 9 0 ≡ shape_of l bs
  unfolding shape_by need◌or◌then◌
  list_none e h = sym (shape_kind Repeated e ∙ rw (lt-leb 1 (length bs) h))

  pub led_none : l.kind ≡ Led → length bs < 1 → refused 9 0 ≡ shape_of l bs
  unfolding shape_by need◌or◌then◌
  led_none e h = sym (shape_kind Led e ∙ rw (lt-leb 1 (length bs) h))

  led_is : l.kind ≡ Led → 1 ≤ length bs
      → shape_of l bs ≡ (need ltb l.least (get_or bs 0 0) or 10 then need leb (get_or bs 0 0) (length bs) or 9 then ok (get_or bs 0 0 - 1, get_or bs 0 0))
  unfolding shape_by need◌or◌then◌
  led_is e h = shape_kind Led e ∙ rw (le-leb 1 (length bs) h)

  module _ (e : l.kind ≡ Led) (h : 1 ≤ length bs) {n : ℕ} (en : n ≡ get_or bs 0 0) where
    pub led_short : n ≤ l.least → refused 10 0 ≡ shape_of l bs
    unfolding need◌or◌then◌
    led_short k = sym (led_is e h ∙ rw (← en, le-ltb l.least n k))

    pub led_cut : l.least < n → length bs < n → refused 9 0 ≡ shape_of l bs
    unfolding need◌or◌then◌
    led_cut k m = sym (led_is e h ∙ rw (← en, lt-ltb l.least n k, lt-leb n (length bs) m))

    pub led_there : l.least < n → n ≤ length bs → ok (n - 1, n) ≡ shape_of l bs
    unfolding need◌or◌then◌
    led_there k m = sym (led_is e h ∙ rw (← en, lt-ltb l.least n k, le-leb n (length bs) m))

-- a list, by its count
module _ (lo hi size n have : ℕ) {m : ℕ} (er : m ≡ size) where
  pub list_cut : have < 1 + n * m → refused 9 0 ≡ list_shape lo hi size n have
  unfolding list_shape need◌or◌then◌
  list_cut h = rw (← er, lt-leb (1 + n * m) have h)

  pub list_few : 1 + n * m ≤ have → n < lo → refused 11 0 ≡ list_shape lo hi size n have
  unfolding list_shape need◌or◌then◌
  list_few h k = rw (← er, le-leb (1 + n * m) have h, lt-leb lo n k)

  pub list_many : 1 + n * m ≤ have → lo ≤ n → hi < n → refused 11 0 ≡ list_shape lo hi size n have
  unfolding list_shape need◌or◌then◌
  list_many h k l = rw (← er, le-leb (1 + n * m) have h, le-leb lo n k, lt-leb n hi l)

  pub list_there : 1 + n * m ≤ have → lo ≤ n → n ≤ hi → ok (n, 1 + n * m) ≡ list_shape lo hi size n have
  unfolding list_shape need◌or◌then◌
  list_there h k l = rw (← er, le-leb (1 + n * m) have h, le-leb lo n k, le-leb n hi l)
