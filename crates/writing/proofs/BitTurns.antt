-- What the two walks over the bits of a primary octet do, turn by turn: the first sizes each subfield, the second lays it.
--
-- In order: a bit and those after it; the first walk; the second walk. Assumes nothing.
use Rattle.tables.specs.Tables.{kind_digit}
use Prim.Native.Nat.{ℕ, suc, ◌+◌, ◌-◌, ◌*◌, ◌^◌, ◌<◌, ◌≤◌}
use mathlib.Core.Path.{◌≡◌, refl, sym, ap, ap₂, ◌∙◌, subst}
use mathlib.Core.Bool.{Bool, true, false}
use mathlib.Core.List.{List, [], ◌∷◌, ◌++◌}
use native.Mathlib.Omega.{arith}
use native.Mathlib.Nat.{lt_of_lt_of_le, pow-suc, add-mul, mul_assoc, one-mul}
use lib.Dec.{T, leb, leb→le, lit≤}
use lib.IntN.{ℤ}
use lib.ListN.{length, length-append}
use lib.Pow.{pow_pos, pow_mono}
use lib.Seq.{sets, length-sets}
use Rattle.std.specs.Prelude.{Option, Some, None, cond, is_some, unwrap_or}
use Rattle.rules.specs.Answer.{Answer, ok, refused, ◌>>=◌}
use Rattle.rules.specs.Presence.{number}
use Rattle.rules.specs.Catalogue.{categories}
use Rattle.rules.proofs.AnswerLaws.{ok_inj, bind_in, bind_out, bind_elim, bind_cong, bind_assoc}
use Rattle.tables.specs.Tables.{subfield_count, layouts, layout_at, subfields_in, subfield_at}
use Rattle.layouts.proofs.Stores.{sets_append}
use Rattle.writing.specs.Write.{marked}
use Rattle.writing.specs.Compound.{Place, place_from, Row, join_row, row_from, sized_place, place_size, RowSized, row_size, place_of, row_of}
use Rattle.writing.proofs.Sound.{every, every_at}
use Rattle.writing.proofs.LaidLaws.{marked_lt}
use Rattle.writing.proofs.Handed.{refused_before}
use Rattle.writing.proofs.PlaceLaws.{place_facts}

-- ---- a bit and those after it

-- a subfield is fixed or a list
subs_few : T (every (λ i. leb (kind_digit (layout_at i).kind) 2) subfields_in)
unfolding subfields_in layout_at layouts categories
subs_few = tt

pub sub_few : (i : ℕ) → kind_digit (layout_at (subfield_at i)).kind ≤ 2
unfolding subfield_at subfields_in layout_at layouts categories
sub_few i = leb→le _ _ (every_at (λ i. leb (kind_digit (layout_at i).kind) 2) subfields_in 0 subs_few tt i)

pub kind_few : (i : ℕ) {s : ℕ} → s ≡ subfield_at i → kind_digit (layout_at s).kind ≤ 2
kind_few i e = subst (λ x. kind_digit (layout_at x).kind ≤ 2) (sym e) (sub_few i)

pub sub_many : subfield_count ≤ 10_000
unfolding subfields_in layouts categories
sub_many = lit≤ tt

-- the bits so far, and those that are left
joined : (n : ℕ) (t : Bool) (ts : List Bool) → n * 2 ^ suc (length ts) + number (t ∷ ts) ≡ marked true t n * 2 ^ length ts + number ts
unfolding number
joined n true ts =
    rw (pow-suc 2 (length ts), add-mul (n * 2) 1 (2 ^ length ts), one-mul (2 ^ length ts), mul_assoc n 2 (2 ^ length ts))
    (omega (arith, ap (λ x. n * x) (two (2 ^ length ts))))
  where
    two : (x : ℕ) → x * 2 ≡ 2 * x
    two x = omega arith
joined n false ts =
    rw (pow-suc 2 (length ts), mul_assoc n 2 (2 ^ length ts)) (omega (arith, ap (λ x. n * x) (two (2 ^ length ts))))
  where
    two : (x : ℕ) → x * 2 ≡ 2 * x
    two x = omega arith

row_cons : (e i : ℕ) (vs : List ℤ) (k : ℕ) → i < e
    → row_from (e - i) i vs k ≡ (place_from (subfield_at i) vs k >>= (λ x. row_from (e - (i + 1)) (i + 1) vs x.next >>= (λ y. ok (join_row x y))))
unfolding row_from
row_cons e i vs k h = let m : e - i ≡ suc (e - (i + 1)) = omega arith in ap (λ x. row_from x i vs k) m

row_nil : (e i : ℕ) (vs : List ℤ) (k : ℕ) → e ≤ i → row_from (e - i) i vs k ≡ ok (record { flags = []; octets = []; next = k })
unfolding row_from
row_nil e i vs k h = let m : e - i ≡ 0 = omega arith in ap (λ x. row_from x i vs k) m

-- what a bit's size says: whether the subfield is there, and its octets, none where it is not
pub sized_says : (i : ℕ) (vs : List ℤ) (k : ℕ) (p : Place) → place_from i vs k ≡ ok p → {o : Option ℕ} {t : Bool} {s : ℕ} → o ≡ (sized_place p).octets → t ≡ is_some o → s ≡ unwrap_or o 0
    → (t ≡ p.there) × (s ≡ length p.octets)
sized_says i vs k p h eo et es =
    let d = go p.there p.octets (place_facts i vs k p h).1 in
    (et ∙ ap is_some eo ∙ d.0, es ∙ ap (λ o. unwrap_or o 0) eo ∙ d.1)
  where
    go : (t : Bool) (bs : List ℕ) → (t ≡ false → bs ≡ []) → (is_some (cond t (Some (length bs)) None) ≡ t) × (unwrap_or (cond t (Some (length bs)) None) 0 ≡ length bs)
    go true bs e = (refl, refl)
    go false bs e = (refl, sym (ap length (e refl)))

size_ok : (i : ℕ) (vs : List ℤ) (k : ℕ) {o : Option ℕ} {t : Bool} {s n : ℕ} → ok (record { octets = o; next = n }) ≡ place_size i vs k → t ≡ is_some o → s ≡ unwrap_or o 0
    → (p : Place) × (place_from i vs k ≡ ok p) × ((p.there ≡ t) × ((length p.octets ≡ s) × (p.next ≡ n)))
unfolding place_size
size_ok i vs k h et es =
    bind_elim _ _ (sym h) λ p q h₁.
    let d = ok_inj h₁ in
    let (a, b) = sized_says i vs k p q (sym (ap (λ x. x.octets) d)) et es in
    (p, q, (sym a, (sym b, ap (λ x. x.next) d)))

size_no : (i : ℕ) (vs : List ℤ) (k : ℕ) {x y : ℕ} → refused x y ≡ place_size i vs k → place_from i vs k ≡ refused x y
unfolding place_size
size_no i vs k h = refused_before _ (place_from i vs k) h

-- ---- the first walk

-- the bits and octets so far, and what is left
abbrev summed : ℕ → ℕ → Row → Answer RowSized
summed n s y = ok (record { bits = n * 2 ^ length y.flags + number y.flags; size = s + length y.octets; next = y.next })

pub record Summing (first : ℕ) (vs : List ℤ) (at e i n s k : ℕ) : Type 0 where
  pub end_is : e ≡ first + 7
  pub from : first ≤ i
  pub few : i ≤ e
  pub small : n < 2 ^ (i - first)
  pub short : s ≤ 2_041 * (i - first)
  pub same : (row_from (e - i) i vs k >>= summed n s) ≡ row_size first vs at

pub summing : (first : ℕ) (vs : List ℤ) (at : ℕ) → Summing first vs at (first + 7) first 0 0 at
unfolding row_size
summing first vs at =
    let z : first - first ≡ 0 = omega arith in
    let m : first + 7 - first ≡ 7 = omega arith in
    record {
      end_is = refl;
      from = omega arith;
      few = omega arith;
      small = ap_lt z;
      short = omega arith;
      same =
          ap (λ x. row_from x first vs at >>= summed 0 0) m
          ∙ bind_cong (row_from 7 first vs at) _ _
          (λ y.
          let a : 0 * 2 ^ length y.flags + number y.flags ≡ number y.flags = omega arith in
          let b : 0 + length y.octets ≡ length y.octets = omega arith in
          ap₂ (λ u v. ok (record { bits = u; size = v; next = y.next })) a b);
    }
  where
    ap_lt : {m : ℕ} → m ≡ 0 → 0 < 2 ^ m
    ap_lt {m} e = pow_pos m

module _ (first : ℕ) (vs : List ℤ) (at e i n s k : ℕ) (c : Summing first vs at e i n s k) where
  -- no bit is left
  pub sum_all : e ≤ i → ok (record { bits = n; size = s; next = k }) ≡ row_size first vs at
  unfolding number
  sum_all h =
      let a : n ≡ n * 2 ^ 0 + 0 = omega arith in
      let b : s ≡ s + 0 = omega arith in
      ap₂ (λ u v. ok (record { bits = u; size = v; next = k })) a b ∙ sym (bind_in _ (row_nil e i vs k h) refl) ∙ c.same

  pub bit_in : i < e → first + 7 ≤ subfield_count → i < subfield_count
  bit_in h l = omega (arith, c.end_is)

  module _ (h : i < e) where
    -- no values of it
    pub sum_no : {x y : ℕ} → refused x y ≡ place_size (subfield_at i) vs k → refused x y ≡ row_size first vs at
    sum_no d = sym (bind_out _ (row_cons e i vs k h ∙ bind_out _ (size_no (subfield_at i) vs k d))) ∙ c.same

    pub mark_fits_lem : (t : Bool) → marked true t n < 2 ^ 64
    mark_fits_lem t = lt_of_lt_of_le (marked_lt true t (i - first) n c.small) (pow_mono {j = 64} (omega (arith, c.end_is, c.few)))

    module _ {o : Option ℕ} {t : Bool} {x k' : ℕ} (d : ok (record { octets = o; next = k' }) ≡ place_size (subfield_at i) vs k) (et : t ≡ is_some o) (ex : x ≡ unwrap_or o 0) where
      pub sum_short : s + x ≤ 2_041 * (i + 1 - first)
      sum_short =
          let (p, q, r) = size_ok (subfield_at i) vs k d et ex in
          omega (arith, c.short, c.from, (place_facts (subfield_at i) vs k p q).0, r.1.0)

      pub sum_next : {m : ℕ} → m ≡ marked true t n → Summing first vs at e (i + 1) m (s + x) k'
      unfolding ◌>>=◌
      sum_next {m} em =
          let (p, q, r) = size_ok (subfield_at i) vs k d et ex in
          let w : i - first + 1 ≡ i + 1 - first = omega (arith, c.from) in
          record {
            end_is = c.end_is;
            from = omega (arith, c.from);
            few = omega arith;
            small = subst (λ y. m < 2 ^ y) w (subst (λ y. y < 2 ^ (i - first + 1)) (sym em) (marked_lt true t (i - first) n c.small));
            short = sum_short;
            same =
                ap (λ y. row_from (e - (i + 1)) (i + 1) vs y >>= summed m (s + x)) (sym r.1.1)
                ∙ bind_cong (row_from (e - (i + 1)) (i + 1) vs p.next) _ _
                (λ y.
                let a : m * 2 ^ length y.flags + number y.flags ≡ n * 2 ^ suc (length y.flags) + number (p.there ∷ y.flags) =
                ap (λ z. z * 2 ^ length y.flags + number y.flags) em ∙ sym (joined n t y.flags) ∙ ap (λ z. n * 2 ^ suc (length y.flags) + number (z ∷ y.flags)) (sym r.0) in
                let b : s + x + length y.octets ≡ s + length (p.octets ++ y.octets) = omega (arith, length-append p.octets y.octets, r.1.0) in
                ap₂ (λ u v. ok (record { bits = u; size = v; next = y.next })) a b)
                ∙ sym (bind_assoc (row_from (e - (i + 1)) (i + 1) vs p.next) _ _)
                ∙ sym (ap (λ m. m >>= summed n s) (row_cons e i vs k h ∙ bind_in _ q refl))
                ∙ c.same;
          }

-- ---- the second walk: the subfields that are left, laid where the next one goes, make the output that is to be

pub place_of_ok : {m : Answer Place} {p : Place} → m ≡ ok p → m ≡ ok (place_of m)
place_of_ok h = h ∙ ap ok (sym (ap place_of h))

pub row_of_ok : {m : Answer Row} {p : Row} → m ≡ ok p → m ≡ ok (row_of m)
row_of_ok h = h ∙ ap ok (sym (ap row_of h))

pub record Stepping (first : ℕ) (vs : List ℤ) (at start : ℕ) (out₀ : List ℕ) (e : ℕ) (out : List ℕ) (i n k q : ℕ) : Type 0 where
  pub end_is : e ≡ first + 7
  pub from : first ≤ i
  pub few : i ≤ e
  pub small : n < 2 ^ (i - first)
  pub rest : Row
  pub left : row_from (e - i) i vs k ≡ ok rest
  pub total : n * 2 ^ length rest.flags + number rest.flags ≡ number (row_of (row_from 7 first vs at)).flags
  pub last : rest.next ≡ (row_of (row_from 7 first vs at)).next
  pub long : length out ≡ length out₀
  pub end : q + length rest.octets ≡ start + length (row_of (row_from 7 first vs at)).octets
  pub room : q + length rest.octets ≤ length out₀
  pub same : sets out q rest.octets ≡ sets out₀ start (row_of (row_from 7 first vs at)).octets

pub stepping : (first : ℕ) (vs : List ℤ) (at start : ℕ) (out : List ℕ) → row_from 7 first vs at ≡ ok (row_of (row_from 7 first vs at))
    → start + length (row_of (row_from 7 first vs at)).octets ≤ length out → Stepping first vs at start out (first + 7) out first 0 at start
stepping first vs at start out h l =
    let z : first - first ≡ 0 = omega arith in
    let m : first + 7 - first ≡ 7 = omega arith in
    record {
      end_is = refl;
      from = omega arith;
      few = omega arith;
      small = subst (λ x. 0 < 2 ^ x) (sym z) (pow_pos 0);
      rest = row_of (row_from 7 first vs at);
      left = ap (λ x. row_from x first vs at) m ∙ h;
      total = omega arith;
      last = refl;
      long = refl;
      end = refl;
      room = l;
      same = refl;
    }

-- what laying a subfield asks, and what is then left
pub record Stepped (first : ℕ) (vs : List ℤ) (at start : ℕ) (out₀ : List ℕ) (e : ℕ) (out : List ℕ) (i n k q sub : ℕ) : Type 0 where
  pub passes : place_from sub vs k ≡ ok (place_of (place_from sub vs k))
  pub fit : q + length (place_of (place_from sub vs k)).octets ≤ length out
  pub next : {t : Bool} {k' q' m : ℕ} {out' : List ℕ} → out' ≡ sets out q (place_of (place_from sub vs k)).octets
      → (t ≡ (place_of (place_from sub vs k)).there) × ((k' ≡ (place_of (place_from sub vs k)).next) × (q' ≡ q + length (place_of (place_from sub vs k)).octets))
      → m ≡ marked true t n → Stepping first vs at start out₀ e out' (i + 1) m k' q'

module _ (first : ℕ) (vs : List ℤ) (at start : ℕ) (out₀ : List ℕ) (e : ℕ) (out : List ℕ) (i n k q : ℕ) (c : Stepping first vs at start out₀ e out i n k q) where
  -- all bits are laid
  pub step_all : e ≤ i
      → (out ≡ sets out₀ start (row_of (row_from 7 first vs at)).octets)
      × ((n ≡ number (row_of (row_from 7 first vs at)).flags) × ((k ≡ (row_of (row_from 7 first vs at)).next) × (q ≡ start + length (row_of (row_from 7 first vs at)).octets)))
  unfolding number
  step_all h =
      let d : c.rest ≡ record { flags = []; octets = []; next = k } = ok_inj (sym c.left ∙ row_nil e i vs k h) in
      let o : c.rest.octets ≡ [] = ap (λ y. y.octets) d in
      let b : n ≡ n * 2 ^ length c.rest.flags + number c.rest.flags = sym (ap (λ y. n * 2 ^ length y.flags + number y.flags) d ∙ omega arith) in
      (sym (ap (sets out q) o) ∙ c.same, (b ∙ c.total, (sym (ap (λ y. y.next) d) ∙ c.last, omega (arith, c.end, ap length o))))

  pub step_in : i < e → first + 7 ≤ subfield_count → i < subfield_count
  step_in h l = omega (arith, c.end_is)

  module _ (h : i < e) where
    pub step_fits : (t : Bool) → marked true t n < 2 ^ 64
    step_fits t = lt_of_lt_of_le (marked_lt true t (i - first) n c.small) (pow_mono {j = 64} (omega (arith, c.end_is, c.few)))

    -- the bit at i, and those after it
    module _ (sub : ℕ) (p : Place) (y : Row) (ep : place_from sub vs k ≡ ok p) (ey : row_from (e - (i + 1)) (i + 1) vs p.next ≡ ok y)
        (er : c.rest ≡ join_row p y) where
      of : place_of (place_from sub vs k) ≡ p
      of = ap place_of ep

      both_long : length c.rest.octets ≡ length p.octets + length y.octets
      both_long = ap (λ z. length z.octets) er ∙ length-append p.octets y.octets

      step_one : Stepped first vs at start out₀ e out i n k q sub
      step_one =
          record {
            passes = place_of_ok ep;
            fit = omega (arith, c.room, c.long, both_long, ap (λ z. length z.octets) of);
            next = λ {t} {k'} {q'} {m} {out'} eo et em.
                let o : out' ≡ sets out q p.octets = eo ∙ ap (λ z. sets out q z.octets) of in
                let t-is : t ≡ p.there = et.0 ∙ ap (λ z. z.there) of in
                let k-is : k' ≡ p.next = et.1.0 ∙ ap (λ z. z.next) of in
                let q-is : q' ≡ q + length p.octets = et.1.1 ∙ ap (λ z. q + length z.octets) of in
                let w : i - first + 1 ≡ i + 1 - first = omega (arith, c.from) in
                record {
                  end_is = c.end_is;
                  from = omega (arith, c.from);
                  few = omega arith;
                  small = subst (λ x. m < 2 ^ x) w (subst (λ x. x < 2 ^ (i - first + 1)) (sym em) (marked_lt true t (i - first) n c.small));
                  rest = y;
                  left = ap (row_from (e - (i + 1)) (i + 1) vs) k-is ∙ ey;
                  total =
                      ap (λ x. x * 2 ^ length y.flags + number y.flags) em ∙ sym (joined n t y.flags)
                      ∙ ap (λ x. n * 2 ^ suc (length y.flags) + number (x ∷ y.flags)) t-is
                      ∙ sym (ap (λ z. n * 2 ^ length z.flags + number z.flags) er) ∙ c.total;
                  last = sym (ap (λ z. z.next) er) ∙ c.last;
                  long = ap length o ∙ length-sets out q p.octets ∙ c.long;
                  end = omega (arith, c.end, both_long);
                  room = omega (arith, c.room, both_long);
                  same =
                      ap₂ (λ x z. sets x z y.octets) o q-is ∙ sym (sets_append p.octets y.octets out q) ∙ sym (ap (λ z. sets out q z.octets) er) ∙ c.same;
                };
          }

    pub step : {sub : ℕ} → sub ≡ subfield_at i → Stepped first vs at start out₀ e out i n k q sub
    step {sub} es =
        bind_elim _ _ (sym (row_cons e i vs k h) ∙ c.left) λ p ep h₁.
        bind_elim _ _ h₁ λ y ey h₂.
        step_one sub p y (ap (λ x. place_from x vs k) es ∙ ep) ey (sym (ok_inj h₂))
