-- Codes of fields and the values they stand for, as the code works them out; and that the fields of a number are the rules' own.
--
-- In order: signed numbers; values; one field; all fields of a number. Assumes nothing.
use Prim.Native.Nat.{ℕ, zero, suc, ◌+◌, ◌-◌, ◌/◌, ◌%◌, ◌<◌, ◌≤◌, ◌^◌, zero-le}
use mathlib.Core.Path.{◌≡◌, refl, sym, ap, ◌∙◌, subst}
use mathlib.Core.Bool.{Bool, true, false, cond, ◌&&◌}
use mathlib.Core.List.{List, [], ◌∷◌, map}
use native.Mathlib.Omega.{arith}
use native.Mathlib.Nat.{pow-suc, not-suc-le-zero, lt_of_lt_of_le, le_trans, mod-lt}
use lib.Dec.{leb, ltb, eqb, lit≤, leb-zero, leb-suc-zero, leb-suc-suc, eqb-suc-zero}
use lib.Pow.{pow_pos, pow_mono, shr_lt}
use lib.IntN.{ℤ, pos, negsuc}
use lib.Signed.{le_z}
use borrow.Author.Tests.{lt-ltb, le-ltb}
use mir.Syntax.{w64}
use mir.Val.{to_z, of_z}
use Rattle.rules.specs.Answer.{Answer, ok, ◌>>=◌, need◌or◌then◌, when◌then◌else◌}
use Rattle.rules.specs.Field.{Field, Kind, spare, value, unsigned, signed, bits, half, get, unpack}
use Rattle.tables.specs.declared.tables.FieldRow.{FieldRow}
use Rattle.tables.specs.declared.tables.Holds.TheVariants.{Twos}
use Rattle.tables.specs.Tables.{same_holds, minus, field_row}
use Rattle.layouts.specs.Read.{twos_of, value_of, within, is_spare, width, legal, shown, values}

-- ---- signed numbers

-- one that a local holds is read again from its bits
abbrev pub again : ℤ → ℤ
again z = to_z w64 (of_z w64 z)

-- ---- values

-- what the value is, by the kind and by the highest bit
pub value_plain : (f : FieldRow) (c : ℕ) → same_holds f.holds Twos ≡ false → value_of f c ≡ pos c
unfolding value_of
value_plain f c e = ap (λ (b : Bool). cond b (twos_of f.bits c) (pos c)) e

pub value_low : (f : FieldRow) (c : ℕ) → c < 2 ^ (f.bits - 1) → value_of f c ≡ pos c
unfolding value_of twos_of
value_low f c h = go (same_holds f.holds Twos)
  where
    go : (a : Bool) → cond a (cond (ltb c (2 ^ (f.bits - 1))) (pos c) (negsuc (2 ^ f.bits - suc c))) (pos c) ≡ pos c
    go true = ap (λ (b : Bool). cond b (pos c) (negsuc (2 ^ f.bits - suc c))) (lt-ltb c (2 ^ (f.bits - 1)) h)
    go false = refl

pub value_high : (f : FieldRow) (c : ℕ) → same_holds f.holds Twos ≡ true → 2 ^ (f.bits - 1) ≤ c → value_of f c ≡ negsuc (2 ^ f.bits - suc c)
unfolding value_of twos_of
value_high f c e h =
    ap (λ (b : Bool). cond b (cond (ltb c (2 ^ (f.bits - 1))) (pos c) (negsuc (2 ^ f.bits - suc c))) (pos c)) e
    ∙ ap (λ (b : Bool). cond b (pos c) (negsuc (2 ^ f.bits - suc c))) (le-ltb c (2 ^ (f.bits - 1)) h)

pub below63 : (b c : ℕ) → b ≤ 62 → c < 2 ^ b → c < 2 ^ 63
below63 b c s h = lt_of_lt_of_le h (pow_mono {j = 63} (le_trans s (lit≤ tt)))

-- ---- one field

pub twice : (w : ℕ) → 1 ≤ w → half w + half w ≡ 2 ^ w
twice zero h = absurd (not-suc-le-zero h)
twice (suc k) h = let e : suc k - 1 ≡ k = omega arith in rw e (omega (arith, pow-suc 2 k))

need_and : {A : Type 0} (s t : Bool) (x : Answer A) → (need s or 11 then need t or 11 then x) ≡ (need (s && t) or 11 then x)
unfolding need◌or◌then◌
need_and true t x = refl
need_and false t x = refl

pub low_minus : (lo c : ℕ) → le_z (minus lo) (pos c) ≡ true
low_minus zero c = leb-zero c
low_minus (suc n) c = refl

pub low_neg : (lo m : ℕ) → le_z (minus lo) (negsuc m) ≡ ltb m lo
low_neg zero m = sym (le-ltb m 0 zero-le)
low_neg (suc n) m = sym (leb-suc-suc m n)

pub and_last : (b : Bool) → b && true ≡ b
and_last true = refl
and_last false = refl

-- reading a code is a test of its value
get_signed : (w c lo hi : ℕ) (t : Bool) → 1 ≤ w → c < 2 ^ w → ltb c (half w) ≡ t
    → get w (signed lo hi) c ≡ (need within (field_row (value w (signed lo hi))) (twos_of w c) or 11 then ok (twos_of w c))
unfolding get within twos_of when◌then◌else◌ need◌or◌then◌
get_signed w c lo hi true h k e = rw (e, low_minus lo c)
get_signed w c lo hi false h k e =
    let b : c < half w + half w = subst (λ x. c < x) (sym (twice w h)) k in
    rw (e, lt-ltb c (half w + half w) b, twice w h, low_neg lo (2 ^ w - suc c), and_last (ltb (2 ^ w - suc c) lo))

get_is : (w c : ℕ) (k : Kind) → 1 ≤ w → c < 2 ^ w
    → get w k c ≡ (need within (field_row (value w k)) (value_of (field_row (value w k)) c) or 11 then ok (value_of (field_row (value w k)) c))
unfolding get within value_of
get_is w c (unsigned lo hi) h k = need_and (leb lo c) (leb c hi) (ok (pos c))
get_is w c (signed lo hi) h k = get_signed w c lo hi (ltb c (half w)) h k refl

pub spare_is : (w c : ℕ) → eqb c 0 ≡ within (field_row (spare w)) (value_of (field_row (spare w)) c)
unfolding within value_of
spare_is w zero = refl
spare_is w (suc c) = rw (eqb-suc-zero c, leb-suc-zero c, leb-zero (suc c))

-- ---- all fields of a number

-- each field has a bit
abbrev pub Wide : List Field → Type 0
Wide [] = Unit {0}
Wide (spare w ∷ fs) = Wide fs
Wide (value w k ∷ fs) = (1 ≤ w) × Wide fs

pub width_bits : (fs : List Field) → width (map field_row fs) ≡ bits fs
width_bits [] = refl
width_bits (spare w ∷ fs) = ap (λ n. w + n) (width_bits fs)
width_bits (value w (unsigned lo hi) ∷ fs) = ap (λ n. w + n) (width_bits fs)
width_bits (value w (signed lo hi) ∷ fs) = ap (λ n. w + n) (width_bits fs)

-- a test, then a test and a value put before
need_first : (s t : Bool) (v : ℤ) (vs : List ℤ)
    → ((need s or 11 then ok v) >>= (λ a. need true or 11 then ((need t or 11 then ok vs) >>= (λ as'. ok (a ∷ as'))))) ≡ (need (s && t) or 11 then ok (v ∷ vs))
unfolding need◌or◌then◌ ◌>>=◌
need_first true true v vs = refl
need_first true false v vs = refl
need_first false t v vs = refl

shown_value : (w : ℕ) (k : Kind) (v : ℤ) (vs : List ℤ) → shown (field_row (value w k)) v vs ≡ v ∷ vs
unfolding is_spare
shown_value w (unsigned lo hi) v vs = refl
shown_value w (signed lo hi) v vs = refl

shown_spare : (w : ℕ) (v : ℤ) (vs : List ℤ) → shown (field_row (spare w)) v vs ≡ vs
unfolding is_spare
shown_spare w v vs = refl

-- reading the fields of a number is a test of them all
pub unpack_is : (fs : List Field) (n : ℕ) → Wide fs → n < 2 ^ bits fs → unpack fs n ≡ (need legal (map field_row fs) n or 11 then ok (values (map field_row fs) n))
unfolding unpack
unpack_is [] n h k = let e : n ≡ 0 = omega arith in rw e
unpack_is (spare w ∷ fs) n h k =
    rw (width_bits fs, shown_spare w (value_of (field_row (spare w)) (n / 2 ^ bits fs)), ← spare_is w (n / 2 ^ bits fs), unpack_is fs (n % 2 ^ bits fs) h (mod-lt n (pow_pos (bits fs))))
    (need_and (eqb (n / 2 ^ bits fs) 0) (legal (map field_row fs) (n % 2 ^ bits fs)) (ok (values (map field_row fs) (n % 2 ^ bits fs))))
unpack_is (value w k ∷ fs) n h l =
    let c : n / 2 ^ bits fs < 2 ^ w = shr_lt w (bits fs) l in
    rw (get_is w (n / 2 ^ bits fs) k h.0 c, lt-ltb (n / 2 ^ bits fs) (2 ^ w) c, unpack_is fs (n % 2 ^ bits fs) h.1 (mod-lt n (pow_pos (bits fs))), width_bits fs, shown_value w k)
    (need_first
    (within (field_row (value w k)) (value_of (field_row (value w k)) (n / 2 ^ bits fs)))
    (legal (map field_row fs) (n % 2 ^ bits fs))
    (value_of (field_row (value w k)) (n / 2 ^ bits fs))
    (values (map field_row fs) (n % 2 ^ bits fs)))
