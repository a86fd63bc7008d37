-- What holds of flags as numbers, and so of a set of FRNs as the code holds it.
--
-- In order: flags end to end; flags over none; a set of flags from FRN 1 on; one set within another; one flag of a number; a set with one FRN
-- more; the first FRN of a set; all of them. Assumes nothing.
use Prim.Native.Nat.{ℕ, zero, suc, ◌+◌, ◌-◌, ◌*◌, ◌/◌, ◌%◌, ◌^◌, ◌≤◌, ◌<◌, min}
use mathlib.Core.Path.{◌≡◌, refl, sym, ap, ap₂, ◌∙◌, subst}
use mathlib.Core.Bool.{Bool, true, false, ◌&&◌}
use mathlib.Core.List.{List, [], ◌∷◌, ◌++◌}
use native.Mathlib.Omega.{arith}
use native.Mathlib.Nat.{add-zero, zero-add, suc-sub-suc, sub-zero, mod-lt, mod-eq_of_lt, mod-eq-sub-mod, pow-suc, div-eq_of_lt, add_left_cancel, suc-add, le-div_iff_mul-le, div-lt_iff_lt-mul}
use lib.Count.{count_leading_zeros, leading_top}
use lib.Pow.{pow_pos, pow_mono, pow-add, split, high, field, mod-mod-pow}
use lib.Dec.{leb, eqb}
use lib.Bits.{bit_and, and_zero_l, and_le_r, and_block}
use borrow.Author.Tests.{le-leb, lt-leb, leb-true, leb-false, eq-eqb, ne_eqb, eqb-true, eqb-false}
use lib.ListN.{length, get_or, set, replicate, length-set}
use lib.Seq.{set-get_or}
use Rattle.rules.specs.Presence.{flags, number}
use Rattle.rules.specs.Entry.{over}
use Rattle.rules.proofs.EntryLaws.{length_over}
use Rattle.rules.proofs.PresenceLaws.{flags_length, number_lt, flags_number, number_flags}
use Rattle.sets.specs.Sets.{bits_of, frns_from, frns_of, within}

-- ---- flags end to end

pub number_none : (n : ℕ) → number (replicate n false) ≡ 0
unfolding number
number_none zero = refl
number_none (suc n) = number_none n

-- the flags of a number are those of its higher bits, then those of its lower
pub flags_split : (j k n : ℕ) → n < 2 ^ (j + k) → flags (j + k) n ≡ flags j (n / 2 ^ k) ++ flags k (n % 2 ^ k)
unfolding flags
flags_split zero k n h = rw (zero-add k) (ap (flags k) (sym (mod-eq_of_lt (subst (λ m. n < 2 ^ m) (zero-add k) h))))
flags_split (suc j) k n h =
    rw (suc-add j k)
    (ap₂ ◌∷◌ (high_flag j k n)
    (flags_split j k (n % 2 ^ (j + k)) (mod-lt n (pow_pos (j + k))) ∙ ap₂ (λ a b. flags j a ++ flags k b) (field n j k) (mod-mod-pow n j k)))
  where
    high_flag : (j k n : ℕ) → leb (2 ^ (j + k)) n ≡ leb (2 ^ j) (n / 2 ^ k)
    high_flag j k n = go (leb (2 ^ (j + k)) n) refl
      where
        go : (t : Bool) → leb (2 ^ (j + k)) n ≡ t → t ≡ leb (2 ^ j) (n / 2 ^ k)
        go true e = sym (le-leb (2 ^ j) (n / 2 ^ k) ((le-div_iff_mul-le (pow_pos k)).1 (subst (λ m. m ≤ n) (pow-add 2 j k) (leb-true _ _ e))))
        go false e = sym (lt-leb (2 ^ j) (n / 2 ^ k) ((div-lt_iff_lt-mul (pow_pos k)).1 (subst (λ m. n < m) (pow-add 2 j k) (leb-false _ _ e))))

-- ---- flags over none

pub over_pad : {A : Type 0} (xs : List A) (n : ℕ) (d : A) → length xs ≤ n → over xs (replicate n d) ≡ xs ++ replicate (n - length xs) d
over_pad [] n d h = ap (λ k. replicate k d) (sym (sub-zero n))
over_pad (x ∷ xs) zero d h = absurd (omega arith)
over_pad (x ∷ xs) (suc n) d h = ap (λ l. x ∷ l) (over_pad xs n d (omega arith) ∙ ap (λ k. xs ++ replicate k d) (sym (suc-sub-suc n (length xs))))

-- ---- a set of flags from FRN 1 on

pub bits_flags : (ts : List Bool) → flags 64 (bits_of ts) ≡ over (false ∷ ts) (replicate 64 false)
unfolding bits_of
bits_flags ts =
    ap (λ k. flags k (number (over (false ∷ ts) (replicate 64 false)))) (sym (length_over (false ∷ ts) (replicate 64 false)))
    ∙ flags_number (over (false ∷ ts) (replicate 64 false))

pub bits_tail : (ts : List Bool) → bits_of ts ≡ number (over ts (replicate 63 false))
unfolding bits_of number
bits_tail ts = refl

pub bits_flags_tail : (ts : List Bool) → flags 63 (bits_of ts) ≡ over ts (replicate 63 false)
bits_flags_tail ts =
    ap (flags 63) (bits_tail ts)
    ∙ ap (λ k. flags k (number (over ts (replicate 63 false)))) (sym (length_over ts (replicate 63 false)))
    ∙ flags_number (over ts (replicate 63 false))

pub bits_lt : (ts : List Bool) → bits_of ts < 2 ^ 63
bits_lt ts = rw bits_tail (subst (λ k. number (over ts (replicate 63 false)) < 2 ^ k) (length_over ts (replicate 63 false)) (number_lt (over ts (replicate 63 false))))

-- ---- one set within another

pub within_none : (n : ℕ) (us : List Bool) → within (replicate n false) us ≡ true
within_none zero us = refl
within_none (suc n) [] = within_none n []
within_none (suc n) (u ∷ us) = within_none n us

pub within_pad : (n : ℕ) (ts us : List Bool) → length ts ≤ n → length us ≤ n → within (over ts (replicate n false)) (over us (replicate n false)) ≡ within ts us
within_pad zero [] [] h k = refl
within_pad zero [] (u ∷ us) h k = absurd (omega arith)
within_pad zero (t ∷ ts) us h k = absurd (omega arith)
within_pad (suc n) [] [] h k = within_none n (replicate n false)
within_pad (suc n) [] (u ∷ us) h k = within_none n (over us (replicate n false))
within_pad (suc n) (false ∷ ts) [] h k = within_pad n ts [] (omega arith) (omega arith)
within_pad (suc n) (true ∷ ts) [] h k = refl
within_pad (suc n) (false ∷ ts) (u ∷ us) h k = within_pad n ts us (omega arith) (omega arith)
within_pad (suc n) (true ∷ ts) (u ∷ us) h k = ap (λ b. u && b) (within_pad n ts us (omega arith) (omega arith))

and_assoc : (a b c : Bool) → a && (b && c) ≡ (a && b) && c
and_assoc true b c = refl
and_assoc false b c = refl

pub within_append : (ts us vs ws : List Bool) → length ts ≡ length us → within (ts ++ vs) (us ++ ws) ≡ within ts us && within vs ws
within_append [] [] vs ws h = refl
within_append [] (u ∷ us) vs ws h = absurd (omega arith)
within_append (t ∷ ts) [] vs ws h = absurd (omega arith)
within_append (false ∷ ts) (u ∷ us) vs ws h = within_append ts us vs ws (omega arith)
within_append (true ∷ ts) (u ∷ us) vs ws h = ap (λ b. u && b) (within_append ts us vs ws (omega arith)) ∙ and_assoc u (within ts us) (within vs ws)

-- of two numbers: each flag of the first is one of the second exactly where their conjunction is the first
eqb_add : (c x y : ℕ) → eqb (c + x) (c + y) ≡ eqb x y
eqb_add c x y = go (eqb x y) refl
  where
    go : (t : Bool) → eqb x y ≡ t → eqb (c + x) (c + y) ≡ t
    go true e = eq-eqb (c + x) (c + y) (ap (λ n. c + n) (eqb-true x y e))
    go false e = ne_eqb (c + x) (c + y) (λ (p : c + x ≡ c + y). eqb-false x y e (add_left_cancel c p))

high_one : (k n : ℕ) → 2 ^ k ≤ n → n < 2 ^ suc k → n ≡ 1 * 2 ^ k + n % 2 ^ k
high_one k n l u =
    let r : n - 2 ^ k < 2 ^ k = omega (arith, pow-suc 2 k) in
    rw (mod-eq-sub-mod l, mod-eq_of_lt r) (omega arith)

low_none : (k n : ℕ) → n < 2 ^ k → n ≡ 0 * 2 ^ k + n % 2 ^ k
low_none k n l = rw (mod-eq_of_lt l) (omega arith)

and_one : (k a b : ℕ) → 2 ^ k ≤ a → a < 2 ^ suc k → 2 ^ k ≤ b → b < 2 ^ suc k → bit_and a b ≡ 2 ^ k + bit_and (a % 2 ^ k) (b % 2 ^ k)
and_one k a b p q r s =
    ap₂ bit_and (high_one k a p q) (high_one k b r s)
    ∙ and_block k 1 1 (a % 2 ^ k) (b % 2 ^ k) (mod-lt a (pow_pos k)) (mod-lt b (pow_pos k))
    ∙ ap (λ n. n + bit_and (a % 2 ^ k) (b % 2 ^ k)) (let e : 1 * 2 ^ k ≡ 2 ^ k = omega arith in e)

and_low : (k a b : ℕ) → a < 2 ^ k → bit_and a b ≡ bit_and (a % 2 ^ k) (b % 2 ^ k)
and_low k a b p =
    ap₂ bit_and (low_none k a p) (sym (split b k))
    ∙ and_block k 0 (b / 2 ^ k) (a % 2 ^ k) (b % 2 ^ k) (mod-lt a (pow_pos k)) (mod-lt b (pow_pos k))
    ∙ ap (λ n. n * 2 ^ k + bit_and (a % 2 ^ k) (b % 2 ^ k)) (and_zero_l (b / 2 ^ k))
    ∙ (let e : 0 * 2 ^ k + bit_and (a % 2 ^ k) (b % 2 ^ k) ≡ bit_and (a % 2 ^ k) (b % 2 ^ k) = omega arith in e)

pub and_within : (k a b : ℕ) → a < 2 ^ k → b < 2 ^ k → eqb (bit_and a b) a ≡ within (flags k a) (flags k b)
unfolding flags
and_within zero a b h j =
    let z : a ≡ 0 = omega arith in
    eq-eqb (bit_and a b) a (ap (λ n. bit_and n b) z ∙ and_zero_l b ∙ sym z)
and_within (suc k) a b h j = go (leb (2 ^ k) a) (leb (2 ^ k) b) refl refl (and_within k (a % 2 ^ k) (b % 2 ^ k) (mod-lt a (pow_pos k)) (mod-lt b (pow_pos k)))
  where
    go : (s t : Bool) → leb (2 ^ k) a ≡ s → leb (2 ^ k) b ≡ t
        → eqb (bit_and (a % 2 ^ k) (b % 2 ^ k)) (a % 2 ^ k) ≡ within (flags k (a % 2 ^ k)) (flags k (b % 2 ^ k))
        → eqb (bit_and a b) a ≡ within (s ∷ flags k (a % 2 ^ k)) (t ∷ flags k (b % 2 ^ k))
    go true true p q ih =
        ap₂ eqb (and_one k a b (leb-true _ _ p) h (leb-true _ _ q) j) (high_one k a (leb-true _ _ p) h ∙ (let e : 1 * 2 ^ k + a % 2 ^ k ≡ 2 ^ k + a % 2 ^ k = omega arith in e))
        ∙ eqb_add (2 ^ k) (bit_and (a % 2 ^ k) (b % 2 ^ k)) (a % 2 ^ k)
        ∙ ih
    go true false p q ih =
        ne_eqb (bit_and a b) a (λ (e : bit_and a b ≡ a). absurd (omega (arith, and_le_r a b, leb-true (2 ^ k) a p, leb-false (2 ^ k) b q)))
    go false t p q ih = ap₂ eqb (and_low k a b (leb-false _ _ p)) (sym (mod-eq_of_lt (leb-false _ _ p))) ∙ ih

-- ---- one flag of a number

first_flag : (k n : ℕ) → n < 2 ^ suc k → leb (2 ^ k) n ≡ eqb (n / 2 ^ k % 2) 1
first_flag k n h = go (leb (2 ^ k) n) refl
  where
    go : (t : Bool) → leb (2 ^ k) n ≡ t → t ≡ eqb (n / 2 ^ k % 2) 1
    go true e =
        let l : 2 ^ k ≤ n = leb-true _ _ e in
        let q : n / 2 ^ k ≡ 1 = ap (λ m. m / 2 ^ k) (high_one k n l h) ∙ high 1 k (mod-lt n (pow_pos k)) in
        sym (eq-eqb (n / 2 ^ k % 2) 1 (ap (λ m. m % 2) q))
    go false e = sym (ne_eqb (n / 2 ^ k % 2) 1 (λ (p : n / 2 ^ k % 2 ≡ 1). absurd (omega (arith, div-eq_of_lt (leb-false (2 ^ k) n e)))))

-- of what is left of a number below a bit, the lower bits are the number's
lower : (n j k : ℕ) → j < k → n % 2 ^ k / 2 ^ j % 2 ≡ n / 2 ^ j % 2
lower n j k h =
    let e : k ≡ (k - suc j) + 1 + j = omega arith in
    ap (λ m. n % 2 ^ m / 2 ^ j % 2) e
    ∙ ap (λ m. m % 2) (field n (k - suc j + 1) j)
    ∙ mod-mod-pow (n / 2 ^ j) (k - suc j) 1

pub flag_at : (k n f : ℕ) → n < 2 ^ k → f < k → get_or (flags k n) f false ≡ eqb (n / 2 ^ (k - suc f) % 2) 1
unfolding flags
flag_at zero n f h l = absurd (omega arith)
flag_at (suc k) n zero h l = first_flag k n h ∙ ap (λ j. eqb (n / 2 ^ j % 2) 1) (sym (suc-sub-suc k 0 ∙ sub-zero k))
flag_at (suc k) n (suc f) h l =
    flag_at k (n % 2 ^ k) f (mod-lt n (pow_pos k)) (omega arith)
    ∙ ap (λ m. eqb m 1) (lower n (k - suc f) k (omega arith))
    ∙ ap (λ j. eqb (n / 2 ^ j % 2) 1) (sym (suc-sub-suc k (suc f)))

-- of a set of FRNs
pub has_bit : (bits f : ℕ) → bits < 2 ^ 64 → f < 64 → get_or (flags 64 bits) f false ≡ eqb (bits / 2 ^ (63 - f) % 2) 1
has_bit bits f h l = let e : 64 - suc f ≡ 63 - f = omega arith in flag_at 64 bits f h l ∙ ap (λ j. eqb (bits / 2 ^ j % 2) 1) e

pub flag_past : (k n f : ℕ) → k ≤ f → get_or (flags k n) f false ≡ false
unfolding flags
flag_past zero n f h = refl
flag_past (suc k) n zero h = absurd (omega arith)
flag_past (suc k) n (suc f) h = flag_past k (n % 2 ^ k) f (omega arith)

-- one flag more
number_set : (ts : List Bool) (f : ℕ) → f < length ts → get_or ts f false ≡ false → number (set ts f true) ≡ number ts + 2 ^ (length ts - suc f)
unfolding number
number_set [] f l h = absurd (omega arith)
number_set (true ∷ ts) zero l h = let z : ◌≡◌ {A = ℕ} 0 1 = cc in absurd (omega arith)
number_set (false ∷ ts) zero l h = rw (suc-sub-suc (length ts) 0, sub-zero (length ts)) (omega arith)
number_set (true ∷ ts) (suc f) l h = rw (number_set ts f (omega arith) h, length-set ts f true, suc-sub-suc (length ts) (suc f)) (omega arith)
number_set (false ∷ ts) (suc f) l h = rw (number_set ts f (omega arith) h, suc-sub-suc (length ts) (suc f))

pub flag_more : (k n f : ℕ) → n < 2 ^ k → f < k → get_or (flags k n) f false ≡ false → flags k (n + 2 ^ (k - suc f)) ≡ set (flags k n) f true
flag_more k n f h l e =
    let s : length (set (flags k n) f true) ≡ k = length-set (flags k n) f true ∙ flags_length k n in
    ap (λ m. flags k (m + 2 ^ (k - suc f))) (sym (number_flags k n h))
    ∙ ap (λ j. flags k (number (flags k n) + 2 ^ (j - suc f))) (sym (flags_length k n))
    ∙ ap (flags k) (sym (number_set (flags k n) f (rw (flags_length k n) l) e))
    ∙ ap (λ j. flags j (number (set (flags k n) f true))) (sym s)
    ∙ flags_number (set (flags k n) f true)

pub flag_more_lt : (k n f : ℕ) → n < 2 ^ k → f < k → get_or (flags k n) f false ≡ false → n + 2 ^ (k - suc f) < 2 ^ k
flag_more_lt k n f h l e =
    let s : length (set (flags k n) f true) ≡ k = length-set (flags k n) f true ∙ flags_length k n in
    let v : number (set (flags k n) f true) ≡ n + 2 ^ (k - suc f) =
    number_set (flags k n) f (rw (flags_length k n) l) e ∙ ap₂ (λ m j. m + 2 ^ (j - suc f)) (number_flags k n h) (flags_length k n) in
    subst (λ m. m < 2 ^ k) v (subst (λ j. number (set (flags k n) f true) < 2 ^ j) s (number_lt (set (flags k n) f true)))

pub flag_same : (k n f : ℕ) → get_or (flags k n) f false ≡ true → flags k n ≡ set (flags k n) f true
flag_same k n f e = sym (ap (set (flags k n) f) (sym e) ∙ set-get_or (flags k n) f false)

-- a set is told by its flags
pub flags_same : (k a b : ℕ) → a < 2 ^ k → b < 2 ^ k → flags k a ≡ flags k b → a ≡ b
flags_same k a b h j e = sym (number_flags k a h) ∙ ap number e ∙ number_flags k b j

-- the set that no FRN is in
pub flags_none : flags 64 0 ≡ replicate 64 false
unfolding flags
flags_none = refl

pub bits_none : (bits : ℕ) → bits < 2 ^ 64 → flags 64 bits ≡ replicate 64 false → bits ≡ 0
bits_none bits h e = flags_same 64 bits 0 h (omega arith) (e ∙ sym flags_none)

-- ---- a set with one FRN more: f is the FRN as it is held, t whether it is there already, w its bit

module _ (bits frn f w : ℕ) {t : Bool} (fits : bits < 2 ^ 64) (e : f ≡ min frn 63) (h : t ≡ get_or (flags 64 bits) f false) (n : t ≡ false) (is : w ≡ 2 ^ (63 - f)) where
  weight_is : w ≡ 2 ^ (64 - suc f)
  weight_is = let z : 63 - f ≡ 64 - suc f = omega arith in is ∙ ap (λ k. 2 ^ k) z

  pub with_more : flags 64 (bits + w) ≡ set (flags 64 bits) (min frn 63) true
  with_more =
      ap (λ k. flags 64 (bits + k)) weight_is
      ∙ flag_more 64 bits f fits (omega arith) (sym h ∙ n)
      ∙ ap (λ k. set (flags 64 bits) k true) e

  pub with_fits : bits + w < 2 ^ 64
  with_fits = rw weight_is (flag_more_lt 64 bits f fits (omega arith) (sym h ∙ n))

-- ---- the first FRN of a set: as many zeros stand before its bit as its number says

pub record First (left f : ℕ) : Type 0 where
  pub few : f ≤ 63
  pub there : 2 ^ (63 - f) ≤ left
  pub none_before : left < 2 ^ (64 - f)

pub first : (left : ℕ) → (left ≡ 0 → ⊥) → left < 2 ^ 64 → First left (count_leading_zeros 64 left)
first left some below =
    let t = leading_top 64 left (go left some) below in
    let e : 63 - count_leading_zeros 64 left ≡ t.0 = omega (arith, t.1) in
    let g : 64 - count_leading_zeros 64 left ≡ suc t.0 = omega (arith, t.1) in
    record { few = omega (arith, t.1); there = rw e t.2; none_before = rw g t.3 }
  where
    go : (n : ℕ) → (n ≡ 0 → ⊥) → 0 < n
    go zero h = absurd (h refl)
    go (suc n) h = omega arith

module _ (left f : ℕ) (t : First left f) where
  -- no flag from another FRN on is set before it
  pub first_from : (j : ℕ) → left < 2 ^ (64 - j) → j ≤ f
  first_from j h = go (leb j f) refl
    where
      go : (b : Bool) → leb j f ≡ b → j ≤ f
      go true e = leb-true _ _ e
      go false e =
          let k : f < j = leb-false _ _ e in
          let p : 2 ^ (64 - j) ≤ 2 ^ (63 - f) = pow_mono (omega arith) in
          absurd (omega (arith, t.there))

  one_less : 64 - f ≡ suc (63 - f)
  one_less = omega (arith, t.few)

  -- what is left of the set without it
  pub first_rest : left - 2 ^ (63 - f) < 2 ^ (63 - f)
  first_rest = let e : 2 ^ (64 - f) ≡ 2 ^ (63 - f) * 2 = ap (λ k. 2 ^ k) one_less ∙ pow-suc 2 (63 - f) in omega (arith, t.there, t.none_before)

  pub first_flags : flags (64 - f) left ≡ true ∷ flags (63 - f) (left - 2 ^ (63 - f))
  unfolding flags
  first_flags =
      let m : left % 2 ^ (63 - f) ≡ left - 2 ^ (63 - f) = mod-eq-sub-mod t.there ∙ mod-eq_of_lt first_rest in
      rw (one_less, le-leb (2 ^ (63 - f)) left t.there, m)

-- ---- the FRNs of a set

-- those before the first bit that can be set are not there
pub frns_skip : (j m f left : ℕ) → left < 2 ^ m → frns_from f (flags (j + m) left) ≡ frns_from (f + j) (flags m left)
unfolding flags
frns_skip zero m f left h = ap₂ (λ x y. frns_from y (flags x left)) (zero-add m) (sym (add-zero f))
frns_skip (suc j) m f left h =
    let k : left < 2 ^ (j + m) = (let p : 2 ^ m ≤ 2 ^ (j + m) = pow_mono (omega arith) in omega arith) in
    let e : suc j + m ≡ suc (j + m) = omega arith in
    let g : suc f + j ≡ f + suc j = omega arith in
    ap (λ x. frns_from f (flags x left)) e
    ∙ rw (lt-leb (2 ^ (j + m)) left k, mod-eq_of_lt k) (frns_skip j m (suc f) left h)
    ∙ ap (λ x. frns_from x (flags m left)) g

pub frns_none : frns_of 0 ≡ []
unfolding frns_of flags
frns_none = refl

pub frns_next : (left : ℕ) → (left ≡ 0 → ⊥) → left < 2 ^ 64 → frns_of left ≡ count_leading_zeros 64 left ∷ frns_of (left - 2 ^ (63 - count_leading_zeros 64 left))
unfolding frns_of
frns_next left some below =
    let f : ℕ = count_leading_zeros 64 left in
    let t : First left f = first left some below in
    let others : ℕ = left - 2 ^ (63 - f) in
    let a : f + (64 - f) ≡ 64 = omega (arith, t.few) in
    let b : suc f + (63 - f) ≡ 64 = omega (arith, t.few) in
    let g : 0 + f ≡ f = omega arith in
    let h : 0 + suc f ≡ suc f = omega arith in
    ap (λ n. frns_from 0 (flags n left)) (sym a)
    ∙ frns_skip f (64 - f) 0 left t.none_before
    ∙ ap₂ frns_from g (first_flags left f t)
    ∙ ap (λ l. f ∷ l) (ap (λ n. frns_from n (flags (63 - f) others)) (sym h) ∙ sym (frns_skip (suc f) (63 - f) 0 others (first_rest left f t)) ∙ ap (λ n. frns_from 0 (flags n others)) b)

-- a set is told by its FRNs
frns_low : (x g : ℕ) (ts : List Bool) (xs : List ℕ) → x < g → frns_from g ts ≡ x ∷ xs → ⊥
frns_low x g [] xs h e = cc
frns_low x g (false ∷ ts) xs h e = frns_low x (suc g) ts xs (omega arith) e
frns_low x g (true ∷ ts) xs h e = let z : g ≡ x = cc in absurd (omega arith)

frns_told : (f : ℕ) (ts us : List Bool) → length ts ≡ length us → frns_from f ts ≡ frns_from f us → ts ≡ us
frns_told f [] [] h e = refl
frns_told f [] (u ∷ us) h e = absurd (omega arith)
frns_told f (t ∷ ts) [] h e = absurd (omega arith)
frns_told f (false ∷ ts) (false ∷ us) h e = ap (λ l. false ∷ l) (frns_told (suc f) ts us (omega arith) e)
frns_told f (true ∷ ts) (true ∷ us) h e = ap (λ l. true ∷ l) (frns_told (suc f) ts us (omega arith) (cc))
frns_told f (false ∷ ts) (true ∷ us) h e = absurd (frns_low f (suc f) ts _ (omega arith) e)
frns_told f (true ∷ ts) (false ∷ us) h e = absurd (frns_low f (suc f) us _ (omega arith) (sym e))

pub frns_same : (a b : ℕ) → a < 2 ^ 64 → b < 2 ^ 64 → frns_of a ≡ frns_of b → a ≡ b
unfolding frns_of
frns_same a b h j e = flags_same 64 a b h j (frns_told 0 (flags 64 a) (flags 64 b) (flags_length 64 a ∙ sym (flags_length 64 b)) e)
