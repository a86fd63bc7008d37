-- Octets and the number that they make.
--
-- In order: octets of a slice; one octet more; the loop that gathers them; how large the number is; its lowest bit. Assumes nothing.
use Prim.Native.Nat.{ℕ, zero, suc, ◌+◌, ◌-◌, ◌*◌, ◌<◌, ◌≤◌, ◌^◌}
use mathlib.Core.Path.{◌≡◌, refl, sym, ap, ◌∙◌, subst}
use mathlib.Core.List.{List, [], ◌∷◌, ◌++◌}
use native.Mathlib.Omega.{arith}
use native.Mathlib.Nat.{lt_of_lt_of_le, pow-suc}
use native.Mathlib.Numerals.{add-one}
use lib.Arith.{digits_lt}
use lib.Dec.{lit<}
use lib.ListN.{length, get_or, take, drop, length-append, length-drop}
use lib.Seq.{take-suc, length-take-le}
use lib.Pow.{pow_pos, pow-add, pow_mono}
use Rattle.rules.specs.Chain.{joined}
use Rattle.rules.proofs.AnswerLaws.{Octets}

-- ---- octets of a slice

pub octets_known : (bs : List ℕ) → ((i : ℕ) → get_or bs i 0 < 256) → Octets bs
octets_known [] h = tt
octets_known (b ∷ bs) h = (h 0, octets_known bs (λ i. h (suc i)))

-- ---- one octet more

joined_snoc : (xs : List ℕ) (b : ℕ) → joined (xs ++ (b ∷ [])) ≡ joined xs * 256 + b
unfolding joined
joined_snoc [] b = omega arith
joined_snoc (x ∷ xs) b = rw (joined_snoc xs b, length-append xs (b ∷ []), pow-add 256 (length xs) 1) (omega arith)

pub joined_suc : (bs : List ℕ) (i : ℕ) → i < length bs → joined (take (suc i) bs) ≡ joined (take i bs) * 256 + get_or bs i 0
joined_suc bs i h = rw (take-suc bs i 0) (joined_snoc (take i bs) (get_or bs i 0))

pub joined_nil : joined [] ≡ 0
unfolding joined
joined_nil = refl

-- ---- the loop that gathers them

pub pow8 : (i : ℕ) → 2 ^ (8 * (i + 1)) ≡ 2 ^ (8 * i) * 256
pow8 i = ap (λ (x : ℕ). 2 ^ x) (omega arith) ∙ pow-add 2 (8 * i) 8

pub record Gathering (s : List ℕ) (n i : ℕ) : Type 0 where
  pub le : i ≤ length s
  pub small : n < 2 ^ (8 * i)
  pub same : n ≡ joined (take i s)

pub begun : (s : List ℕ) → Gathering s 0 0
begun s = record { le = omega arith; small = pow_pos 0; same = sym joined_nil }

more_small : (n i b : ℕ) → n < 2 ^ (8 * i) → b < 256 → n * 256 + b < 2 ^ (8 * (i + 1))
more_small n i b h k = subst (λ (x : ℕ). n * 256 + b < x) (sym (pow8 i)) (digits_lt h k)

pub more_fits : (n i b : ℕ) → i < 8 → n < 2 ^ (8 * i) → b < 256 → n * 256 + b < 2 ^ 64
more_fits n i b l h k = lt_of_lt_of_le (more_small n i b h k) (pow_mono {j = 64} (omega arith))

pub times_fits : (n i : ℕ) → n < 2 ^ (8 * i) → i < 8 → n * 256 < 2 ^ 64
times_fits n i h k = omega (arith, more_fits n i 0 k h (lit< tt))

pub gathered : (s : List ℕ) (n i b : ℕ) → Gathering s n i → i < length s → (b ≡ get_or s i 0) × (b < 256) → Gathering s (n * 256 + b) (i + 1)
gathered s n i b g h eb =
    record {
      le = omega arith;
      small = more_small n i b g.small eb.1;
      same = rw (add-one i, joined_suc s i h, g.same, eb.0);
    }

pub all_read : (s : List ℕ) (n i : ℕ) → Gathering s n i → length s ≤ i → (n ≡ joined s) × (n < 2 ^ (8 * length s))
all_read s n i g h =
    let e : i ≡ length s = omega (arith, g.le) in
    (g.same ∙ ap joined (ap (λ k. take k s) e ∙ take_length s), subst (λ (x : ℕ). n < 2 ^ (8 * x)) e g.small)
  where
    take_length : (xs : List ℕ) → take (length xs) xs ≡ xs
    take_length [] = refl
    take_length (x ∷ xs) = ap (λ l. x ∷ l) (take_length xs)

-- octets cut out by their start and their end
pub cut_number : (s : List ℕ) (at m : ℕ) {n : ℕ} → n ≡ joined (take (at + m - at) (drop at s)) → n ≡ joined (take m (drop at s))
cut_number s at m e = e ∙ ap (λ k. joined (take k (drop at s))) (let z : at + m - at ≡ m = omega arith in z)

pub cut_long : (s : List ℕ) (at m : ℕ) → at + m ≤ length s → length (take (at + m - at) (drop at s)) ≡ m
cut_long s at m h =
    let z : at + m - at ≡ m = omega arith in
    rw z (length-take-le m (drop at s) (omega (arith, length-drop at s)))

-- ---- how large the number is

pow256 : (k : ℕ) → 256 ^ k ≡ 2 ^ (8 * k)
pow256 zero = refl
pow256 (suc k) = pow-suc 256 k ∙ ap (λ x. x * 256) (pow256 k) ∙ sym (pow8 k) ∙ ap (λ x. 2 ^ (8 * x)) (add-one k)

pub joined_lt : (bs : List ℕ) → Octets bs → joined bs < 2 ^ (8 * length bs)
unfolding joined
joined_lt [] h = pow_pos 0
joined_lt (b ∷ bs) h =
    rw (pow256 (length bs), ← add-one (length bs), pow8 (length bs)) (omega (arith, digits_lt h.0 (joined_lt bs h.1)))
