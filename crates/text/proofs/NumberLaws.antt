-- A number as text is the fewest digits that hold it, as `io::decimal` gives them. Assumes nothing.
use Prim.Native.Nat.{ℕ, zero, suc, ◌+◌, ◌-◌, ◌*◌, ◌/◌, ◌%◌, ◌^◌, ◌<◌, ◌≤◌}
use mathlib.Core.Path.{◌≡◌, sym, ap, subst}
use mathlib.Core.List.{List, [], ◌∷◌, ◌++◌}
use native.Mathlib.Nat.{pow-suc, mod-eq_of_lt}
use native.Mathlib.Omega.{arith}
use borrow.Author.Tests.{lt-ltb, le-ltb}
use Rattle.io.specs.Digits.{hex_digit_ascii, last_digits, IsDigitCount}
use Rattle.text.specs.Number.{decimal_from, decimal_text}

glyph_is : (d : ℕ) → d < 10 → hex_digit_ascii d ≡ 48 + d
glyph_is d h = rw (lt-ltb d 10 h)

many : (j : ℕ) → j < 10 ^ j
many zero = omega arith
many (suc j) = rw (pow-suc 10 j) (omega (arith, many j))

-- with more digits than one
several : (n j : ℕ) → IsDigitCount 10 1 n (suc (suc j)) → 10 ^ suc j ≤ n
several n j p =
    let e : suc (suc j) - 1 ≡ suc j = omega arith in
    subst (λ (x : ℕ). 10 ^ x ≤ n) e (p.2 (omega arith))

tenth : (n j : ℕ) → IsDigitCount 10 1 n (suc (suc j)) → IsDigitCount 10 1 (n / 10) (suc j)
tenth n j p =
    let a : n < 10 ^ suc j * 10 = rw (pow-suc 10 (suc j)) at p.1 in
    let b : 10 ^ j * 10 ≤ n = rw (pow-suc 10 j) at (several n j p) in
    let d : 10 ^ j ≤ n / 10 = omega arith in
    let e : suc j - 1 ≡ j = omega arith in
    (omega arith, omega arith, λ _. subst (λ (x : ℕ). 10 ^ x ≤ n / 10) (sym e) d)

spelt : (k f n : ℕ) → k ≤ f → IsDigitCount 10 1 n k → last_digits 10 k n ≡ decimal_from f n
unfolding decimal_from
spelt zero f n h p = absurd (omega arith)
spelt (suc zero) zero n h p = absurd (omega arith)
spelt (suc zero) (suc f) n h p =
    let l : n < 10 = p.1 in
    rw (lt-ltb n 10 l, mod-eq_of_lt l, glyph_is n l)
spelt (suc (suc j)) zero n h p = absurd (omega arith)
spelt (suc (suc j)) (suc f) n h p =
    let b : 10 ^ j * 10 ≤ n = rw (pow-suc 10 j) at (several n j p) in
    let l : 10 ≤ n = omega (arith, many j) in
    let m : n % 10 < 10 = omega arith in
    rw (le-ltb n 10 l, glyph_is (n % 10) m) (ap (λ (t : List ℕ). t ++ ((48 + n % 10) ∷ [])) (spelt (suc j) f (n / 10) (omega arith) (tenth n j p)))

pub text_is : (k n : ℕ) → IsDigitCount 10 1 n k → last_digits 10 k n ≡ decimal_text n
unfolding decimal_text
text_is k n p = spelt k (suc n) n (go k p) p
  where
    go : (j : ℕ) → IsDigitCount 10 1 n j → j ≤ suc n
    go zero q = omega arith
    go (suc zero) q = omega arith
    go (suc (suc i)) q =
        omega (arith, several n i q, many (suc i))
