-- No two distinct results satisfy the statement of a function of `numbers`. Assumes nothing.
use Prim.Native.Nat.{ℕ, ◌<◌}
use mathlib.Core.Path.{◌≡◌, sym, ◌∙◌}
use lib.IntN.{ℤ, pos, negsuc}
use lib.Signed.{mag}

pub one_wide : (x a b : ℕ) → (a ≡ x) × (a < 256) → (b ≡ x) × (b < 256) → a ≡ b
one_wide x a b p q = p.0 ∙ sym q.0

pub one_octet : (x a b : ℕ) → (a ≡ x) × (a < 256) → (b ≡ x) × (b < 256) → a ≡ b
one_octet x a b p q = p.0 ∙ sym q.0

pub one_up : (n : ℕ) (a b : ℤ) → a ≡ pos n → b ≡ pos n → a ≡ b
one_up n a b p q = p ∙ sym q

pub one_down : (n : ℕ) (a b : ℤ) → a ≡ negsuc n → b ≡ negsuc n → a ≡ b
one_down n a b p q = p ∙ sym q

pub one_magnitude : (x : ℤ) (a b : ℕ) → a ≡ mag x → b ≡ mag x → a ≡ b
one_magnitude x a b p q = p ∙ sym q
