-- Whole numbers modulo a day: sums, signs, and a gap in natural numbers. Assumes nothing.
use Prim.Native.Nat.{ℕ, zero, suc, ◌+◌, ◌-◌, ◌%◌, ◌<◌, ◌≤◌}
use mathlib.Core.Path.{◌≡◌, refl, sym, ap, ◌∙◌}
use mathlib.Core.Bool.{Bool, true, false}
use native.Mathlib.Omega.{arith}
use lib.Dec.{ltb}
use borrow.Author.Tests.{ltb-true, ltb-false}
use lib.IntN.{ℤ, pos, negsuc, sub_ℕ, neg_ℤ, ◌+ℤ◌}
use Rattle.rules.specs.Merge.{day, mod_day, gap}

mod_sub : (a b : ℕ) → mod_day (sub_ℕ a b) ≡ (a % day + (day - b % day)) % day
unfolding mod_day
mod_sub a b = go (ltb a b) refl
  where
    go : (t : Bool) → ltb a b ≡ t → mod_day (sub_ℕ a b) ≡ (a % day + (day - b % day)) % day
    go true e = let l : a < b = ltb-true a b e in rw e (omega arith)
    go false e = let l : b ≤ a = ltb-false a b e in rw e (omega arith)

pub mod_add : (x y : ℤ) → mod_day (x +ℤ y) ≡ (mod_day x + mod_day y) % day
unfolding mod_day
mod_add (pos a) (pos b) = omega arith
mod_add (pos a) (negsuc b) = mod_sub a (suc b) ∙ omega arith
mod_add (negsuc a) (pos b) = mod_sub b (suc a) ∙ omega arith
mod_add (negsuc a) (negsuc b) = omega arith

pub mod_neg : (x : ℤ) → mod_day (neg_ℤ x) ≡ (day - mod_day x) % day
unfolding mod_day
mod_neg (pos zero) = refl
mod_neg (pos (suc n)) = omega arith
mod_neg (negsuc n) = omega arith

pub mod_less : (x : ℤ) → mod_day x < day
unfolding mod_day
mod_less (pos n) = omega arith
mod_less (negsuc n) = omega arith

-- sums modulo a day
plus_mod : (x y : ℕ) → (x % day + y % day) % day ≡ (x + y) % day
plus_mod x y = omega arith

left_mod : (x y : ℕ) → (x % day + y) % day ≡ (x + y) % day
left_mod x y = omega arith

-- a gap in natural numbers, as the code has it
pub gap_is : (offset : ℤ) (a b : ℕ) → gap offset a b ≡ (b + mod_day offset + (day - a % day)) % day
unfolding gap mod_day
gap_is offset a b =
    rw (mod_add (pos b +ℤ offset) (neg_ℤ (pos a)), mod_add (pos b) offset, mod_neg (pos a))
    (plus_mod (b % day + mod_day offset) (day - a % day)
    ∙ ap (λ n. n % day) (sums (b % day) (mod_day offset) (day - a % day))
    ∙ left_mod b (mod_day offset + (day - a % day))
    ∙ ap (λ n. n % day) (sym (sums b (mod_day offset) (day - a % day))))
  where
    sums : (x y z : ℕ) → x + y + z ≡ x + (y + z)
    sums x y z = omega arith
