-- How parts lie by any number, as a row of numbers had it: what is before the parts, and whether each has an FX bit. Assumes nothing.
use Prim.Native.Nat.{ℕ, zero, suc}
use mathlib.Core.Path.{◌≡◌, refl}
use mathlib.Core.Bool.{cond, false}
use native.Mathlib.Omega.{arith}
use lib.Dec.{eqb}
use borrow.Author.Tests.{ne_eqb}
use Rattle.tables.specs.Tables.{kind_by}
use Rattle.layouts.specs.Read.{head_of, step_of}

-- by 2 and 3 one octet is before the parts
pub head_by_number : (n : ℕ) → head_of (kind_by n) ≡ cond (eqb n 2) 1 (cond (eqb n 3) 1 0)
head_by_number zero = refl
head_by_number (suc zero) = refl
head_by_number (suc (suc zero)) = refl
head_by_number (suc (suc (suc zero))) = refl
head_by_number (suc (suc (suc (suc zero)))) = refl
head_by_number (suc (suc (suc (suc (suc zero))))) = refl
head_by_number (suc (suc (suc (suc (suc (suc n)))))) =
    let two : eqb (suc (suc (suc (suc (suc (suc n)))))) 2 ≡ false = ne_eqb _ _ (λ e. absurd (omega (arith, e))) in
    let three : eqb (suc (suc (suc (suc (suc (suc n)))))) 3 ≡ false = ne_eqb _ _ (λ e. absurd (omega (arith, e))) in
    rw (two, three) refl

-- by 4 each has an FX bit
pub step_by_number : (n : ℕ) → step_of (kind_by n) ≡ cond (eqb n 4) 1 0
step_by_number zero = refl
step_by_number (suc zero) = refl
step_by_number (suc (suc zero)) = refl
step_by_number (suc (suc (suc zero))) = refl
step_by_number (suc (suc (suc (suc zero)))) = refl
step_by_number (suc (suc (suc (suc (suc zero))))) = refl
step_by_number (suc (suc (suc (suc (suc (suc n)))))) =
    let four : eqb (suc (suc (suc (suc (suc (suc n)))))) 4 ≡ false = ne_eqb _ _ (λ e. absurd (omega (arith, e))) in
    rw four refl
