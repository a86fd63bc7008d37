-- The number that says that something is absent, by its bits; and the values before those that say so, number by number from the end. Assumes nothing.
use Prim.Native.Nat.{ℕ, zero, suc, ◌+◌, ◌-◌, ◌^◌, ◌<◌, ◌≤◌}
use mathlib.Core.Path.{◌≡◌, refl, ap, ap₂, ◌∙◌}
use mathlib.Core.Bool.{Bool, true, false, ◌&&◌}
use mathlib.Core.List.{List, [], ◌∷◌}
use native.Mathlib.Omega.{arith}
use borrow.Author.Tests.{eqb-true, eqb-false, eq-eqb, ne_eqb}
use lib.Dec.{eqb}
use lib.IntN.{ℤ, pos, negsuc}
use lib.ListN.{length, get_or, drop}
use mir.Syntax.{w64}
use mir.Val.{to_z, of_z, SFits}
use mir.ValLaws.{to_z-of_z}
use Rattle.rules.specs.FieldList.{is_absent, all_absent}
use Rattle.writing.specs.Item.{Front}

-- ---- by its bits

pub absent_bits : (v : ℤ) → SFits w64 v → eqb (of_z w64 v) 9_223_372_036_854_775_808 ≡ is_absent v
absent_bits (pos n) f = ne_eqb n 9_223_372_036_854_775_808 (λ (e : n ≡ 9_223_372_036_854_775_808). absurd (omega (arith, f.sfits)))
absent_bits (negsuc n) f = go (eqb n (2 ^ 63 - 1)) refl
  where
    go : (t : Bool) → eqb n (2 ^ 63 - 1) ≡ t → eqb (2 ^ 64 - suc n) 9_223_372_036_854_775_808 ≡ t
    go true e = eq-eqb (2 ^ 64 - suc n) 9_223_372_036_854_775_808 (omega (arith, eqb-true n (2 ^ 63 - 1) e))
    go false e = ne_eqb (2 ^ 64 - suc n) 9_223_372_036_854_775_808 (λ (d : 2 ^ 64 - suc n ≡ 9_223_372_036_854_775_808). eqb-false n (2 ^ 63 - 1) e (omega (arith, f.sfits)))

-- a signed number that a local holds is read again from its bits
pub absent_again : (v : ℤ) {t : Bool} → SFits w64 v → t ≡ is_absent (to_z w64 (of_z w64 v)) → t ≡ is_absent v
absent_again v f e = e ∙ ap is_absent (to_z-of_z w64 v f)

-- ---- from the end

all_from : (vs : List ℤ) (n : ℕ) → ((k : ℕ) → n ≤ k → k < length vs → is_absent (get_or vs k (pos 0)) ≡ true) → all_absent (drop n vs) ≡ true
all_from [] zero h = refl
all_from [] (suc n) h = refl
all_from (v ∷ vs) zero h = ap₂ ◌&&◌ (h 0 (omega arith) (omega arith)) (all_from vs zero (λ k p q. h (suc k) (omega arith) (omega arith)))
all_from (v ∷ vs) (suc n) h = all_from vs n (λ k p q. h (suc k) (omega arith) (omega arith))

-- the last value stands at i
pub front_last : (vs : List ℤ) (i : ℕ) → i < length vs → is_absent (get_or vs i (pos 0)) ≡ false
    → ((k : ℕ) → i < k → k < length vs → is_absent (get_or vs k (pos 0)) ≡ true) → Front vs (i + 1)
front_last vs i l here h =
    let m : i + 1 - 1 ≡ i = omega arith in
    record { few = omega arith; absent = all_from vs (i + 1) (λ k p q. h k (omega arith) q); last = λ z. rw m here }

-- there is none
pub front_none : (vs : List ℤ) → ((k : ℕ) → k < length vs → is_absent (get_or vs k (pos 0)) ≡ true) → Front vs 0
front_none vs h = record { few = omega arith; absent = all_from vs 0 (λ k p q. h k q); last = λ z. absurd (omega arith) }
