-- The tables of sums hold what the rules sum.
--
-- In order: where there is no octet, nothing is summed; a table that has passed the test. Assumes nothing.
use Prim.Native.Nat.{ℕ, ◌/◌, ◌≤◌, ◌<◌}
use mathlib.Core.Path.{◌≡◌, refl, sym, ap, ◌∙◌}
use native.Mathlib.Omega.{arith}
use mathlib.Core.Bool.{true, ◌&&◌}
use mathlib.Core.List.{List, []}
use native.Mathlib.Nat.{le_trans}
use lib.Dec.{leb, eqb}
use borrow.Author.Tests.{eqb-true, leb-true}
use lib.ListN.{length, get_or-eq_default}
use Rattle.rules.specs.Presence.{flags}
use Rattle.rules.specs.Catalogue.{categories}
use Rattle.rules.specs.Entry.{profile_at, sum_least, least_length}
use Rattle.rules.proofs.AnswerLaws.{both_left, both_right}
use Rattle.tables.specs.Tests.{all_below}
use Rattle.lengths.specs.Least.{sum_at, tested, Exact}
use Rattle.tables.proofs.TableLaws.{all_below_lem}
use Rattle.tables.proofs.ProfileLaws.{profile_at_lem, category_none}

-- ---- no octet

-- an octet past a profile's FSPEC
no_octet : (i k value : ℕ) → length (profile_at categories i) ≤ k → 0 ≡ least_length categories i k value
unfolding least_length
no_octet i k value l = sym (ap (λ r. sum_least r (flags 7 (value / 2))) (get_or-eq_default (profile_at categories i) [] l))

-- an index past the last has no octet
pub no_profile : (i k value : ℕ) → length categories ≤ i → 0 ≡ least_length categories i k value
unfolding categories
no_profile i k value l =
    let e : length (profile_at categories i) ≡ 0 = ap length (sym (profile_at_lem i) ∙ ap (λ c. c.profile) (category_none i l)) in
    no_octet i k value (omega arith)

-- no FSPEC has sixteen octets
few : all_below 3 (λ i. leb (length (profile_at categories i)) 16) ≡ true
unfolding categories
few = refl

pub far_octet : (i k value : ℕ) → i < length categories → 16 ≤ k → 0 ≡ least_length categories i k value
unfolding categories
far_octet i k value l h =
    let e : i < 3 = l in
    no_octet i k value (le_trans (leb-true _ _ (all_below_lem 3 (λ j. leb (length (profile_at categories j)) 16) i few e)) h)

-- ---- a table

-- a place past the last row
pub past_rows : (i : ℕ) (sums : List (List ℕ)) (k value : ℕ) → Exact i sums → length sums ≤ k → 0 ≡ least_length categories i k value
unfolding tested
past_rows i sums k value h n = no_octet i k value (le_trans (leb-true _ _ (both_left _ _ h.passed)) n)

-- what the test says of each number
pub sum_is : (i : ℕ) (sums : List (List ℕ)) (k value : ℕ) → Exact i sums → k < length sums → value < 256 → sum_at sums k value ≡ least_length categories i k value
unfolding tested
sum_is i sums k value h n l =
    eqb-true _ _
    (all_below_lem 256 (λ v. eqb (sum_at sums k v) (least_length categories i k v)) value
    (all_below_lem (length sums) (λ place. all_below 256 (λ v. eqb (sum_at sums place v) (least_length categories i place v))) k (both_right _ _ h.passed) n)
    l)

-- the table of an arm has passed the test
pub exact_at : {i key : ℕ} (sums : List (List ℕ)) → i ≡ key → tested key sums ≡ true → Exact i sums
exact_at sums e h = record { passed = ap (λ n. tested n sums) e ∙ h }

-- an index past the last has no octet
pub exact_none : (i : ℕ) → length categories ≤ i → Exact i []
unfolding tested categories
exact_none i l =
    let e : length (profile_at categories i) ≡ 0 = ap length (sym (profile_at_lem i) ∙ ap (λ c. c.profile) (category_none i l)) in
    record { passed = ap (λ n. leb n 0 && true) e }
