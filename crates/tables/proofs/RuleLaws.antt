-- What holds of the tables of rules, by computed tests over each whole table: their rows are the rules of the fields, group after group.
--
-- In order: the tables; tests; a turn of the loop over rules; the groups of the tables. Assumes nothing.
use Prim.Native.Nat.{ℕ, zero, suc, ◌+◌, ◌/◌, ◌%◌, ◌<◌, ◌≤◌, ◌^◌}
use mathlib.Core.Path.{◌≡◌, refl, sym, ap, ◌∙◌, subst}
use mathlib.Core.Bool.{Bool, true, false, ◌&&◌}
use mathlib.Core.List.{List, [], ◌∷◌, map}
use native.Mathlib.Omega.{arith}
use native.Mathlib.Nat.{add-zero, mod-add-mod, mod-lt, le_of_suc-le-suc, not-suc-le-zero, zero-add}
use native.Mathlib.Numerals.{add-one}
use lib.Dec.{leb, ltb}
use lib.ListN.{length, get_or, take, get_or-map, drop_of_length-le}
use lib.Seq.{slice, slice-cons, length-take-le}
use lib.Pow.{pow_pos, pow_mono}
use borrow.Author.Tests.{leb-true, ltb-true}
use Rattle.rules.specs.Field.{Field, spare, value, unsigned, signed, half}
use Rattle.rules.specs.Catalogue.{categories}
use Rattle.tables.specs.Tables.{group_count, fields, groups, layouts, group_rows, no_group_row, group_at}
use Rattle.tables.specs.FieldRules.{rule_count, Rule, rules_of, obeys, all_obeyed, rules, first_rule, rule_at, rule_row, rule_rows, sizes}
use Rattle.tables.proofs.TableLaws.{in_row, each, every, fields_at}

-- ---- the tables

pub size_of : (g : ℕ) → get_or sizes g 0 ≡ (group_at g).octets
unfolding sizes group_at
size_of g = get_or-map (λ r. r.octets) (group_rows 0 groups) g no_group_row

rules_long : length rules ≡ rule_count
unfolding rules groups layouts categories
rules_long = refl

no_rule : Rule
no_rule = record { shift = 0; width = 0; added = 0; limit = 0 }

pub rule_row_lem : (i : ℕ) → get_or rule_rows i (0, 0, 0, 0) ≡ rule_row (rule_at i)
unfolding rule_rows rule_at no_rule
rule_row_lem i = get_or-map rule_row rules i no_rule

-- a rule's columns are small
pub record Small (r : Rule) : Type 0 where
  pub shift : r.shift < 64
  pub width : r.width < 64
  pub added : r.added < 2 ^ 32

pub small : (i : ℕ) → i < rule_count → Small (rule_at i)
unfolding rule_at rules groups layouts categories no_rule
small i h =
    record {
      shift = ltb-true _ _ (each (λ r. ltb r.shift 64) rules no_rule refl i h);
      width = ltb-true _ _ (each (λ r. ltb r.width 64) rules no_rule refl i h);
      added = ltb-true _ _ (each (λ r. ltb r.added (2 ^ 32)) rules no_rule refl i h);
    }

-- the sum fits: the code is of less than 64 bits
pub sum_fits : (r : Rule) (n : ℕ) {p : ℕ} → Small r → p ≡ 2 ^ r.width → n % p + r.added < 2 ^ 64
sum_fits r n {p} s ep =
    let m : 2 ^ r.width ≤ 2 ^ 63 = pow_mono (let k : r.width ≤ 63 = omega (arith, s.width) in k) in
    let l : n % p < p = mod-lt n (subst (λ x. 0 < x) (sym ep) (pow_pos r.width)) in
    omega (arith, s.added)

pub obeyed : (r : Rule) (n : ℕ) {p : ℕ} → p ≡ 2 ^ r.width → leb ((n / 2 ^ r.shift % p + r.added) % p) r.limit ≡ obeys r n
unfolding obeys
obeyed r n {p} ep = rw (mod-add-mod (n / 2 ^ r.shift) p r.added, ep)

-- ---- tests

pub and_true : {a : Bool} (b : Bool) → a ≡ true → a && b ≡ b
and_true b e = ap (λ (x : Bool). x && b) e

pub and_false : {a : Bool} (b : Bool) → a ≡ false → a && b ≡ false
and_false b e = ap (λ (x : Bool). x && b) e

-- ---- a turn of the loop over rules

pub record Asking (a e n i : ℕ) : Type 0 where
  pub same : all_obeyed (slice i e rules) n ≡ all_obeyed (slice a e rules) n

asked : (a e n i : ℕ) {t : Bool} → Asking a e n i → i < e → e ≤ rule_count → t ≡ obeys (rule_at i) n → all_obeyed (slice a e rules) n ≡ (t && all_obeyed (slice (i + 1) e rules) n)
unfolding rule_at no_rule
asked a e n i c h k et =
    sym c.same ∙ ap (λ rs. all_obeyed rs n) (slice-cons i e rules no_rule h (subst (λ x. e ≤ x) (sym rules_long) k))
    ∙ rw (← et, add-one i)

pub asked_bad : (a e n i : ℕ) {t : Bool} → Asking a e n i → i < e → e ≤ rule_count → t ≡ obeys (rule_at i) n → t ≡ false → false ≡ all_obeyed (slice a e rules) n
asked_bad a e n i c h k et z = sym (asked a e n i c h k et ∙ and_false (all_obeyed (slice (i + 1) e rules) n) z)

pub asked_good : (a e n i : ℕ) {t : Bool} → Asking a e n i → i < e → e ≤ rule_count → t ≡ obeys (rule_at i) n → t ≡ true → Asking a e n (i + 1)
asked_good a e n i c h k et z = record { same = sym (asked a e n i c h k et ∙ and_true (all_obeyed (slice (i + 1) e rules) n) z) }

pub no_rules : (a e : ℕ) → e ≤ a → e ≤ rule_count → slice a e rules ≡ []
no_rules a e h k = drop_of_length-le (take e rules) (subst (λ x. x ≤ a) (sym (length-take-le e rules (subst (λ x. e ≤ x) (sym rules_long) k))) h)

pub asked_none : (a e n i : ℕ) → Asking a e n i → e ≤ i → e ≤ rule_count → true ≡ all_obeyed (slice a e rules) n
asked_none a e n i c h k = sym (ap (λ rs. all_obeyed rs n) (no_rules i e h k)) ∙ c.same

-- ---- the groups of the tables

-- the numbers from one to before another
abbrev from : ℕ → ℕ → List ℕ
from k zero = []
from k (suc n) = k ∷ from (suc k) n

get_or-from : (k n i : ℕ) → i < n → get_or (from k n) i 0 ≡ k + i
get_or-from k zero i h = absurd (not-suc-le-zero h)
get_or-from k (suc n) zero h = sym (add-zero k)
get_or-from k (suc n) (suc i) h = get_or-from (suc k) n i (le_of_suc-le-suc h) ∙ omega arith

length_from : (k n : ℕ) → length (from k n) ≡ n
length_from k zero = refl
length_from k (suc n) = ap suc (length_from (suc k) n)

-- what holds of each number below another, by one test
below : {B : Type 0} (f g : ℕ → B) (n : ℕ) → map f (from 0 n) ≡ map g (from 0 n) → (i : ℕ) → i < n → f i ≡ g i
below f g n e i h =
    let j : get_or (from 0 n) i 0 ≡ i = get_or-from 0 n i h ∙ zero-add i in
    ap f (sym j) ∙ in_row f g (from 0 n) i 0 (subst (λ x. i < x) (sym (length_from 0 n)) h) e ∙ ap g j

pub group_rules : (g : ℕ) → g < group_count → slice (first_rule g) (first_rule (suc g)) rules ≡ rules_of (fields_at g)
unfolding first_rule rules group_at fields groups layouts categories
group_rules g h = below (λ i. slice (first_rule i) (first_rule (suc i)) rules) (λ i. rules_of (fields_at i)) group_count refl g h

-- the range is one that the bits hold
abbrev pub sane : Field → Bool
sane (spare w) = leb 1 w
sane (value w (unsigned lo hi)) = leb lo hi && ltb hi (2 ^ w)
sane (value w (signed lo hi)) = leb 1 w && leb lo (half w) && ltb hi (half w)

pub group_sane : (g : ℕ) → g < group_count → every sane (fields_at g) ≡ true
unfolding group_at fields groups layouts categories
group_sane g h = below (λ i. every sane (fields_at i)) (λ i. true) group_count refl g h

pub first_few : (g : ℕ) → g ≤ group_count → first_rule g ≤ rule_count
unfolding first_rule rules groups layouts categories
first_few g h = leb-true _ _ (below (λ i. leb (first_rule i) rule_count) (λ i. true) (suc group_count) refl g (omega arith))

-- a group without a rule says that it is free
pub group_said : (g : ℕ) → g < group_count → leb (first_rule (g + 1)) (first_rule g) ≡ (group_at g).free
unfolding first_rule group_at fields groups layouts categories
group_said g h = rw (add-one g) (below (λ i. leb (first_rule (suc i)) (first_rule i)) (λ i. (group_at i).free) group_count refl g h)

pub rules_few : (g : ℕ) → g < group_count → {e : ℕ} → e ≡ first_rule (g + 1) → e ≤ rule_count
rules_few g h ee = subst (λ x. x ≤ rule_count) (sym ee) (first_few (g + 1) (omega arith))
