-- The rules of fields as the check asks them are the rules' own: a number obeys the rules of a group where its fields are legal.
--
-- In order: one field; the fields of a group; the groups of the tables; a part that starts at a place. Assumes nothing.
use Prim.Native.Nat.{ℕ, zero, suc, ◌+◌, ◌-◌, ◌/◌, ◌%◌, ◌<◌, ◌≤◌, ◌^◌}
use mathlib.Core.Path.{◌≡◌, refl, sym, ap, ◌∙◌, subst}
use mathlib.Core.Bool.{Bool, true, false, cond, ◌&&◌, false≢true}
use mathlib.Core.List.{List, [], ◌∷◌, map}
use mathlib.Core.Logic.{⊎_elim}
use native.Mathlib.Omega.{arith}
use native.Mathlib.Nat.{mod-lt, mod-eq_of_lt, mod-eq-sub-mod, mod-add-mod, add-mod-mod, add-zero}
use native.Mathlib.Numerals.{add-one}
use lib.Dec.{leb, ltb, eqb, leb-suc-zero, eqb-suc-zero}
use lib.IntN.{pos, negsuc}
use lib.ListN.{length, take, drop, length-drop}
use lib.Seq.{slice}
use lib.Pow.{pow_pos, field, mod-mod-pow}
use borrow.Author.Tests.{le-leb, lt-leb, lt-ltb, le-ltb, leb-true, ltb-true, eqb-true}
use Rattle.rules.specs.Field.{Field, spare, value, unsigned, signed, bits, half}
use Rattle.rules.specs.Chain.{joined}
use Rattle.rules.proofs.AnswerLaws.{Octets, both_left, both_right, octets_drop}
use Rattle.tables.specs.Tables.{group_count, field_row, is_free, group_at}
use Rattle.tables.specs.FieldRules.{rule_of, rules_of, obeys, all_obeyed, rules, first_rule}
use Rattle.tables.proofs.TableLaws.{every, fields_at}
use Rattle.tables.proofs.RuleLaws.{no_rules, sane, group_rules, group_sane, first_few}
use Rattle.layouts.specs.Read.{rows_at, part_at, value_of, within, width, legal, part_sound}
use Rattle.layouts.proofs.FieldCodes.{and_last, width_bits, low_minus, low_neg, spare_is, twice, value_low, value_high}
use Rattle.layouts.proofs.ReadLaws.{rows_map, part_small, le_or_lt, same_leb}
use Rattle.layouts.proofs.PartLaws.{part_sound_lem}
use Rattle.layouts.proofs.WholeLaws.{free_unsigned, free_signed}

-- ---- one field: what its rule asks of a code

asks_spare : (w c : ℕ) → c < 2 ^ w → leb ((c + 0) % 2 ^ w) 0 ≡ within (field_row (spare w)) (value_of (field_row (spare w)) c)
asks_spare w c h = rw (add-zero c, mod-eq_of_lt h) (same c ∙ spare_is w c)
  where
    same : (c : ℕ) → leb c 0 ≡ eqb c 0
    same zero = refl
    same (suc c) = rw (leb-suc-zero c, eqb-suc-zero c)

asks_unsigned : (w lo hi c : ℕ) → lo ≤ hi → hi < 2 ^ w → c < 2 ^ w
    → leb ((c + (2 ^ w - lo) % 2 ^ w) % 2 ^ w) (hi - lo) ≡ within (field_row (value w (unsigned lo hi))) (value_of (field_row (value w (unsigned lo hi))) c)
unfolding within value_of
asks_unsigned w lo hi c k l h =
    rw (add-mod-mod c (2 ^ w - lo) (2 ^ w))
    (⊎_elim
    (λ (m : lo ≤ c).
    let e : (c + (2 ^ w - lo)) % 2 ^ w ≡ c - lo = mod-eq-sub-mod (omega arith) ∙ ap (λ x. x % 2 ^ w) (omega_sub m) ∙ mod-eq_of_lt (omega arith) in
    rw (e, le-leb lo c m) (same_leb (c - lo) (hi - lo) c hi (λ q. omega (arith, q)) (λ q. omega (arith, q))))
    (λ (m : c < lo).
    rw (mod-eq_of_lt {n = c + (2 ^ w - lo)} {m = 2 ^ w} (omega arith), lt-leb lo c m) (lt-leb (c + (2 ^ w - lo)) (hi - lo) (omega arith)))
    (le_or_lt lo c))
  where
    omega_sub : lo ≤ c → c + (2 ^ w - lo) - 2 ^ w ≡ c - lo
    omega_sub m = omega arith

asks_signed : (w lo hi c : ℕ) → 1 ≤ w → lo ≤ half w → hi < half w → c < 2 ^ w
    → leb ((c + lo) % 2 ^ w) (lo + hi) ≡ within (field_row (value w (signed lo hi))) (value_of (field_row (value w (signed lo hi))) c)
unfolding within
asks_signed w lo hi c o k l h =
    ⊎_elim
    (λ (m : half w ≤ c).
    let v : value_of (field_row (value w (signed lo hi))) c ≡ negsuc (2 ^ w - suc c) = value_high (field_row (value w (signed lo hi))) c refl m in
    rw (v, low_neg lo (2 ^ w - suc c), and_last (ltb (2 ^ w - suc c) lo))
    (⊎_elim
    (λ (q : 2 ^ w ≤ c + lo).
    let e : (c + lo) % 2 ^ w ≡ c + lo - 2 ^ w = mod-eq-sub-mod q ∙ mod-eq_of_lt (omega (arith, twice w o)) in
    rw (e, lt-ltb (2 ^ w - suc c) lo (omega arith)) (le-leb (c + lo - 2 ^ w) (lo + hi) (omega arith)))
    (λ (q : c + lo < 2 ^ w).
    rw (mod-eq_of_lt q, le-ltb (2 ^ w - suc c) lo (omega arith)) (lt-leb (c + lo) (lo + hi) (omega arith)))
    (le_or_lt (2 ^ w) (c + lo))))
    (λ (m : c < half w).
    let v : value_of (field_row (value w (signed lo hi))) c ≡ pos c = value_low (field_row (value w (signed lo hi))) c m in
    rw (v, low_minus lo c, mod-eq_of_lt {n = c + lo} {m = 2 ^ w} (omega (arith, twice w o))) (same_leb (c + lo) (lo + hi) c hi (λ q. omega (arith, q)) (λ q. omega (arith, q))))
    (le_or_lt (half w) c)

-- what a field's rule asks of a number is what the field asks of its code there
asks : (f : Field) (k n : ℕ) → sane f ≡ true → obeys (rule_of f k) n ≡ within (field_row f) (value_of (field_row f) (n / 2 ^ k % 2 ^ (field_row f).bits))
unfolding obeys
asks (spare w) k n s = sym (ap (λ x. leb x 0) (mod-add-mod (n / 2 ^ k) (2 ^ w) 0)) ∙ asks_spare w (n / 2 ^ k % 2 ^ w) (mod-lt (n / 2 ^ k) (pow_pos w))
asks (value w (unsigned lo hi)) k n s =
    sym (ap (λ x. leb x (hi - lo)) (mod-add-mod (n / 2 ^ k) (2 ^ w) ((2 ^ w - lo) % 2 ^ w)))
    ∙ asks_unsigned w lo hi (n / 2 ^ k % 2 ^ w) (leb-true _ _ (both_left (leb lo hi) _ s)) (ltb-true _ _ (both_right (leb lo hi) _ s)) (mod-lt (n / 2 ^ k) (pow_pos w))
asks (value w (signed lo hi)) k n s =
    let u = both_left (leb 1 w && leb lo (half w)) (ltb hi (half w)) s in
    sym (ap (λ x. leb x (lo + hi)) (mod-add-mod (n / 2 ^ k) (2 ^ w) lo))
    ∙ asks_signed w lo hi (n / 2 ^ k % 2 ^ w) (leb-true _ _ (both_left (leb 1 w) _ u)) (leb-true _ _ (both_right (leb 1 w) _ u)) (ltb-true _ _ (both_right (leb 1 w && leb lo (half w)) _ s)) (mod-lt (n / 2 ^ k) (pow_pos w))

-- a free field asks nothing
asks_nothing : (f : Field) (c : ℕ) → sane f ≡ true → is_free (f ∷ []) ≡ true → c < 2 ^ (field_row f).bits → within (field_row f) (value_of (field_row f) c) ≡ true
asks_nothing (spare w) c s e h = absurd (false≢true e)
asks_nothing (value w (unsigned lo hi)) c s e h =
    let u = both_left (eqb lo 0 && eqb (suc hi) (2 ^ w)) true e in
    free_unsigned w lo hi c (eqb-true _ _ (both_left (eqb lo 0) _ u)) (eqb-true _ _ (both_right (eqb lo 0) _ u)) h
asks_nothing (value w (signed lo hi)) c s e h =
    let u = both_left (eqb lo (half w) && eqb (suc hi) (half w)) true e in
    let v = both_left (leb 1 w && leb lo (half w)) (ltb hi (half w)) s in
    free_signed w lo hi c (leb-true _ _ (both_left (leb 1 w) _ v)) (eqb-true _ _ (both_left (eqb lo (half w)) _ u)) (eqb-true _ _ (both_right (eqb lo (half w)) _ u)) h

-- ---- the fields of a group

obeyed_cons : (f : Field) (fs : List Field) (n : ℕ) → sane f ≡ true
    → all_obeyed (rules_of (f ∷ fs)) n ≡ (within (field_row f) (value_of (field_row f) (n / 2 ^ bits fs % 2 ^ (field_row f).bits)) && all_obeyed (rules_of fs) n)
obeyed_cons f fs n s = go (is_free (f ∷ [])) refl
  where
    go : (t : Bool) → is_free (f ∷ []) ≡ t
        → all_obeyed (cond t (rules_of fs) (rule_of f (bits fs) ∷ rules_of fs)) n ≡ (within (field_row f) (value_of (field_row f) (n / 2 ^ bits fs % 2 ^ (field_row f).bits)) && all_obeyed (rules_of fs) n)
    go true e = rw (asks_nothing f (n / 2 ^ bits fs % 2 ^ (field_row f).bits) s e (mod-lt (n / 2 ^ bits fs) (pow_pos (field_row f).bits)))
    go false e = rw (asks f (bits fs) n s)

bits_cons : (f : Field) (fs : List Field) → bits (f ∷ fs) ≡ (field_row f).bits + bits fs
bits_cons (spare w) fs = refl
bits_cons (value w (unsigned lo hi)) fs = refl
bits_cons (value w (signed lo hi)) fs = refl

obeyed_legal : (fs : List Field) (n : ℕ) → every sane fs ≡ true → all_obeyed (rules_of fs) n ≡ legal (map field_row fs) (n % 2 ^ bits fs)
obeyed_legal [] n s = refl
obeyed_legal (f ∷ fs) n s =
    obeyed_cons f fs n (both_left (sane f) (every sane fs) s)
    ∙ rw (obeyed_legal fs n (both_right (sane f) (every sane fs) s), bits_cons f fs, width_bits fs, field n (field_row f).bits (bits fs), mod-mod-pow n (field_row f).bits (bits fs))

-- ---- the groups of the tables

-- a number of a group's bits obeys its rules where its fields are legal
pub group_obeyed : (g n : ℕ) → g < group_count → n < 2 ^ width (rows_at g) → all_obeyed (slice (first_rule g) (first_rule (g + 1)) rules) n ≡ legal (rows_at g) n
group_obeyed g n h k =
    let e : rows_at g ≡ map field_row (fields_at g) = rows_map (group_at g).first (group_at g).end in
    let b : n < 2 ^ bits (fields_at g) = subst (λ x. n < 2 ^ x) (ap width e ∙ width_bits (fields_at g)) k in
    rw (add-one g, group_rules g h)
    (obeyed_legal (fields_at g) n (group_sane g h) ∙ ap (legal (map field_row (fields_at g))) (mod-eq_of_lt b) ∙ ap (λ rs. legal rs n) (sym e))

-- a group without a rule is free
pub group_none : (g n : ℕ) → g < group_count → n < 2 ^ width (rows_at g) → first_rule (g + 1) ≤ first_rule g → legal (rows_at g) n ≡ true
group_none g n h k l =
    let z : slice (first_rule g) (first_rule (g + 1)) rules ≡ [] = no_rules (first_rule g) (first_rule (g + 1)) l (first_few (g + 1) (omega arith)) in
    sym (group_obeyed g n h k) ∙ ap (λ rs. all_obeyed rs n) z

-- ---- a part that starts at a place

pub size_few : (step g : ℕ) → part_sound step (group_at g) ≡ true → {m : ℕ} → m ≡ (group_at g).octets → m ≤ 8
size_few step g p em = omega (arith, (part_sound_lem step (group_at g) p).short)

module _ (step g at : ℕ) (s : List ℕ) (o : Octets s) (h : g < group_count) (p : part_sound step (group_at g) ≡ true) (l : at + (group_at g).octets ≤ length s) where
  part_fits : part_at step g (drop at s) < 2 ^ width (rows_at g)
  part_fits =
      let e : width (rows_at g) ≡ bits (fields_at g) = ap width (rows_map (group_at g).first (group_at g).end) ∙ width_bits (fields_at g) in
      rw e (part_small step g (drop at s) (octets_drop at s o) (part_sound_lem step (group_at g) p) (omega (arith, length-drop at s)))

  module _ {a e : ℕ} (ea : a ≡ first_rule g) (ee : e ≡ first_rule (g + 1)) where
    pub part_free : e ≤ a → true ≡ legal (rows_at g) (part_at step g (drop at s))
    part_free k = sym (group_none g (part_at step g (drop at s)) h part_fits (omega arith))

    pub part_ruled : {m n : ℕ} {t : Bool} → m ≡ (group_at g).octets → n ≡ joined (take m (drop at s)) → t ≡ all_obeyed (slice a e rules) (n / 2 ^ step) → t ≡ legal (rows_at g) (part_at step g (drop at s))
    part_ruled em en et = et ∙ rw (ea, ee, en, em) (group_obeyed g (part_at step g (drop at s)) h part_fits)
