-- What a word of the table tells of an item is what the exact check answers.
--
-- In order: the words of the table; a free item; the item of a profile at an FRN; the first three octets of a part; a rule; one part with a rule; a list or a led item;
-- an extended item; the octets of an item that is legal. Assumes nothing.
use Rattle.std.specs.Prelude.{Option, Some, None}
use Prim.Native.Nat.{ℕ, zero, suc, ◌+◌, ◌-◌, ◌*◌, ◌/◌, ◌%◌, ◌<◌, ◌≤◌, ◌^◌}
use mathlib.Core.Path.{◌≡◌, refl, sym, ap, ap₂, ◌∙◌, subst}
use mathlib.Core.Bool.{Bool, true, false, cond, ◌&&◌, ◌||◌, false≢true}
use mathlib.Core.List.{List, [], ◌∷◌}
use mathlib.Core.Logic.{⊎_elim}
use native.Mathlib.Omega.{arith}
use native.Mathlib.Nat.{le_of_suc-le-suc, not-suc-le-zero, mul-le-mul_left, mul-zero}
use Rattle.std.proofs.lemmas.Option.{none-some}
use mir.Syntax.{w8}
use mir.Val.{Fits}
use lib.Dec.{leb, ltb, eqb, lit<, eqb-suc-zero}
use lib.ListN.{length, get_or, take, drop, length-drop, get_or-eq_default}
use lib.Seq.{slice, take_all}
use lib.Pow.{shr_le, shr-shr, shl-shr, high, field}
use borrow.Author.Tests.{leb-true, ltb-true, eqb-true, eq-eqb, ne_eqb, lt-ltb, le-ltb}
use Rattle.rules.specs.Answer.{ok, when◌then◌else◌}
use Rattle.rules.specs.Catalogue.{categories}
use Rattle.rules.specs.Chain.{joined}
use Rattle.rules.proofs.AnswerLaws.{if_true, if_false, Octets, both_left, both_right, octets_drop}
use Rattle.tables.specs.declared.tables.Kind as lie
use Rattle.tables.specs.declared.tables.Kind.TheVariants as parts
use Rattle.tables.specs.Tables.{same_kind}
use Rattle.tables.specs.Tables.{kind_digit as layout_digit}
use Rattle.tables.proofs.KindLaws.{kind_true}
use Rattle.tables.specs.declared.tables.LayoutRow.{LayoutRow}
use Rattle.tables.specs.declared.tables.PlaceRow.{PlaceRow}
use Rattle.items.specs.Answers.{check_at}
use Rattle.tables.specs.Tests.{all_below}
use Rattle.tables.specs.FieldRules.{Rule, obeys, all_obeyed, rules, first_rule, single_of, singles}
use Rattle.quick_items.specs.declared.Kind.{Kind}
use Rattle.quick_items.specs.declared.Kind.TheVariants as kind
use Rattle.quick_items.specs.Item.{Plainly, kind_by, place_for, rule_in, next_in, first_three, down_of, added_of, up_of, limit_of, asks, same_rule, same_rules, sound_rule, low_at, high_at, asked, sound_row, sound_free, sound_single, sound_counted, sound_extended, same_pair, sound_twice, sound_by, sound_word, sound_words, sound_steps, row_octets, row_tells, word_octets, exact_word, exact_steps, is_place, word_for, row_of, size_or0, octets_at}
use Rattle.layouts.specs.Read.{rows_at, part_at, legal, part_sound, parts_legal, chain, list_shape, shape_of, whole_size, row_sound}
use Rattle.tables.specs.Tables.{profile_count, frn_count, place_count, group_count, group_at, layout_at, nowhere, profile_rows, place_row_at}
use Rattle.items.proofs.CheckLaws.{Single, single_is, single_size_lem, single_sound, single_legal, free_of, free_there, check_whole, whole_check}
use Rattle.layouts.proofs.WholeLaws.{equal_free, chain_legal}
use Rattle.layouts.proofs.OctetLaws.{octets_known, joined_suc, joined_nil}
use Rattle.layouts.proofs.ReadLaws.{le_or_lt}
use Rattle.layouts.proofs.LegalLaws.{part_ruled}
use Rattle.layouts.proofs.ShapeLaws.{rowed, Chaining, chain_begun, chain_group, chain_last, chain_more, chain_parts_lem, chain_shape, list_shape_lem, list_there, led_there}
use Rattle.layouts.proofs.SoundLaws.{layout_sound}
use Rattle.tables.proofs.TableLaws.{place_row_lem, all_below_lem}

pub other : (a b : Bool) → a || b ≡ true → (a ≡ true → ⊥) → b ≡ true
other true b h n = absurd (n refl)
other false b h n = h

-- ---- the words of the table

words_each : (t ws : List ℕ) (ps : List PlaceRow) (i : ℕ) → sound_words t ws ps ≡ true → i < length ps → sound_word t (get_or ws i 0) (layout_at (get_or ps i nowhere).layout) ≡ true
unfolding sound_word sound_words
words_each t [] ps i h k = refl
words_each t (w ∷ ws) [] i h k = absurd (not-suc-le-zero k)
words_each t (w ∷ ws) (p ∷ ps) zero h k = both_left (sound_word t w (layout_at p.layout)) (sound_words t ws ps) h
words_each t (w ∷ ws) (p ∷ ps) (suc i) h k = words_each t ws ps i (both_right (sound_word t w (layout_at p.layout)) (sound_words t ws ps) h) (le_of_suc-le-suc k)

abbrev pub number_of : Kind → ℕ
number_of kind.Free = 0
number_of kind.Ruled = 1
number_of kind.Counted = 2
number_of kind.Extended = 3
number_of kind.Twice = 4
number_of kind.Sized = 5

-- the digit that says how the parts lie
pub kind_digit : (k : Kind) {d : ℕ} → k ≡ kind_by d → number_of k < 5 → d ≡ number_of k
kind_digit k {d = d} e l = go d (subst (λ x. number_of x < 5) e l) ∙ ap number_of (sym e)
  where
    go : (d : ℕ) → number_of (kind_by d) < 5 → d ≡ number_of (kind_by d)
    go zero h = refl
    go (suc zero) h = refl
    go (suc (suc zero)) h = refl
    go (suc (suc (suc zero))) h = refl
    go (suc (suc (suc (suc zero)))) h = refl
    go (suc (suc (suc (suc (suc n))))) h = absurd (omega arith)

places_long : length (profile_rows 1 categories) ≡ place_count
unfolding categories
places_long = refl

-- the word of a place is sound, by its second digit
pub word_sound : (t : List ℕ) (i k : ℕ) {w : ℕ} → sound_steps t ≡ true → i < place_count → w ≡ get_or t i 0 → w / 256 % 16 ≡ k → sound_by k t (get_or t i 0) (layout_at (place_row_at i).layout) ≡ true
unfolding sound_steps sound_word place_row_at
word_sound t i k s h e d =
    subst (λ x. sound_by x t (get_or t i 0) (layout_at (place_row_at i).layout) ≡ true) (ap (λ w. w / 256 % 16) (sym e) ∙ d)
    (words_each t t (profile_rows 1 categories) i s (subst (λ x. i < x) (sym places_long) h))

-- a part's octets, and the row of a place
pub clean : (bs : List ℕ) → ((j : ℕ) → Fits w8 (get_or bs j 0)) → Octets bs
clean bs f = octets_known bs (λ i. omega (arith, f i))

pub sound_at : (k : ℕ) → row_sound (layout_at (place_row_at k).layout) ≡ true
sound_at k = layout_sound (place_row_at k).layout (place_row_lem k)

-- ---- a free item

pub free_told : (l : LayoutRow) (w : ℕ) (bs : List ℕ) → row_sound l ≡ true → Octets bs → sound_free w l ≡ true → (w ≡ 0 → ⊥) → w < 8 → w ≤ length bs → whole_size l bs ≡ ok w
free_told l zero bs r o s z h k = absurd (z refl)
free_told l (suc n) bs r o s z h k =
    let e : suc n ≡ single_of l = eqb-true (suc n) (single_of l) (subst (λ b. cond b true (eqb (suc n) (single_of l)) ≡ true) (eqb-suc-zero n) s) in
    sym (free_there l (suc n) bs r o (free_of l (suc n) e (omega arith) h) k)

pub free_check : (profile frn n : ℕ) (bs : List ℕ) → profile < profile_count → frn < frn_count → Octets bs → get_or singles (profile * frn_count + frn) 0 ≡ n → 0 < n → n < 8 → n ≤ length bs
    → check_at profile frn bs ≡ ok n
free_check profile frn n bs h k o e a b l =
    let at : ℕ = profile * frn_count + frn in
    whole_check profile frn bs n h k o
    (sym (free_there (layout_at (place_row_at at).layout) n bs (layout_sound (place_row_at at).layout (place_row_lem at)) o (free_of (layout_at (place_row_at at).layout) n (sym e ∙ single_is at) a b) l))

-- ---- the item of a profile at an FRN

-- a place of the tables is an item's
pub place_there : (i f : ℕ) {p : ℕ} → Some p ≡ place_for i f → (i < profile_count) × (f < frn_count) × (p ≡ i * frn_count + f)
unfolding place_for when◌then◌else◌
place_there i f {p = p} e = go (is_place i f) refl e
  where
    go : (b : Bool) → is_place i f ≡ b → Some p ≡ (when b then Some (i * frn_count + f) else None) → (i < profile_count) × (f < frn_count) × (p ≡ i * frn_count + f)
    go true h q =
        (ltb-true i profile_count (both_left (ltb i profile_count) (ltb f frn_count) h), ltb-true f frn_count (both_right (ltb i profile_count) (ltb f frn_count) h), cc)
    go false h q = absurd (none-some _ (sym q))

module _ (i f : ℕ) where
  pub place_past : profile_count ≤ i → None ≡ place_for i f
  unfolding place_for
  place_past h = sym (if_false _ (ap (λ b. b && ltb f frn_count) (le-ltb i profile_count h)) refl)

  pub place_beyond : i < profile_count → frn_count ≤ f → None ≡ place_for i f
  unfolding place_for
  place_beyond h k = sym (if_false _ (ap₂ ◌&&◌ (lt-ltb i profile_count h) (le-ltb f frn_count k)) refl)

  pub place_is : i < profile_count → f < frn_count → Some (i * frn_count + f) ≡ place_for i f
  unfolding place_for
  place_is h k = sym (if_true _ (ap₂ ◌&&◌ (lt-ltb i profile_count h) (lt-ltb f frn_count k)) refl)

-- what is told at a place is told of the item there, by a slice's octets
pub at_place : (profile frn : ℕ) {p : ℕ} (r : Option ℕ) (bs : List ℕ) → Some p ≡ place_for profile frn → ((j : ℕ) → Fits w8 (get_or bs j 0)) → Plainly r (whole_size (layout_at (place_row_at p).layout) bs) → Plainly r (check_at profile frn bs)
at_place profile frn None bs e o h = tt
at_place profile frn (Some n) bs e o h =
    let t = place_there profile frn e in
    whole_check profile frn bs n t.0 t.1 (clean bs o) (subst (λ k. whole_size (layout_at (place_row_at k).layout) bs ≡ ok n) t.2 h)

-- ---- the first three octets of a part

-- the number of so many octets, those that are missing as zeros
abbrev up_to : List ℕ → ℕ → ℕ
up_to bs zero = 0
up_to bs (suc i) = up_to bs i * 256 + get_or bs i 0

up_to-joined : (bs : List ℕ) (i : ℕ) → i ≤ length bs → up_to bs i ≡ joined (take i bs)
up_to-joined bs zero h = sym joined_nil
up_to-joined bs (suc i) h = ap (λ x. x * 256 + get_or bs i 0) (up_to-joined bs i (omega arith)) ∙ sym (joined_suc bs i h)

three : (bs : List ℕ) → first_three bs ≡ up_to bs 3
unfolding first_three
three bs = omega arith

-- as many of them as there are
missing : (bs : List ℕ) (i : ℕ) → length bs ≤ i → get_or bs i 0 ≡ 0
missing bs i h = get_or-eq_default bs 0 h

pub only_one : (bs : List ℕ) {a : ℕ} → (a ≡ get_or bs 0 0) × (a < 256) → length bs < 2 → (a * 65_536 ≡ first_three bs) × (a * 65_536 < 2 ^ 24)
unfolding first_three
only_one bs (ea, ka) h = (omega (arith, missing bs 1 (omega arith), missing bs 2 (omega arith)), omega arith)

pub only_two : (bs : List ℕ) {a b : ℕ} → (a ≡ get_or bs 0 0) × (a < 256) → (b ≡ get_or bs 1 0) × (b < 256) → length bs < 3
    → (a * 65_536 + b * 256 ≡ first_three bs) × (a * 65_536 + b * 256 < 2 ^ 24)
unfolding first_three
only_two bs (ea, ka) (eb, kb) h = (omega (arith, missing bs 2 (omega arith)), omega arith)

pub all_three : (bs : List ℕ) {a b c : ℕ} → (a ≡ get_or bs 0 0) × (a < 256) → (b ≡ get_or bs 1 0) × (b < 256) → (c ≡ get_or bs 2 0) × (c < 256)
    → (a * 65_536 + b * 256 + c ≡ first_three bs) × (a * 65_536 + b * 256 + c < 2 ^ 24)
unfolding first_three
all_three bs (ea, ka) (eb, kb) (ec, kc) = (omega arith, omega arith)

-- those after the first octet
pub three_on : (bs : List ℕ) {n : ℕ} → n ≡ first_three (take (length bs - 1) (drop 1 bs)) → n ≡ first_three (drop 1 bs)
three_on bs e = e ∙ ap first_three (take_all (length bs - 1) (drop 1 bs) (rw length-drop (omega arith)))

pub octet_at : (bs : List ℕ) → Octets bs → (i : ℕ) → get_or bs i 0 < 256
octet_at [] o i = lit< tt
octet_at (b ∷ bs) o zero = o.0
octet_at (b ∷ bs) o (suc i) = octet_at bs o.1 i

-- octets more are a power of 2 times as much, and less than that power more
up_to-more : (bs : List ℕ) → Octets bs → (a e k : ℕ) → up_to bs (a + e) / 2 ^ (8 * e + k) ≡ up_to bs a / 2 ^ k
up_to-more bs o a zero k =
    let i : a + 0 ≡ a = omega arith in
    let j : 8 * 0 + k ≡ k = omega arith in
    rw (i, j)
up_to-more bs o a (suc e) k =
    let i : a + suc e ≡ suc (a + e) = omega arith in
    let j : 8 * suc e + k ≡ 8 + (8 * e + k) = omega arith in
    rw (i, j, ← shr-shr (up_to bs (a + e) * 256 + get_or bs (a + e) 0) 8 (8 * e + k), high (up_to bs (a + e)) 8 (octet_at bs o (a + e))) (up_to-more bs o a e k)

-- so the highest bits of some octets are those of three
highest : (bs : List ℕ) → Octets bs → (s k d : ℕ) → d + 8 * s ≡ k + 24 → up_to bs s / 2 ^ k ≡ up_to bs 3 / 2 ^ d
highest bs o s k d h =
    ⊎_elim
    (λ (q : s ≤ 3).
    let i : s + (3 - s) ≡ 3 = omega arith in
    let j : 8 * (3 - s) + k ≡ d = omega arith in
    sym (subst (λ x. up_to bs 3 / 2 ^ x ≡ up_to bs s / 2 ^ k) j (subst (λ x. up_to bs x / 2 ^ (8 * (3 - s) + k) ≡ up_to bs s / 2 ^ k) i (up_to-more bs o s (3 - s) k))))
    (λ (q : 3 < s).
    let i : 3 + (s - 3) ≡ s = omega arith in
    let j : 8 * (s - 3) + d ≡ k = omega arith in
    subst (λ x. up_to bs s / 2 ^ x ≡ up_to bs 3 / 2 ^ d) j (subst (λ x. up_to bs x / 2 ^ (8 * (s - 3) + d) ≡ up_to bs 3 / 2 ^ d) i (up_to-more bs o 3 (s - 3) d)))
    (le_or_lt s 3)

-- ---- a rule

-- its sum fits
pub sum_small : (n d a : ℕ) → n < 2 ^ 24 → n / 2 ^ d + a % 16_777_216 < 2 ^ 64
sum_small n d a h = let s : n / 2 ^ d ≤ n = shr_le n d in omega arith

-- bits are cut off by a move up and down
pub cut : (c u : ℕ) → u < 64 → c * 2 ^ u % 2 ^ 64 / 2 ^ u ≡ c % 2 ^ (64 - u)
cut c u h =
    let e : 64 - u + u ≡ 64 = omega arith in
    ap (λ x. c * 2 ^ u % 2 ^ x / 2 ^ u) (sym e) ∙ field (c * 2 ^ u) (64 - u) u ∙ ap (λ x. x % 2 ^ (64 - u)) (shl-shr c u)

-- a rule, by its two words
pub rule_asks : (low high n : ℕ)
    → leb ((n / 2 ^ (low / 16_777_216 % 64) + low % 16_777_216) * 2 ^ (high / 16_777_216 % 64) % 2 ^ 64 / 2 ^ (high / 16_777_216 % 64)) (high % 16_777_216) ≡ asks low high n
unfolding asks down_of added_of up_of limit_of
rule_asks low high n = rw (cut (n / 2 ^ (low / 16_777_216 % 64) + low % 16_777_216) (high / 16_777_216 % 64) (omega arith))

-- what was asked of the number of the first three octets
pub asked_first : (low high : ℕ) (bs : List ℕ) {n : ℕ} {b : Bool} → n ≡ first_three bs → b ≡ asks low high n → b ≡ true → asks low high (first_three bs) ≡ true
asked_first low high bs en eb h = ap (asks low high) (sym en) ∙ sym eb ∙ h

module _ (low high step size : ℕ) (bs : List ℕ) (o : Octets bs) (l : size ≤ length bs) where
  -- it asks of the first three octets what the rule asks of the part
  asked_rule : (r : Rule) → same_rule low high step size r ≡ true → asks low high (first_three bs) ≡ obeys r (joined (take size bs) / 2 ^ step)
  unfolding asks obeys
  asked_rule r s =
      let a = eqb (down_of low + 8 * size) (r.shift + step + 24) in
      let b = eqb (added_of low) r.added in
      let c = eqb (up_of high + r.width) 64 in
      let d = eqb (limit_of high) r.limit in
      let u : a && b && c ≡ true = both_left (a && b && c) d s in
      let v : a && b ≡ true = both_left (a && b) c u in
      let ea : down_of low + 8 * size ≡ step + r.shift + 24 = omega (arith, eqb-true (down_of low + 8 * size) (r.shift + step + 24) (both_left a b v)) in
      let eb : added_of low ≡ r.added = eqb-true _ _ (both_right a b v) in
      let ec : 64 - up_of high ≡ r.width = omega (arith, eqb-true (up_of high + r.width) 64 (both_right (a && b) c u)) in
      let ed : limit_of high ≡ r.limit = eqb-true _ _ (both_right (a && b && c) d s) in
      let ee : first_three bs / 2 ^ down_of low ≡ joined (take size bs) / 2 ^ step / 2 ^ r.shift =
      ap (λ x. x / 2 ^ down_of low) (three bs) ∙ sym (highest bs o size (step + r.shift) (down_of low) ea) ∙ ap (λ x. x / 2 ^ (step + r.shift)) (up_to-joined bs size l)
      ∙ sym (shr-shr (joined (take size bs)) step r.shift) in
      rw (ee, eb, ec, ed)

  asked_rules : (rs : List Rule) → same_rules low high step size rs ≡ true → asks low high (first_three bs) ≡ true → all_obeyed rs (joined (take size bs) / 2 ^ step) ≡ true
  asked_rules [] s h = refl
  asked_rules (r ∷ []) s h = rw (sym (asked_rule r s) ∙ h)
  asked_rules (r ∷ (q ∷ rs)) s h = absurd (false≢true s)

asked_pair : (t : List ℕ) (i j size : ℕ) (bs : List ℕ) → Octets bs → size ≤ length bs → (rs : List Rule) → same_pair t i j size rs ≡ true
    → asked t i (first_three bs) ≡ true → asked t j (first_three bs) ≡ true → all_obeyed rs (joined (take size bs) / 2 ^ 0) ≡ true
asked_pair t i j size bs o l [] s h k = absurd (false≢true s)
asked_pair t i j size bs o l (r ∷ []) s h k = absurd (false≢true s)
asked_pair t i j size bs o l (r ∷ (q ∷ [])) s h k =
    let a = same_rule (low_at t i) (high_at t i) 0 size r in
    let b = same_rule (low_at t j) (high_at t j) 0 size q in
    rw (sym (asked_rule (low_at t i) (high_at t i) 0 size bs o l r (both_left a b s)) ∙ h, sym (asked_rule (low_at t j) (high_at t j) 0 size bs o l q (both_right a b s)) ∙ k)
asked_pair t i j size bs o l (r ∷ (q ∷ (p ∷ rs))) s h k = absurd (false≢true s)

-- a part by its group, whose rules it obeys
obeyed_legal : (step g : ℕ) (bs : List ℕ) → Octets bs → g < group_count → part_sound step (group_at g) ≡ true → (group_at g).octets ≤ length bs
    → all_obeyed (slice (first_rule g) (first_rule (g + 1)) rules) (joined (take (group_at g).octets bs) / 2 ^ step) ≡ true → legal (rows_at g) (part_at step g bs) ≡ true
obeyed_legal step g bs o h p l e = sym (part_ruled step g 0 bs o h p (omega arith) refl refl refl refl (sym e))

asked_legal : (low high step g : ℕ) (bs : List ℕ) → Octets bs → g < group_count → part_sound step (group_at g) ≡ true → (group_at g).octets ≤ length bs
    → sound_rule low high step g ≡ true → asks low high (first_three bs) ≡ true → legal (rows_at g) (part_at step g bs) ≡ true
unfolding sound_rule
asked_legal low high step g bs o h p l s e = obeyed_legal step g bs o h p l (asked_rules low high step (group_at g).octets bs o l (slice (first_rule g) (first_rule (g + 1)) rules) s e)

-- ---- one part with a rule, or two

module _ (l : LayoutRow) (w : ℕ) (bs : List ℕ) (r : row_sound l ≡ true) (o : Octets bs) (h : w % 16 ≤ length bs) where
  -- it obeys its rules
  single_told : (c : Bool) → same_kind l.kind parts.Fixed && eqb (group_at l.first).octets (w % 16) && c ≡ true
      → (l.first < group_count → part_sound 0 (group_at l.first) ≡ true → (group_at l.first).octets ≤ length bs → c ≡ true → legal (rows_at l.first) (part_at 0 l.first bs) ≡ true) → whole_size l bs ≡ ok (w % 16)
  single_told c s f =
      let a = same_kind l.kind parts.Fixed in
      let b = eqb (group_at l.first).octets (w % 16) in
      let u : a && b ≡ true = both_left (a && b) c s in
      let m : w % 16 ≡ (group_at l.first).octets = sym (eqb-true _ _ (both_right a b u)) in
      let g : Single l l.first = record { kind = kind_true l.kind parts.Fixed (both_left a b u); group = refl } in
      let p = single_sound l l.first r g in
      sym (single_legal l.first bs m h (sym (f p.0 p.1 (omega arith) (both_right (a && b) c s))) refl ∙ single_size_lem l l.first bs g)

  pub ruled_told : (low high : ℕ) → sound_single low high w l ≡ true → asks low high (first_three bs) ≡ true → whole_size l bs ≡ ok (w % 16)
  unfolding sound_single
  ruled_told low high s e = single_told (sound_rule low high 0 l.first) s (λ p q k d. asked_legal low high 0 l.first bs o p q k d e)

  pub twice_told : (t : List ℕ) → sound_twice t w l ≡ true → asked t (rule_in w) (first_three bs) ≡ true → asked t (next_in w) (first_three bs) ≡ true
      → whole_size l bs ≡ ok (w % 16)
  unfolding sound_twice
  twice_told t s e f =
      let rs = slice (first_rule l.first) (first_rule (l.first + 1)) rules in
      single_told (same_pair t (rule_in w) (next_in w) (group_at l.first).octets rs) s
      (λ p q k d. obeyed_legal 0 l.first bs o p q k (asked_pair t (w / 4_096 % 16) (next_in w) (group_at l.first).octets bs o k rs d e f))

-- ---- a list or a led item

repeated_other : parts.Repeated ≡ parts.Extended → ⊥
repeated_other e = let z : ◌≡◌ {A = ℕ} 2 4 = ap layout_digit e in absurd (omega arith)

led_other : parts.Led ≡ parts.Extended → ⊥
led_other e = let z : ◌≡◌ {A = ℕ} 3 4 = ap layout_digit e in absurd (omega arith)

module _ (l : LayoutRow) (w : ℕ) (bs : List ℕ) (r : row_sound l ≡ true) (o : Octets bs) (h : 1 ≤ length bs) (s : sound_counted w l ≡ true) {n : ℕ} (en : n ≡ get_or bs 0 0) (b : n < 256) where
  -- any parts will do
  counted_whole : (c long : ℕ) (k : lie.Kind) → ok (c, long) ≡ shape_of l bs → l.kind ≡ k → (k ≡ parts.Extended → ⊥) → ok long ≡ whole_size l bs
  unfolding sound_counted
  counted_whole c long k e q m = check_whole l bs c long (equal_free l bs c long (sym e) r o (λ z. absurd (m (sym q ∙ z))) refl (both_left (group_at l.first).free _ s))

  pub counted_told : w / 4_096 % 16 ≤ n → w % 16 + n * (w / 16 % 16) ≤ length bs → whole_size l bs ≡ ok (w % 16 + n * (w / 16 % 16))
  unfolding sound_counted
  counted_told least there = sym (go (same_kind l.kind parts.Repeated) refl (both_right (group_at l.first).free _ s))
    where
      lists : Bool
      lists = eqb (w % 16) 1 && eqb (w / 16 % 16) (group_at l.first).octets && leb l.least (w / 4_096 % 16) && leb 255 l.most

      leds : Bool
      leds = same_kind l.kind parts.Led && eqb (w % 16) 0 && eqb (w / 16 % 16) 1 && ltb l.least (w / 4_096 % 16)

      go : (t : Bool) → same_kind l.kind parts.Repeated ≡ t → cond t lists leds ≡ true → ok (w % 16 + n * (w / 16 % 16)) ≡ whole_size l bs
      go true k u =
          let a = eqb (w % 16) 1 in
          let c = eqb (w / 16 % 16) (group_at l.first).octets in
          let d = leb l.least (w / 4_096 % 16) in
          let f = leb 255 l.most in
          let v : a && c && d ≡ true = both_left (a && c && d) f u in
          let x : a && c ≡ true = both_left (a && c) d v in
          let q : l.kind ≡ parts.Repeated = kind_true l.kind parts.Repeated k in
          let i : w % 16 ≡ 1 = eqb-true (w % 16) 1 (both_left a c x) in
          let j : w / 16 % 16 ≡ (group_at l.first).octets = eqb-true _ _ (both_right a c x) in
          let y : l.least ≤ n = omega (arith, leb-true l.least (w / 4_096 % 16) (both_right (a && c) d v)) in
          let z : n ≤ l.most = omega (arith, leb-true 255 l.most (both_right (a && c && d) f u)) in
          subst (λ m. ok (m + n * (w / 16 % 16)) ≡ whole_size l bs) (sym i)
          (counted_whole n (1 + n * (w / 16 % 16)) parts.Repeated
          (list_there l.least l.most (group_at l.first).octets n (length bs) j (subst (λ m. m + n * (w / 16 % 16) ≤ length bs) i there) y z
          ∙ ap (λ m. list_shape l.least l.most (group_at l.first).octets m (length bs)) en ∙ list_shape_lem l bs q h)
          q repeated_other)
      go false k u =
          let a = same_kind l.kind parts.Led in
          let c = eqb (w % 16) 0 in
          let d = eqb (w / 16 % 16) 1 in
          let f = ltb l.least (w / 4_096 % 16) in
          let v : a && c && d ≡ true = both_left (a && c && d) f u in
          let x : a && c ≡ true = both_left (a && c) d v in
          let q : l.kind ≡ parts.Led = kind_true l.kind parts.Led (both_left a c x) in
          let i : w % 16 ≡ 0 = eqb-true (w % 16) 0 (both_right a c x) in
          let j : w / 16 % 16 ≡ 1 = eqb-true (w / 16 % 16) 1 (both_right (a && c) d v) in
          let y : l.least < n = omega (arith, ltb-true l.least (w / 4_096 % 16) (both_right (a && c && d) f u)) in
          let m : w % 16 + n * (w / 16 % 16) ≡ n = rw (i, j) (omega arith) in
          subst (λ g. ok g ≡ whole_size l bs) (sym m)
          (counted_whole (n - 1) n parts.Led (led_there l bs q h en y (omega arith)) q led_other)

-- the size fits
pub product_fits : (n w : ℕ) → n < 256 → n * (w / 16 % 16) < 4_096
product_fits n w h =
    let k : n * (w / 16 % 16) ≤ n * 15 = mul-le-mul_left n (omega arith) in
    omega arith

-- ---- an extended item

pub record Extended (t : List ℕ) (w : ℕ) (l : LayoutRow) : Type 0 where
  pub kind : l.kind ≡ parts.Extended
  pub ends : l.first + 2 ≡ l.end
  pub one : 1 ≡ (group_at l.first).octets
  pub two : 1 ≡ (group_at (l.first + 1)).octets
  pub first : sound_row t (rule_in w) 1 l.first ≡ true
  pub second : sound_row t (next_in w) 1 (l.first + 1) ≡ true

extended_of : (t : List ℕ) (w : ℕ) (l : LayoutRow) → sound_extended t w l ≡ true → Extended t w l
unfolding sound_extended
extended_of t w l s =
    let a = same_kind l.kind parts.Extended in
    let b = eqb (l.first + 2) l.end in
    let c = eqb (group_at l.first).octets 1 in
    let d = eqb (group_at (l.first + 1)).octets 1 in
    let e = sound_row t (rule_in w) 1 l.first in
    let f = sound_row t (next_in w) 1 (l.first + 1) in
    let u : a && b && c && d && e ≡ true = both_left (a && b && c && d && e) f s in
    let v : a && b && c && d ≡ true = both_left (a && b && c && d) e u in
    let x : a && b && c ≡ true = both_left (a && b && c) d v in
    let y : a && b ≡ true = both_left (a && b) c x in
    record {
      kind = kind_true l.kind parts.Extended (both_left a b y);
      ends = eqb-true _ _ (both_right a b y);
      one = sym (eqb-true _ _ (both_right (a && b) c x));
      two = sym (eqb-true _ _ (both_right (a && b && c) d v));
      first = both_right (a && b && c && d) e u;
      second = both_right (a && b && c && d && e) f s;
    }

module _ (t : List ℕ) (l : LayoutRow) (w : ℕ) (bs : List ℕ) (r : row_sound l ≡ true) (o : Octets bs) (h : 1 ≤ length bs) (s : sound_extended t w l ≡ true) (e : asked t (rule_in w) (first_three bs) ≡ true) where
  x : Extended t w l
  x = extended_of t w l s

  begun : Chaining l.first l.end bs l.first 0 0
  begun = chain_begun l.first l.end bs (chain_parts_lem l (rowed l r) x.kind)

  more : l.first < l.end
  more = omega (arith, x.ends)

  first_legal : legal (rows_at l.first) (part_at 1 l.first bs) ≡ true
  first_legal =
      let g = chain_group l.first l.end bs l.first 0 0 begun more x.one in
      asked_legal (low_at t (rule_in w)) (high_at t (rule_in w)) 1 l.first bs o g.inside g.sound (omega (arith, x.one)) x.first e

  extended_whole : (c long : ℕ) → ok (c, long) ≡ chain l.first (l.end - l.first) bs → parts_legal 1 l.first c bs ≡ true → whole_size l bs ≡ ok long
  extended_whole c long q p = sym (check_whole l bs c long (chain_legal l bs c long (sym (q ∙ chain_shape l bs x.kind)) r o x.kind refl p))

  pub extended_one : get_or bs 0 0 % 2 ≡ 0 → whole_size l bs ≡ ok 1
  unfolding parts_legal
  extended_one f = extended_whole 1 1 (chain_last l.first l.end bs l.first 0 0 begun more x.one (omega arith) (eq-eqb (get_or bs 0 0 % 2) 0 f)) (rw first_legal)

  module _ (f : ¬ (get_or bs 0 0 % 2 ≡ 0)) (k : 2 ≤ length bs) (q : asked t (next_in w) (first_three (drop 1 bs)) ≡ true) where
    next : Chaining l.first l.end bs (l.first + 1) 1 1
    next = chain_more l.first l.end bs l.first 0 0 begun more x.one (omega arith) (ne_eqb (get_or bs 0 0 % 2) 0 f)

    last : l.first + 1 < l.end
    last = omega (arith, x.ends)

    second_legal : legal (rows_at (l.first + 1)) (part_at 1 (l.first + 1) (drop 1 bs)) ≡ true
    second_legal =
        let g = chain_group l.first l.end bs (l.first + 1) 1 1 next last x.two in
        asked_legal (low_at t (next_in w)) (high_at t (next_in w)) 1 (l.first + 1) (drop 1 bs) (octets_drop 1 bs o) g.inside g.sound (omega (arith, x.two, length-drop 1 bs)) x.second q

    pub extended_two : get_or bs 1 0 % 2 ≡ 0 → whole_size l bs ≡ ok 2
    unfolding parts_legal
    extended_two z =
        extended_whole 2 2 (chain_last l.first l.end bs (l.first + 1) 1 1 next last x.two (omega arith) (eq-eqb (get_or bs 1 0 % 2) 0 z))
        (rw (first_legal, ← x.one, second_legal))

-- ---- the octets of an item that is legal, by its first octet

small_octets : (w x : ℕ) → w < 8 → w ≡ word_octets w x
unfolding word_octets
small_octets w x h =
    let k : w / 256 % 16 ≡ 0 = omega arith in
    let p : w / 16 % 16 ≡ 0 = omega arith in
    sym (if_false _ (ap (λ y. eqb y 3) k) (ap (λ y. w % 16 + x * y) p ∙ ap (λ y. w % 16 + y) (mul-zero x) ∙ omega arith))

module _ (t : List ℕ) (i f : ℕ) where
  pub word_some : {p : ℕ} → Some p ≡ place_for i f → get_or t p 0 ≡ word_for t i f
  unfolding word_for
  word_some e =
      let h = place_there i f e in
      ap (λ k. get_or t k 0) h.2 ∙ sym (if_true _ (ap₂ ◌&&◌ (lt-ltb i profile_count h.0) (lt-ltb f frn_count h.1)) refl)

  pub word_none : None ≡ place_for i f → 0 ≡ word_for t i f
  unfolding place_for word_for when◌then◌else◌
  word_none e = go (is_place i f) e
    where
      go : (b : Bool) → None ≡ (when b then Some (i * frn_count + f) else None) → 0 ≡ (when b then get_or t (i * frn_count + f) 0 else 0)
      go true q = absurd (none-some (i * frn_count + f) q)
      go false q = refl

  -- a word of a table that is exact says what the item at its place has, and 0 that its first octet does not tell
  exact_word_lem : exact_steps t ≡ true → is_place i f ≡ true → exact_word (get_or t (i * frn_count + f) 0) (row_of i f) ≡ true
  unfolding exact_steps
  exact_word_lem s e =
      let h : i < profile_count = ltb-true i profile_count (both_left (ltb i profile_count) (ltb f frn_count) e) in
      let k : f < frn_count = ltb-true f frn_count (both_right (ltb i profile_count) (ltb f frn_count) e) in
      all_below_lem place_count (λ j. exact_word (get_or t j 0) (layout_at (place_row_at j).layout)) (i * frn_count + f) s (omega arith)

  word_octets_lem : exact_steps t ≡ true → 0 < word_for t i f → (bs : List ℕ) → get_or bs 0 0 < 256 → word_octets (word_for t i f) (get_or bs 0 0) ≡ octets_at i f bs
  unfolding word_for octets_at when◌then◌else◌
  word_octets_lem s some bs b = go (is_place i f) refl some
    where
      w : ℕ
      w = get_or t (i * frn_count + f) 0

      exact : Bool
      exact = all_below 256 (λ x. eqb (word_octets w x) (row_octets (row_of i f) x))

      by : (u : Bool) → cond u (ltb 0 w && exact) (eqb w 0) ≡ true → 0 < w → word_octets w (get_or bs 0 0) ≡ (when u then row_octets (row_of i f) (get_or bs 0 0) else size_or0 (check_at i f bs))
      by true e h = eqb-true _ _ (all_below_lem 256 (λ x. eqb (word_octets w x) (row_octets (row_of i f) x)) (get_or bs 0 0) (both_right (ltb 0 w) exact e) b)
      by false e h = absurd (omega (arith, eqb-true w 0 e))

      go : (p : Bool) → is_place i f ≡ p → 0 < (when p then w else 0)
          → word_octets (when p then w else 0) (get_or bs 0 0) ≡ (when p && row_tells (row_of i f) then row_octets (row_of i f) (get_or bs 0 0) else size_or0 (check_at i f bs))
      go true e h = by (row_tells (row_of i f)) (exact_word_lem s e) h
      go false e h = absurd (omega arith)

  word_nothing : exact_steps t ≡ true → word_for t i f ≡ 0 → (bs : List ℕ) → octets_at i f bs ≡ size_or0 (check_at i f bs)
  unfolding word_for octets_at when◌then◌else◌
  word_nothing s none bs = go (is_place i f) refl none
    where
      w : ℕ
      w = get_or t (i * frn_count + f) 0

      by : (u : Bool) → cond u (ltb 0 w && all_below 256 (λ x. eqb (word_octets w x) (row_octets (row_of i f) x))) (eqb w 0) ≡ true → w ≡ 0
          → (when u then row_octets (row_of i f) (get_or bs 0 0) else size_or0 (check_at i f bs)) ≡ size_or0 (check_at i f bs)
      by true e z = absurd (omega (arith, ltb-true 0 w (both_left (ltb 0 w) _ e)))
      by false e z = refl

      go : (p : Bool) → is_place i f ≡ p → (when p then w else 0) ≡ 0
          → (when p && row_tells (row_of i f) then row_octets (row_of i f) (get_or bs 0 0) else size_or0 (check_at i f bs)) ≡ size_or0 (check_at i f bs)
      go true e z = by (row_tells (row_of i f)) (exact_word_lem s e) z
      go false e z = refl

module _ (t : List ℕ) (i f : ℕ) (s : exact_steps t ≡ true) {w : ℕ} (e : w ≡ word_for t i f) (bs : List ℕ) where
  pub asked_octets : w ≡ 0 → size_or0 (check_at i f bs) ≡ octets_at i f bs
  asked_octets z = sym (word_nothing t i f s (sym e ∙ z) bs)

  module _ (b : get_or bs 0 0 < 256) (some : 0 < w) where
    by_word : word_octets w (get_or bs 0 0) ≡ octets_at i f bs
    by_word = ap (λ y. word_octets y (get_or bs 0 0)) e ∙ word_octets_lem t i f s (subst (λ y. 0 < y) e some) bs b

    pub free_octets : w < 8 → w ≡ octets_at i f bs
    free_octets h = small_octets w (get_or bs 0 0) h ∙ by_word

    pub extended_octets : {x : ℕ} → x ≡ get_or bs 0 0 → w / 256 % 16 ≡ 3 → 1 + x % 2 ≡ octets_at i f bs
    unfolding word_octets
    extended_octets ex k = ap (λ y. 1 + y % 2) ex ∙ sym (if_true _ (eq-eqb _ 3 k) refl) ∙ by_word

    pub counted_octets : {x : ℕ} → x ≡ get_or bs 0 0 → (w / 256 % 16 ≡ 3 → ⊥) → w % 16 + x * (w / 16 % 16) ≡ octets_at i f bs
    unfolding word_octets
    counted_octets ex k = ap (λ y. w % 16 + y * (w / 16 % 16)) ex ∙ sym (if_false _ (ne_eqb _ 3 k) refl) ∙ by_word
