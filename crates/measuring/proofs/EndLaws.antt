-- Where the items of a set end.
--
-- In order: the octets of an item; numbers as the code has them; flags end to end; FRN by FRN; the items before an FRN and from it on; what is measured, by
-- cases. Assumes nothing.
use Prim.Native.Nat.{ℕ, zero, suc, ◌+◌, ◌-◌, ◌*◌, ◌/◌, ◌%◌, ◌^◌, ◌≤◌, ◌<◌, min, max}
use mathlib.Core.Path.{◌≡◌, refl, sym, ap, ap₂, ◌∙◌, subst}
use mathlib.Core.Logic.{◌⊎◌, inl, inr, ⊎_elim}
use mathlib.Core.Bool.{Bool, true, false, ◌&&◌}
use mathlib.Core.Option.{Option, none, some}
use mathlib.Core.List.{List, [], ◌∷◌, ◌++◌}
use native.Mathlib.Omega.{arith}
use native.Mathlib.Numerals.{add-one}
use native.Mathlib.Nat.{mod-lt, mod-eq_of_lt, div-eq_of_lt, add-zero, mul-le-mul_left}
use lib.Pow.{pow_pos, pow_mono, split, high, low}
use lib.Dec.{leb, eqb, ltb}
use lib.ListN.{length, get_or, take, drop, length-drop, drop_of_length-le}
use lib.Seq.{get_or-drop}
use borrow.Author.Tests.{leb-true, ltb-true, le-leb, lt-leb, eq-eqb, ne_eqb}
use Rattle.rules.specs.Answer.{Answer, ok, refused, when◌then◌else◌}
use Rattle.rules.specs.Presence.{flags}
use Rattle.rules.specs.Catalogue.{categories}
use Rattle.rules.proofs.AnswerLaws.{if_true, if_false, both_left, both_right, Octets, octets_drop, to_end}
use Rattle.rules.proofs.PresenceLaws.{flags_length}
use Rattle.tables.specs.Tables.{profile_count, frn_count, groups, layouts, group_at, layout_at, place_row_at}
use Rattle.tables.specs.Profiles.{profile_row_at}
use Rattle.layouts.proofs.ReadLaws.{le_or_lt}
use Rattle.std.specs.Prelude.{Result, Ok, Err, Some, None, unwrap_or}
use Rattle.std.specs.Prelude as code
use Rattle.std.specs.Result.{result_ok}
use Rattle.items.specs.Answers.{checked_of, check_at}
use Rattle.sets.specs.Sets.{frns_from, frns_of, set_at}
use Rattle.sets.specs.declared.ItemSet.{ItemSet}
use Rattle.sets.specs.Steps.{type_frn}
use Rattle.sets.specs.Answers.{set_of}
use Rattle.sets.specs.declared.Fspec.{Fspec}
use Rattle.rules.specs.declared.faults.Fault.{Fault}
use Rattle.rules.specs.declared.faults.Refusal.{Refusal}
use Rattle.sets.proofs.FlagLaws.{flags_split, frns_skip}
use Rattle.tables.specs.Tests.{all_below}
use Rattle.tables.specs.declared.tables.Kind.{Kind}
use Rattle.tables.specs.declared.tables.Kind.TheVariants as parts
use Rattle.tables.proofs.KindLaws.{kind_true}
use Rattle.quick_items.specs.Item.{octets_by, first_tells, row_octets, row_tells, is_place, row_of, tells_at, size_or0, octets_at}
use Rattle.tables.proofs.TableLaws.{all_below_lem}
use Rattle.records.proofs.PlaceLaws.{check_within}
use Rattle.quick_items.proofs.ItemLaws.{octet_at}
use Rattle.measuring.specs.Measure.{size_in, frn_out, end_from, end_of, start_of, time_frn, is_in, is_untimed, clock_at, time_in, time_out, sized, measure_by, measure_in}
use Rattle.measuring.specs.Shape.{is_fixed, by_first}
use Rattle.measuring.proofs.CategoryLaws.{untimed_told, frn_missing}

-- ---- the octets of an item

-- the parts of no item have more octets than an octet counts
few_at : all_below profile_count (λ i. all_below frn_count (λ f. leb (group_at (row_of i f).first).octets 255)) ≡ true
unfolding group_at layout_at place_row_at groups layouts categories
few_at = refl

octets_by_lem : (k : Kind) (n x : ℕ) → n ≤ 255 → x < 256 → octets_by k n x ≤ 65_026
octets_by_lem parts.NoItem n x l h = omega arith
octets_by_lem parts.Fixed n x l h = omega arith
octets_by_lem parts.Repeated n x l h = let m : x * n ≤ x * 255 = mul-le-mul_left x l in omega arith
octets_by_lem parts.Led n x l h = omega arith
octets_by_lem parts.Extended n x l h = omega arith
octets_by_lem parts.Compound n x l h = omega arith

-- as many as its first octet tells, or no more than there are
octets_most : (i f : ℕ) (bs : List ℕ) → Octets bs → (octets_at i f bs ≤ 65_026) ⊎ (octets_at i f bs ≤ length bs)
unfolding octets_at when◌then◌else◌
octets_most i f bs o = go (is_place i f) refl
  where
    asked : (a : Answer ℕ) → check_at i f bs ≡ a → size_or0 a ≤ length bs
    asked (ok n) e = check_within i f bs n e
    asked (refused n p) e = omega arith

    told : is_place i f ≡ true → row_octets (row_of i f) (get_or bs 0 0) ≤ 65_026
    told e =
        let j : i < profile_count = ltb-true i profile_count (both_left (ltb i profile_count) (ltb f frn_count) e) in
        let k : f < frn_count = ltb-true f frn_count (both_right (ltb i profile_count) (ltb f frn_count) e) in
        octets_by_lem (row_of i f).kind _ (get_or bs 0 0)
        (leb-true _ 255
        (all_below_lem frn_count (λ g. leb (group_at (row_of i g).first).octets 255) f
        (all_below_lem profile_count (λ j. all_below frn_count (λ g. leb (group_at (row_of j g).first).octets 255)) i few_at j) k)) (octet_at bs o 0)

    by : is_place i f ≡ true → (t : Bool)
        → ((when t then row_octets (row_of i f) (get_or bs 0 0) else size_or0 (check_at i f bs)) ≤ 65_026) ⊎ ((when t then row_octets (row_of i f) (get_or bs 0 0) else size_or0 (check_at i f bs)) ≤ length bs)
    by e true = inl (told e)
    by e false = inr (asked (check_at i f bs) refl)

    go : (p : Bool) → is_place i f ≡ p
        → ((when p && row_tells (row_of i f) then row_octets (row_of i f) (get_or bs 0 0) else size_or0 (check_at i f bs)) ≤ 65_026)
        ⊎ ((when p && row_tells (row_of i f) then row_octets (row_of i f) (get_or bs 0 0) else size_or0 (check_at i f bs)) ≤ length bs)
    go true e = by e (row_tells (row_of i f))
    go false e = inr (asked (check_at i f bs) refl)

size_out : (c : Result ℕ Refusal) → result_ok c ≡ size_in (checked_of c)
size_out (Ok n) = refl
size_out (Err r) = refl

pub size_or : (a : Answer ℕ) → unwrap_or (size_in a) 0 ≡ size_or0 a
size_or (ok n) = refl
size_or (refused n p) = refl

-- by a check of the octets from a place on, or from the end where the place lies past it
module _ (i f : ℕ) (bs : List ℕ) (at : ℕ) {from : ℕ} (c : Result ℕ Refusal) (ef : from ≡ min at (length bs)) (ec : checked_of c ≡ check_at i f (take (length bs - from) (drop from bs))) where
  left : drop from bs ≡ drop at bs
  left =
      ⊎_elim
      (λ (h : at ≤ length bs). let e : from ≡ at = omega arith in ap (λ n. drop n bs) e)
      (λ (h : length bs < at). drop_of_length-le bs {i = from} (omega arith) ∙ sym (drop_of_length-le bs {i = at} (omega arith)))
      (le_or_lt at (length bs))

  check_is : checked_of c ≡ check_at i f (drop at bs)
  check_is = ec ∙ ap (check_at i f) (to_end bs from ∙ left)

  pub asked_size : result_ok c ≡ size_in (check_at i f (drop at bs))
  asked_size = size_out c ∙ ap size_in check_is

pub first_at : (bs : List ℕ) (at : ℕ) → get_or bs at 0 ≡ get_or (drop at bs) 0 0
first_at bs at = sym (get_or-drop at bs 0 0 ∙ ap (λ x. get_or bs x 0) (add-zero at))

-- where the first octet of those at a place tells
pub octets_told : (i f : ℕ) (bs : List ℕ) (at : ℕ) → tells_at i f ≡ true → octets_at i f (drop at bs) ≡ by_first i f (get_or bs at 0)
unfolding octets_at
octets_told i f bs at h = if_true _ h (ap (by_first i f) (sym (first_at bs at)))

-- one part has as many, whatever its first octet is
pub octets_fixed : (i f : ℕ) (bs : List ℕ) (at : ℕ) → is_fixed i f ≡ true → octets_at i f (drop at bs) ≡ by_first i f 0
octets_fixed i f bs at h =
    octets_told i f bs at (ap₂ ◌&&◌ (both_left (is_place i f) _ h) (ap (λ k. first_tells k (row_of i f).first (row_of i f).end) one))
    ∙ ap (λ k. octets_by k (group_at (row_of i f).first).octets (get_or bs at 0)) one
    ∙ sym (ap (λ k. octets_by k (group_at (row_of i f).first).octets 0) one)
  where
    one : (row_of i f).kind ≡ parts.Fixed
    one = kind_true (row_of i f).kind parts.Fixed (both_right (is_place i f) _ h)

-- ---- numbers as the code has them

-- three octets, the higher first
module _ (bs : List ℕ) (at : ℕ) where
  pub clock_past : length bs < at + 3 → None ≡ time_out (clock_at bs at)
  unfolding clock_at
  clock_past h = ap time_out (sym (if_false _ (lt-leb (at + 3) (length bs) h) refl))

  pub clock_there : {x y z : ℕ} → at + 3 ≤ length bs → x ≡ get_or bs at 0 → y ≡ get_or bs (at + 1) 0 → z ≡ get_or bs (at + 2) 0
      → Some (x * 65_536 + y * 256 + z) ≡ time_out (clock_at bs at)
  unfolding clock_at
  clock_there h a b d =
      ap time_out (ap₂ (λ u w. some (u + w)) (ap₂ (λ u w. u * 65_536 + w * 256) a b) d ∙ sym (if_true _ (le-leb (at + 3) (length bs) h) refl))

-- with its size
pub sized_at : (n : ℕ) (t : Option ℕ) {x : code.Option ℕ} → x ≡ time_out t → record { size = n; time = x } ≡ sized n t
sized_at n t e = ap (λ x. record { size = n; time = x }) e

-- an FRN, as the code has it
pub frn_none : (f : ℕ) → None ≡ frn_out f → f ≡ 0
frn_none zero e = refl
frn_none (suc f) e = cc

pub frn_there : (f : ℕ) {x : ℕ} → Some x ≡ frn_out f → x ≡ f
frn_there zero e = cc
frn_there (suc f) e = cc

pub frn_read : (f : ℕ) → (f ≡ 0 → ⊥) → Some f ≡ frn_out f
frn_read zero z = absurd (z refl)
frn_read (suc f) z = refl

-- the set before an FRN
pub early_few : (bits f : ℕ) {early : ℕ} → early ≡ bits / 2 ^ (64 - f) * 2 ^ (64 - f) → early ≤ bits
early_few bits f e = omega (arith, e, split bits (64 - f))

-- where the items at FRNs end, from a place on
abbrev pub end_frns : ℕ → List ℕ → List ℕ → ℕ → ℕ
end_frns i [] bs at = at
end_frns i (f ∷ fs) bs at = end_frns i fs bs (at + octets_at i f (drop at bs))

module _ (i : ℕ) (bs : List ℕ) where
  -- ---- flags end to end

  pub end_least : (ts : List Bool) (f at : ℕ) → at ≤ end_from i ts f bs at
  unfolding end_from
  end_least [] f at = omega arith
  end_least (false ∷ ts) f at = end_least ts (f + 1) at
  end_least (true ∷ ts) f at = omega (arith, end_least ts (f + 1) (at + octets_at i f (drop at bs)))

  pub end_most : Octets bs → (ts : List Bool) (f at : ℕ) → end_from i ts f bs at ≤ max at (length bs) + 65_026 * length ts
  unfolding end_from
  end_most o [] f at = omega arith
  end_most o (false ∷ ts) f at = omega (arith, end_most o ts (f + 1) at)
  end_most o (true ∷ ts) f at =
      let n : ℕ = octets_at i f (drop at bs) in
      let e : end_from i ts (f + 1) bs (at + n) ≤ max (at + n) (length bs) + 65_026 * length ts = end_most o ts (f + 1) (at + n) in
      ⊎_elim (λ (h : n ≤ 65_026). omega arith) (λ (h : n ≤ length (drop at bs)). omega (arith, length-drop at bs)) (octets_most i f (drop at bs) (octets_drop at bs o))

  pub end_append : (ts us : List Bool) (f at : ℕ) → end_from i (ts ++ us) f bs at ≡ end_from i us (f + length ts) bs (end_from i ts f bs at)
  unfolding end_from
  end_append [] us f at = ap (λ x. end_from i us x bs at) (sym (add-zero f))
  end_append (false ∷ ts) us f at =
      let e : f + 1 + length ts ≡ f + suc (length ts) = omega arith in
      end_append ts us (f + 1) at ∙ ap (λ x. end_from i us x bs (end_from i ts (f + 1) bs at)) e
  end_append (true ∷ ts) us f at =
      let e : f + 1 + length ts ≡ f + suc (length ts) = omega arith in
      let to : ℕ = at + octets_at i f (drop at bs) in
      end_append ts us (f + 1) to ∙ ap (λ x. end_from i us x bs (end_from i ts (f + 1) bs to)) e

  end_none : (k f at : ℕ) → end_from i (flags k 0) f bs at ≡ at
  unfolding end_from flags
  end_none zero f at = refl
  end_none (suc k) f at =
      let e : 0 % 2 ^ k ≡ 0 = mod-eq_of_lt (pow_pos k) in
      rw (lt-leb (2 ^ k) 0 (pow_pos k), e) (end_none k (f + 1) at)

  -- the higher bits of a number, then the lower
  end_split : (j k n f at : ℕ) → n < 2 ^ (j + k)
      → end_from i (flags (j + k) n) f bs at ≡ end_from i (flags k (n % 2 ^ k)) (f + j) bs (end_from i (flags j (n / 2 ^ k)) f bs at)
  end_split j k n f at h =
      ap (λ ts. end_from i ts f bs at) (flags_split j k n h)
      ∙ end_append (flags j (n / 2 ^ k)) (flags k (n % 2 ^ k)) f at
      ∙ ap (λ x. end_from i (flags k (n % 2 ^ k)) (f + x) bs (end_from i (flags j (n / 2 ^ k)) f bs at)) (flags_length j (n / 2 ^ k))

  end_blank : (j k n f at : ℕ) → n < 2 ^ k → end_from i (flags (j + k) n) f bs at ≡ end_from i (flags k n) (f + j) bs at
  end_blank j k n f at h =
      let p : 2 ^ k ≤ 2 ^ (j + k) = pow_mono (omega arith) in
      end_split j k n f at (omega arith)
      ∙ ap₂ (λ x y. end_from i (flags k x) (f + j) bs (end_from i (flags j y) f bs at)) (mod-eq_of_lt h) (div-eq_of_lt h)
      ∙ ap (end_from i (flags k n) (f + j) bs) (end_none j f at)

  -- ---- FRN by FRN

  frns_end : (ts : List Bool) (f at : ℕ) → end_frns i (frns_from f ts) bs at ≡ end_from i ts f bs at
  unfolding end_from
  frns_end [] f at = refl
  frns_end (false ∷ ts) f at = frns_end ts (suc f) at ∙ ap (λ k. end_from i ts k bs at) (sym (add-one f))
  frns_end (true ∷ ts) f at =
      let to : ℕ = at + octets_at i f (drop at bs) in
      frns_end ts (suc f) to ∙ ap (λ k. end_from i ts k bs to) (sym (add-one f))

  -- of a set without FRN 0
  set_end : (bits at : ℕ) → bits < 2 ^ 63 → end_frns i (frns_of bits) bs at ≡ end_of i bits bs at
  unfolding frns_of end_of
  set_end bits at h = ap (λ fs. end_frns i fs bs at) (frns_skip 1 63 0 bits h) ∙ frns_end (flags 63 bits) 1 at

  frns_least : (fs : List ℕ) (at : ℕ) → at ≤ end_frns i fs bs at
  frns_least [] at = omega arith
  frns_least (f ∷ fs) at = omega (arith, frns_least fs (at + octets_at i f (drop at bs)))

  -- their end is not far
  pub end_far : Octets bs → (bits at : ℕ) → end_of i bits bs at ≤ max at (length bs) + 4_096_638
  unfolding end_of
  end_far o bits at = omega (arith, end_most o (flags 63 bits) 1 at, flags_length 63 bits)

  pub end_past : (bits at : ℕ) → at ≤ end_of i bits bs at
  unfolding end_of
  end_past bits at = end_least (flags 63 bits) 1 at

  -- where the loop over the set stands: the FRNs that are left end where the whole set does
  pub record Standing (bits from : ℕ) (left : List ℕ) (at : ℕ) : Type 0 where
    pub same : end_frns i left bs at ≡ end_of i bits bs from

  module _ (bits from : ℕ) where
    -- before the first turn
    pub stand_first : bits < 2 ^ 63 → {left : ItemSet} → left ≡ record { bits = bits } → Standing bits from (frns_of left.bits) from
    stand_first h l = record { same = ap (λ s. end_frns i (frns_of s.bits) bs from) l ∙ set_end bits from h }

    module _ (left : List ℕ) (at : ℕ) (s : Standing bits from left at) where
      pub stand_next : (f : ℕ) (others : List ℕ) → left ≡ f ∷ others → {n : ℕ} → n ≡ octets_at i f (drop at bs) → Standing bits from others (at + n)
      stand_next f others l e = record { same = ap (λ n. end_frns i others bs (at + n)) e ∙ ap (λ fs. end_frns i fs bs at) (sym l) ∙ s.same }

      pub stand_near : Octets bs → at ≤ max from (length bs) + 4_096_638
      stand_near o = omega (arith, frns_least left at, s.same, end_far o bits from)

      pub stand_end : left ≡ [] → at ≡ end_of i bits bs from
      stand_end l = ap (λ fs. end_frns i fs bs at) (sym l) ∙ s.same

  -- ---- the items before an FRN, and from it on

  module _ (f bits at : ℕ) (h : bits < 2 ^ 63) (one : 1 ≤ f) (few : f ≤ 63) where
    sum : f - 1 + (64 - f) ≡ 63
    sum = omega arith

    below : bits < 2 ^ (f - 1 + (64 - f))
    below = rw sum h

    late : bits - bits / 2 ^ (64 - f) * 2 ^ (64 - f) ≡ bits % 2 ^ (64 - f)
    late = omega (arith, split bits (64 - f))

    -- as flags, to the FRN
    pub start_flags : start_of i f bits bs at ≡ end_from i (flags (f - 1) (bits / 2 ^ (64 - f))) 1 bs at
    unfolding start_of end_of
    start_flags =
        let k : ℕ = 64 - f in
        let q : ℕ = bits / 2 ^ k in
        let z : q * 2 ^ k ≡ q * 2 ^ k + 0 = omega arith in
        ap (λ x. end_from i (flags x (q * 2 ^ k)) 1 bs at) (sym sum)
        ∙ end_split (f - 1) k (q * 2 ^ k) 1 at (omega (arith, early_few bits f refl, below))
        ∙ ap₂ (λ x y. end_from i (flags k x) (1 + (f - 1)) bs (end_from i (flags (f - 1) y) 1 bs at))
        (ap (λ x. x % 2 ^ k) z ∙ low q k (pow_pos k)) (ap (λ x. x / 2 ^ k) z ∙ high q k (pow_pos k))
        ∙ end_none k (1 + (f - 1)) (end_from i (flags (f - 1) q) 1 bs at)

    pub end_from_lem : end_of i (bits - bits / 2 ^ (64 - f) * 2 ^ (64 - f)) bs (start_of i f bits bs at) ≡ end_of i bits bs at
    unfolding end_of
    end_from_lem =
        let k : ℕ = 64 - f in
        ap₂ (λ x y. end_from i (flags 63 x) 1 bs y) late start_flags
        ∙ ap (λ x. end_from i (flags x (bits % 2 ^ k)) 1 bs (end_from i (flags (f - 1) (bits / 2 ^ k)) 1 bs at)) (sym sum)
        ∙ end_blank (f - 1) k (bits % 2 ^ k) 1 (end_from i (flags (f - 1) (bits / 2 ^ k)) 1 bs at) (mod-lt bits (pow_pos k))
        ∙ sym (end_split (f - 1) k bits 1 at below)
        ∙ ap (λ x. end_from i (flags x bits) 1 bs at) sum

  -- ---- what is measured, by cases

  pub untimed_is : (bits used f : ℕ) {n early start x : ℕ} → n ≡ (profile_row_at i).untimed → f ≡ type_frn i → early ≡ bits / 2 ^ (64 - f) * 2 ^ (64 - f)
      → start ≡ end_of i early bs used → x ≡ get_or bs start 0 → eqb (x + 1) n ≡ is_untimed i (get_or bs (start_of i (type_frn i) bits bs used) 0)
  unfolding start_of
  untimed_is bits used f en ef a b d =
      untimed_told i en _
      ∙ ap (is_untimed i)
      (d ∙ ap (λ x. get_or bs x 0) (b ∙ ap (λ x. end_of i x bs used) a ∙ ap (λ f. end_of i (bits / 2 ^ (64 - f) * 2 ^ (64 - f)) bs used) ef))

  module _ (bits used : ℕ) {n : ℕ} (e : n ≡ end_of i bits bs used) where
    pub measure_past : length bs < n → sized 0 none ≡ measure_by i bs (ok (bits, used))
    measure_past h = sym (if_false _ (lt-leb (end_of i bits bs used) (length bs) (subst (λ x. length bs < x) e h)) refl)

    pub measure_there : (t : Option ℕ) → n ≤ length bs → t ≡ time_in i bits bs used → sized n t ≡ measure_by i bs (ok (bits, used))
    measure_there t h z = ap₂ sized e z ∙ sym (if_true _ (le-leb (end_of i bits bs used) (length bs) (subst (λ x. x ≤ length bs) e h)) refl)

  -- the time of a profile without one
  pub time_missing : (bits used : ℕ) → bits < 2 ^ 63 → None ≡ frn_out (time_frn i) → time_in i bits bs used ≡ none
  unfolding time_in
  time_missing bits used h e = if_false _ (ap (λ x. is_in x bits) (frn_none (time_frn i) e) ∙ frn_missing bits h) refl

  -- the time, where its item is absent, where it counts as none, and where it is there
  module _ (bits used : ℕ) {f : ℕ} (ef : f ≡ time_frn i) where
    pub time_absent : (bits / 2 ^ (63 - f) % 2 ≡ 1 → ⊥) → time_in i bits bs used ≡ none
    unfolding time_in
    time_absent z = if_false _ (ap (λ x. is_in x bits) (sym ef) ∙ ne_eqb (bits / 2 ^ (63 - f) % 2) 1 z) refl

    module _ (z : bits / 2 ^ (63 - f) % 2 ≡ 1) {u : Bool} (eu : u ≡ is_untimed i (get_or bs (start_of i (type_frn i) bits bs used) 0)) where
      timed_in : is_in (time_frn i) bits ≡ true
      timed_in = ap (λ x. is_in x bits) (sym ef) ∙ eq-eqb (bits / 2 ^ (63 - f) % 2) 1 z

      pub time_none : u ≡ true → time_in i bits bs used ≡ none
      unfolding time_in
      time_none y = if_true _ timed_in (if_true _ (sym eu ∙ y) refl)

      pub time_there : u ≡ false → {s : ℕ} → s ≡ start_of i f bits bs used → clock_at bs s ≡ time_in i bits bs used
      unfolding time_in
      time_there y q = ap (clock_at bs) (q ∙ ap (λ x. start_of i x bits bs used) ef) ∙ sym (if_true _ timed_in (if_false _ (sym eu ∙ y) refl))

  -- the items before the time's, and those from it on
  module _ (bits used f : ℕ) {early start : ℕ} (ee : early ≡ bits / 2 ^ (64 - f) * 2 ^ (64 - f)) (es : start ≡ end_of i early bs used) where
    pub starts : start ≡ start_of i f bits bs used
    unfolding start_of
    starts = es ∙ ap (λ x. end_of i x bs used) ee

    pub ends : bits < 2 ^ 63 → 1 ≤ f → f ≤ 63 → {end : ℕ} → end ≡ end_of i (bits - early) bs start → end ≡ end_of i bits bs used
    ends b one few en = en ∙ ap₂ (λ x y. end_of i (bits - x) bs y) ee starts ∙ end_from_lem f bits used b one few

-- by the set that was read
module _ (i : ℕ) (bs : List ℕ) (s : Result Fspec Fault) (es : set_of s ≡ set_at i bs) where
  by_set : measure_by i bs (set_of s) ≡ measure_in i bs
  unfolding measure_in
  by_set = ap (measure_by i bs) es

  pub measure_no_set : (e : Fault) → s ≡ Err e → sized 0 none ≡ measure_in i bs
  measure_no_set _ e = ap (λ x. measure_by i bs (set_of x)) (sym e) ∙ by_set

  pub measure_items : (f : Fspec) → s ≡ Ok f → measure_by i bs (ok (f.set.bits, f.octets)) ≡ measure_in i bs
  measure_items f e = ap (λ x. measure_by i bs (set_of x)) (sym e) ∙ by_set
