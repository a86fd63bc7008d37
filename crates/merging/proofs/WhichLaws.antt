-- The offset, and which of two records goes first, as the code goes. Assumes nothing.
use Prim.Native.Nat.{ℕ, ◌+◌, ◌-◌, ◌%◌, ◌<◌, ◌≤◌}
use mathlib.Core.Path.{◌≡◌, refl, sym, ap, ap₂, ◌∙◌}
use mathlib.Core.Bool.{Bool, true, false, not, true≢false}
use mathlib.Core.Option.{Option, none, some}
use native.Mathlib.Omega.{arith}
use lib.Dec.{leb}
use lib.IntN.{ℤ, pos, negsuc}
use lib.Signed.{mag, lt_z}
use borrow.Author.Tests.{le-ltb, le-leb, lt-leb, not-true, not-false}
use Rattle.rules.specs.Merge.{day, half_day, mod_day, Log, log_a, log_b, log_if, choose, first, in_range}
use Rattle.rules.proofs.AnswerLaws.{none_some}
use Rattle.rules.proofs.DayLaws.{mod_less, gap_is}
use Rattle.merging.specs.declared.heads.Standing.{Standing}
use Rattle.merging.specs.declared.run.Side.{Side}
use Rattle.merging.specs.Heads.{is_head}
use Rattle.merging.specs.Run.{first_by, time_of, which_by, which_of}

-- ---- the offset, from what its bits are read as again, z, and its magnitude n

negative {ℓ} : {C : Type ℓ} (z : ℤ) (n : ℕ) → z ≡ pos n → lt_z z (pos 0) ≡ true → C
negative z n e t = absurd (true≢false (sym t ∙ ap (λ (y : ℤ). lt_z y (pos 0)) e ∙ le-ltb n 0 (omega arith)))

positive {ℓ} : {C : Type ℓ} (z : ℤ) (n : ℕ) → z ≡ negsuc n → lt_z z (pos 0) ≡ false → C
positive z n e t = absurd (true≢false (sym (ap (λ (y : ℤ). lt_z y (pos 0)) e) ∙ t))

pub range_neg : (x z : ℤ) (n : ℕ) → z ≡ x → lt_z z (pos 0) ≡ true → n ≡ mag x → leb n 46079 ≡ in_range x
range_neg (pos m) z n e t h = negative z m e t
range_neg (negsuc m) z n e t h = ap (λ k. leb k 46079) h

pub range_pos : (x z : ℤ) (n : ℕ) → z ≡ x → lt_z z (pos 0) ≡ false → n ≡ mag x → leb n 46080 ≡ in_range x
range_pos (pos m) z n e t h = ap (λ k. leb k 46080) h
range_pos (negsuc m) z n e t h = positive z m e t

pub turn_neg : (x z : ℤ) (n : ℕ) → z ≡ x → lt_z z (pos 0) ≡ true → n ≡ mag x → 11059199 - n % 11059200 ≡ mod_day x
unfolding mod_day
turn_neg (pos m) z n e t h = negative z m e t
turn_neg (negsuc m) z n e t h = ap (λ k. 11059199 - k % 11059200) h

pub turn_pos : (x z : ℤ) (n : ℕ) → z ≡ x → lt_z z (pos 0) ≡ false → n ≡ mag x → n % 11059200 ≡ mod_day x
unfolding mod_day
turn_pos (pos m) z n e t h = ap (λ k. k % 11059200) h
turn_pos (negsuc m) z n e t h = positive z m e t

-- ---- the rule, with the offset modulo a day

sum_mod : (w a b : ℕ) → w < day → (b + w + (day - a % day)) % day ≡ (b % day + w % day + (day - a % day)) % day
sum_mod w a b h = omega arith

pub first_is : (offset : ℤ) (s t : Option ℕ) → first offset s t ≡ first_by (mod_day offset) s t
unfolding first first_by
first_is offset none t = refl
first_is offset (some a) none = refl
first_is offset (some a) (some b) = ap (λ g. log_if (leb g half_day)) (gap_is offset a b ∙ sum_mod (mod_day offset) a b (mod_less offset))

-- ---- which record goes first

module _ (turn : ℕ) (a b : Side) where
  abbrev goes : Option Log
  goes = which_by turn a.there b.there (time_of a.head) (time_of b.head)

  as_there : (u v : Bool) → a.there ≡ u → b.there ≡ v → which_by turn u v (time_of a.head) (time_of b.head) ≡ goes
  as_there u v p q = sym (ap₂ (λ s t. which_by turn s t (time_of a.head) (time_of b.head)) p q)

  pub neither : not a.there ≡ true → not b.there ≡ true → none ≡ goes
  neither p q = as_there false false (not-true _ p) (not-true _ q)

  pub only_b : not a.there ≡ true → not b.there ≡ false → some log_b ≡ goes
  only_b p q = as_there false true (not-true _ p) (not-false _ q)

  module _ (p : not a.there ≡ false) where
    pub only_a : not b.there ≡ true → some log_a ≡ goes
    only_a q = as_there true false (not-false _ p) (not-true _ q)

    module _ (q : not b.there ≡ false) where
      pub untimed_a : not a.head.timed ≡ true → some log_a ≡ goes
      unfolding first_by
      untimed_a e = rw (not-false a.there p, not-false b.there q, not-true a.head.timed e)

      module _ (e : not a.head.timed ≡ false) where
        pub untimed_b : not b.head.timed ≡ true → some log_b ≡ goes
        unfolding first_by
        untimed_b f = rw (not-false a.there p, not-false b.there q, not-false a.head.timed e, not-true b.head.timed f)

        module _ (f : not b.head.timed ≡ false) where
          pub timed_near : (b.head.time % day + turn % day + (day - a.head.time % day)) % day ≤ half_day → some log_a ≡ goes
          unfolding first_by
          timed_near h = rw (not-false a.there p, not-false b.there q, not-false a.head.timed e, not-false b.head.timed f, le-leb _ _ h)

          pub timed_far : half_day < (b.head.time % day + turn % day + (day - a.head.time % day)) % day → some log_b ≡ goes
          unfolding first_by
          timed_far h = rw (not-false a.there p, not-false b.there q, not-false a.head.timed e, not-false b.head.timed f, lt-leb _ _ h)

module _ (turn m : ℕ) (a : Standing) (n : ℕ) (b : Standing) where
  pub which_by_lem : (x y : Bool) → is_head m a ≡ x → is_head n b ≡ y → which_by turn x y (time_of a) (time_of b) ≡ which_of turn m a n b
  unfolding which_of
  which_by_lem x y p q = sym (ap₂ (λ u v. which_by turn u v (time_of a) (time_of b)) p q)

  -- a log whose record goes first has one
  pub which_head : (l : Log) → which_of turn m a n b ≡ some l → choose l (is_head m a) (is_head n b) ≡ true
  which_head l h = by (is_head m a) (is_head n b) refl refl l h
    where
      by : (x y : Bool) → is_head m a ≡ x → is_head n b ≡ y → (l : Log) → which_of turn m a n b ≡ some l → choose l (is_head m a) (is_head n b) ≡ true
      by true y p q log_a h = p
      by x true p q log_b h = q
      by false y p q log_a h = none_a y (which_by_lem false y p q ∙ h)
        where
          none_a : (y : Bool) → which_by turn false y (time_of a) (time_of b) ≡ some log_a → is_head m a ≡ true
          none_a false e = none_some e
          none_a true e = let z : ◌≡◌ {A = ℕ} 0 1 = cc in absurd (omega arith)
      by false false p q log_b h = none_some (which_by_lem false false p q ∙ h)
      by true false p q log_b h = let e : some log_a ≡ some log_b = which_by_lem true false p q ∙ h in let z : ◌≡◌ {A = ℕ} 0 1 = cc in absurd (omega arith)
