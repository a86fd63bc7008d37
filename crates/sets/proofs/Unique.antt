-- For each function that another crate can call, no two distinct results meet its statement.
--
-- In order: answers that are numbers or tests; a set; its FRNs; an FSPEC; a judgement. Assumes nothing.
use Prim.Native.Nat.{ℕ, ◌-◌, ◌^◌, ◌<◌, ◌≤◌, min}
use mathlib.Core.Path.{◌≡◌, refl, sym, ap, ap₂, ◌∙◌}
use mathlib.Core.Bool.{Bool, true, false}
use mathlib.Core.List.{List}
use native.Mathlib.Omega.{arith}
use lib.ListN.{length, get_or, set, replicate}
use Rattle.std.specs.Prelude.{Option, Some, None, Result}
use Rattle.std.specs.Iterator.{YieldsFirst}
use Rattle.rules.specs.Presence.{flags}
use Rattle.rules.specs.declared.faults.Fault.{Fault}
use Rattle.rules.proofs.ToldLaws.{one_begun_as}
use Rattle.sets.specs.declared.ItemSet.{ItemSet}
use Rattle.sets.specs.declared.Fspec.{Fspec}
use Rattle.sets.specs.declared.Frns.{Frns}
use Rattle.sets.specs.Sets.{within, frns_of, set_at, fspec_at}
use Rattle.sets.specs.Steps.{usable_bits, type_frn, judge_set, rows_left}
use Rattle.sets.specs.Answers.{set_of, judged_of}
use Rattle.sets.proofs.FlagLaws.{flags_same, frns_same}

-- ---- numbers and tests

pub one_has : (self : ItemSet) (frn : ℕ) (a b : Bool)
    → a ≡ get_or (flags 64 self.bits) frn false → b ≡ get_or (flags 64 self.bits) frn false → a ≡ b
one_has self frn a b p q = p ∙ sym q

pub one_is_within : (self other : ItemSet) (a b : Bool)
    → a ≡ within (flags 64 self.bits) (flags 64 other.bits) → b ≡ within (flags 64 self.bits) (flags 64 other.bits) → a ≡ b
one_is_within self other a b p q = p ∙ sym q

pub one_weight : (frn a b : ℕ) → a ≡ 2 ^ (63 - frn) → b ≡ 2 ^ (63 - frn) → a ≡ b
one_weight frn a b p q = p ∙ sym q

pub one_octets_of : (bits a b : ℕ) → (a ≡ rows_left 9 0 bits) × (a ≤ 9) → (b ≡ rows_left 9 0 bits) × (b ≤ 9) → a ≡ b
one_octets_of bits a b p q = p.0 ∙ sym q.0

pub one_fspec_octets : (profile : ℕ) (set : ItemSet) (a b : ℕ)
    → a ≡ length (fspec_at profile set.bits) → b ≡ length (fspec_at profile set.bits) → a ≡ b
one_fspec_octets profile set a b p q = p ∙ sym q

pub one_fspec_octet : (profile : ℕ) (set : ItemSet) (place a b : ℕ)
    → a ≡ get_or (fspec_at profile set.bits) place 0 → b ≡ get_or (fspec_at profile set.bits) place 0 → a ≡ b
one_fspec_octet profile set place a b p q = p ∙ sym q

pub one_type_frn : (profile a b : ℕ) → a ≡ type_frn profile → b ≡ type_frn profile → a ≡ b
one_type_frn profile a b p q = p ∙ sym q

-- ---- a set, which has 64 bits

same_set_lem : (a b : ItemSet) → a.bits ≡ b.bits → a ≡ b
same_set_lem a b e = ap (λ n. record { bits = n }) e

pub one_usable : (profile : ℕ) (a b : ItemSet) → a.bits ≡ usable_bits profile → b.bits ≡ usable_bits profile → a ≡ b
one_usable profile a b p q = same_set_lem a b (p ∙ sym q)

pub one_empty : (a b : ItemSet)
    → a.bits < 2 ^ 64 → b.bits < 2 ^ 64 → flags 64 a.bits ≡ replicate 64 false → flags 64 b.bits ≡ replicate 64 false → a ≡ b
one_empty a b f g p q = same_set_lem a b (flags_same 64 a.bits b.bits f g (p ∙ sym q))

pub one_with : (self : ItemSet) (frn : ℕ) (a b : ItemSet)
    → a.bits < 2 ^ 64 → b.bits < 2 ^ 64 → flags 64 a.bits ≡ set (flags 64 self.bits) (min frn 63) true
    → flags 64 b.bits ≡ set (flags 64 self.bits) (min frn 63) true → a ≡ b
one_with self frn a b f g p q = same_set_lem a b (flags_same 64 a.bits b.bits f g (p ∙ sym q))

-- ---- the FRNs of a set

pub one_frns : (self : ItemSet) (a b : Frns) → a.left ≡ self → b.left ≡ self → a ≡ b
one_frns self a b p q = ap (λ s. record { left = s }) (p ∙ sym q)

same_frns : (a b : Frns) → a.left.bits < 2 ^ 64 → b.left.bits < 2 ^ 64 → frns_of a.left.bits ≡ frns_of b.left.bits → a ≡ b
same_frns a b f g e = ap (λ s. record { left = s }) (same_set_lem a.left b.left (frns_same a.left.bits b.left.bits f g e))

pub one_next : (self : Frns) (a b : Option ℕ) (left right : Frns)
    → left.left.bits < 2 ^ 64 → right.left.bits < 2 ^ 64 → YieldsFirst (λ s. frns_of s.left.bits) self a left
    → YieldsFirst (λ s. frns_of s.left.bits) self b right → (a ≡ b) × (left ≡ right)
one_next self None None s t f g p q = (refl, same_frns s t f g (p.1 ∙ sym q.1))
one_next self None (Some y) s t f g p q = let z : ◌≡◌ {A = ℕ} 0 1 = cc in absurd (omega arith)
one_next self (Some x) None s t f g p q = let z : ◌≡◌ {A = ℕ} 0 1 = cc in absurd (omega arith)
one_next self (Some x) (Some y) s t f g p q = let e : x ≡ y = cc in let h : frns_of s.left.bits ≡ frns_of t.left.bits = cc in (ap Some e, same_frns s t f g h)

-- ---- an FSPEC

same_fspec : (s t : Fspec) → ◌≡◌ {A = ℕ × ℕ} (s.set.bits, s.octets) (t.set.bits, t.octets) → s ≡ t
same_fspec s t e = ap₂ (λ m n. record { set = m; octets = n }) (same_set_lem s.set t.set (ap (λ x. x.0) e)) (ap (λ x. x.1) e)

pub one_from_octets : (profile : ℕ) (part : List ℕ) (a b : Result Fspec Fault) → set_of a ≡ set_at profile part → set_of b ≡ set_at profile part → a ≡ b
one_from_octets profile part a b p q = one_begun_as _ same_fspec a b (p ∙ sym q)

-- ---- a judgement

pub one_judge : (profile : ℕ) (items : ItemSet) (kind : ℕ) (a b : Result (Unit {0}) Fault)
    → judged_of a ≡ judge_set profile items.bits kind → judged_of b ≡ judge_set profile items.bits kind → a ≡ b
one_judge profile items kind a b p q = one_begun_as _ (λ x y e. e) a b (p ∙ sym q)
