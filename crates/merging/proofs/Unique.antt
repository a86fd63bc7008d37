-- No two distinct results satisfy the statement of a public function; of a part that is returned, no two that differ in place or bytes.
--
-- In order: a log; a refusal; a step; what is handed back; the functions. Assumes nothing.
use Prim.Native.Nat.{ℕ, ◌≤◌}
use mathlib.Core.Path.{◌≡◌, refl, sym, ap, ap₂, ◌∙◌}
use mathlib.Core.Bool.{Bool}
use mathlib.Core.List.{List}
use native.Mathlib.Omega.{arith}
use lib.IntN.{ℤ}
use denote.Ref.{Bor}
use Rattle.std.specs.Prelude.{Option, Some, None, Result, Ok, Err}
use Rattle.rules.specs.Catalogue.{categories}
use Rattle.rules.specs.Merge.{Log, log_a, log_b, Told, next, finished, not_accepted, barred, merge_step}
use Rattle.rules.proofs.ToldLaws.{one_fault}
use Rattle.rules.specs.Told.{number_of}
use Rattle.rules.specs.declared.faults.Refusal.{Refusal}
use Rattle.merging.specs.declared.heads.Standing.{Standing}
use Rattle.merging.specs.declared.run.Log as code
use Rattle.merging.specs.declared.run.Log.TheVariants as log
use Rattle.merging.specs.declared.run.Merge.{Merge}
use Rattle.merging.specs.declared.run.MergeRefusal.{MergeRefusal}
use Rattle.merging.specs.declared.run.MergeRefusal.TheVariants.{OfLog, Asked}
use Rattle.merging.specs.declared.run.Moved.{Moved}
use Rattle.merging.specs.declared.step.Merged.{Merged}
use Rattle.merging.specs.Heads.{is_head}
use Rattle.merging.specs.Run.{log_is, digit_of, told_of, moved_of, move_of, Begun, ready, stopped, begun_of, begin_of}
use Rattle.merging.specs.Step.{merged_of, PartOf}

-- ---- a log

abbrev log_in : Log → code.Log
log_in log_a = log.A
log_in log_b = log.B

log_back : (l : code.Log) → log_in (log_is l) ≡ l
log_back log.A = refl
log_back log.B = refl

log_inj : (k l : code.Log) → log_is k ≡ log_is l → k ≡ l
log_inj k l e = sym (log_back k) ∙ ap log_in e ∙ log_back l

-- ---- what is told

abbrev told_log : Told → Log
told_log (next l) = l
told_log finished = log_a
told_log (not_accepted l n p) = l
told_log (barred n) = log_a

abbrev told_number : Told → ℕ
told_number (next l) = 0
told_number finished = 1
told_number (not_accepted l n p) = n
told_number (barred n) = n

abbrev told_place : Told → ℕ
told_place (next l) = 0
told_place finished = 0
told_place (not_accepted l n p) = p
told_place (barred n) = 0

abbrev told_kind : Told → ℕ
told_kind (next l) = 0
told_kind finished = 1
told_kind (not_accepted l n p) = 2
told_kind (barred n) = 3

one_refusal : (r s : Refusal) → number_of r.fault ≡ number_of s.fault → r.place ≡ s.place → r ≡ s
one_refusal r s e p = ap₂ (λ f k. record { fault = f; place = k }) (one_fault r.fault s.fault e) p

told_inj : (r s : MergeRefusal) → told_of r ≡ told_of s → r ≡ s
told_inj (OfLog k r) (OfLog l s) e = ap₂ OfLog (log_inj k l (ap told_log e)) (one_refusal r s (ap told_number e) (ap told_place e))
told_inj (OfLog k r) (Asked g) e = absurd (omega (arith, ap told_kind e))
told_inj (Asked f) (OfLog l s) e = absurd (omega (arith, ap told_kind e))
told_inj (Asked f) (Asked g) e = ap Asked (one_fault f g (ap told_number e))

refused_kind : (r : MergeRefusal) → 2 ≤ told_kind (told_of r)
refused_kind (OfLog l r) = omega arith
refused_kind (Asked f) = omega arith

-- ---- a step

moved_inj : (m : Merge) (a b : Option Moved) → moved_of m a ≡ moved_of m b → a ≡ b
moved_inj m None None e = refl
moved_inj m None (Some y) e = absurd (omega (arith, ap (λ z. told_kind z.told) e))
moved_inj m (Some x) None e = absurd (omega (arith, ap (λ z. told_kind z.told) e))
moved_inj m (Some x) (Some y) e =
    ap Some
    (ap₂ (λ u v. record { log = u; at = v; size = x.size; merge = x.merge }) (log_inj x.log y.log (ap (λ z. told_log z.told) e)) (ap (λ z. z.at) e)
    ∙ ap₂ (λ u v. record { log = y.log; at = y.at; size = u; merge = v }) (ap (λ z. z.size) e) (ap (λ z. z.merge) e))

-- ---- a beginning

abbrev begun_merge : Merge → Begun → Merge
begun_merge n (ready m) = m
begun_merge n (stopped t) = n

abbrev begun_told : Begun → Told
begun_told (ready m) = finished
begun_told (stopped t) = t

begun_inj : (a b : Result Merge MergeRefusal) → begun_of a ≡ begun_of b → a ≡ b
begun_inj (Ok m) (Ok n) e = ap Ok (ap (begun_merge m) e)
begun_inj (Ok m) (Err s) e = absurd (omega (arith, ap (λ z. told_kind (begun_told z)) e, refused_kind s))
begun_inj (Err r) (Ok n) e = absurd (omega (arith, ap (λ z. told_kind (begun_told z)) e, refused_kind r))
begun_inj (Err r) (Err s) e = ap Err (told_inj r s (ap begun_told e))

-- ---- what is handed back

merged_inj : (p q : ℕ) (a b : Result (Option Merged) MergeRefusal) → merged_of p q a ≡ merged_of p q b → a ≡ b
merged_inj p q (Ok None) (Ok None) e = refl
merged_inj p q (Ok None) (Ok (Some y)) e = absurd (omega (arith, ap (λ z. told_kind z.told) e))
merged_inj p q (Ok (Some x)) (Ok None) e = absurd (omega (arith, ap (λ z. told_kind z.told) e))
merged_inj p q (Ok (Some x)) (Ok (Some y)) e =
    ap (λ z. Ok (Some z))
    (ap₂ (λ u v. record { log = u; start = v; size = x.size; place_a = x.place_a; place_b = x.place_b }) (log_inj x.log y.log (ap (λ z. told_log z.told) e)) (ap (λ z. z.span.0) e)
    ∙ ap₂ (λ u v. record { log = y.log; start = y.start; size = u; place_a = v; place_b = x.place_b }) (ap (λ z. z.span.1) e) (ap (λ z. z.place_a) e)
    ∙ ap (λ v. record { log = y.log; start = y.start; size = y.size; place_a = y.place_a; place_b = v }) (ap (λ z. z.place_b) e))
merged_inj p q (Ok None) (Err s) e = absurd (omega (arith, ap (λ z. told_kind z.told) e, refused_kind s))
merged_inj p q (Ok (Some x)) (Err s) e = absurd (omega (arith, ap (λ z. told_kind z.told) e, refused_kind s))
merged_inj p q (Err r) (Ok None) e = absurd (omega (arith, ap (λ z. told_kind z.told) e, refused_kind r))
merged_inj p q (Err r) (Ok (Some y)) e = absurd (omega (arith, ap (λ z. told_kind z.told) e, refused_kind r))
merged_inj p q (Err r) (Err s) e = ap Err (told_inj r s (ap (λ z. z.told) e))

-- ---- the functions

pub one_number : (self : code.Log) (a b : ℕ) → a ≡ digit_of self → b ≡ digit_of self → a ≡ b
one_number self a b p q = p ∙ sym q

pub one_is_head : (len : ℕ) (self : Standing) (a b : Bool) → a ≡ is_head len self → b ≡ is_head len self → a ≡ b
one_is_head len self a b p q = p ∙ sym q

pub one_step : (log_a log_b : List ℕ) (self : Merge) (a b : Option Moved) → moved_of self a ≡ move_of log_a log_b self → moved_of self b ≡ move_of log_a log_b self → a ≡ b
one_step _ _ self a b p q = moved_inj self a b (p ∙ sym q)

pub one_begin_merge : (log_a log_b : List ℕ) (offset : ℤ) (a b : Result Merge MergeRefusal) → begun_of a ≡ begin_of log_a log_b offset → begun_of b ≡ begin_of log_a log_b offset → a ≡ b
one_begin_merge _ _ offset a b p q = begun_inj a b (p ∙ sym q)

pub one_merge_at : (log_a log_b : List ℕ) (place_a place_b : ℕ) (offset : ℤ) (a b : Result (Option Merged) MergeRefusal)
    → merged_of place_a place_b a ≡ merge_step categories log_a log_b place_a place_b offset
    → merged_of place_a place_b b ≡ merge_step categories log_a log_b place_a place_b offset → a ≡ b
one_merge_at _ _ place_a place_b offset a b p q = merged_inj place_a place_b a b (p ∙ sym q)

pub one_merge_step : (log_a log_b : Bor (List ℕ)) (place_a place_b : ℕ) (offset : ℤ) (a b : Bor (List ℕ))
    → PartOf log_a log_b a (merge_step categories log_a.now log_b.now place_a place_b offset)
    → PartOf log_a log_b b (merge_step categories log_a.now log_b.now place_a place_b offset) → (a.ref_ptr ≡ b.ref_ptr) × (a.now ≡ b.now)
one_merge_step _ _ place_a place_b offset a b p q =
    (ap₂ (λ u v. (u, v)) (p.block ∙ sym q.block) (p.offset ∙ sym q.offset), p.bytes ∙ sym q.bytes)
