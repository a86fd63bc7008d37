-- For each function that another crate can call, no two distinct results meet its statement. Assumes nothing.
use Prim.Native.Nat.{ℕ}
use mathlib.Core.Path.{◌≡◌, sym, ap₂, ◌∙◌}
use Rattle.rules.specs.declared.faults.Fault.{Fault}
use Rattle.rules.specs.declared.faults.Refusal.{Refusal}
use Rattle.rules.specs.Told.{number_of, moved}

pub one_number : (self : Fault) (a b : ℕ) → a ≡ number_of self → b ≡ number_of self → a ≡ b
one_number self a b p q = p ∙ sym q

pub one_at : (self : Fault) (place : ℕ) (a b : Refusal)
    → a.fault ≡ self → a.place ≡ place → b.fault ≡ self → b.place ≡ place → a ≡ b
one_at self place a b p q s t = ap₂ (λ f k. record { fault = f; place = k }) (p ∙ sym s) (q ∙ sym t)

pub one_later : (self : Refusal) (by : ℕ) (a b : Refusal) → a ≡ moved by self → b ≡ moved by self → a ≡ b
one_later self by a b p q = p ∙ sym q

pub one_from : (fault : Fault) (a b : Refusal) → (a.fault ≡ fault) × (a.place ≡ 0) → (b.fault ≡ fault) × (b.place ≡ 0) → a ≡ b
one_from fault a b p q = one_at fault 0 a b p.0 p.1 q.0 q.1
