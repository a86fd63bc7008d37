-- A number that no arm of a match has. Assumes nothing.
use Prim.Native.Nat.{ℕ}
use mathlib.Core.Path.{◌≡◌, ◌∙◌}
use mathlib.Core.Logic.{⊎_elim}
use mathlib.Core.Bool.{true, false, false≢true}
use mathlib.Core.List.{List, [], ◌∷◌}
use lib.Dec.{eqb}
use borrow.Author.Tests.{eqb-true, ne_eqb}
use Rattle.rules.specs.Presence.{has}
use Rattle.rules.proofs.AnswerLaws.{or_cases}

-- it is none of the arms', the last arm's first
abbrev pub NoneOf : ℕ → List ℕ → Type 0
NoneOf t [] = Unit {0}
NoneOf t (k ∷ ks) = NoneOf t ks × (t ≡ k → ⊥)

pub none_of : (t k : ℕ) (ks : List ℕ) → NoneOf t ks → has k ks ≡ true → eqb t k ≡ false
none_of t k [] n h = absurd (false≢true h)
none_of t k (j ∷ ks) n h =
    ⊎_elim
    (λ e. ne_eqb t k (λ (p : t ≡ k). n.1 (p ∙ eqb-true k j e)))
    (λ e. none_of t k ks n.0 e)
    (or_cases (eqb k j) (has k ks) h)
