-- No two distinct results meet the statement of `least_length`. Assumes nothing.
use Prim.Native.Nat.{ℕ}
use mathlib.Core.Path.{◌≡◌, sym, ◌∙◌}
use Rattle.rules.specs.Catalogue.{categories}
use Rattle.rules.specs.Entry.{least_length}

pub one_least_length : (profile place octet a b : ℕ) → a ≡ least_length categories profile place octet → b ≡ least_length categories profile place octet → a ≡ b
one_least_length profile place octet a b p q = p ∙ sym q
