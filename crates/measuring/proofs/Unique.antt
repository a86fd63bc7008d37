-- For each function that another crate can call, no two distinct results meet its statement. Assumes nothing.
use Prim.Native.Nat.{ℕ}
use mathlib.Core.Path.{◌≡◌, sym, ◌∙◌}
use mathlib.Core.List.{List}
use Rattle.measuring.specs.declared.record.Measured.{Measured}
use Rattle.measuring.specs.Measure.{measure_of}

pub one_measure : (category : ℕ) (part : List ℕ) (a b : Measured) → a ≡ measure_of category part → b ≡ measure_of category part → a ≡ b
one_measure category part a b p q = p ∙ sym q
