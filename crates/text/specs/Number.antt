-- Decimal numbers as text, with no zero in front. Assumes nothing.
use Rattle.std.specs.Prelude.{ℕ, zero, suc, ◌+◌, ◌/◌, ◌%◌, cond, List, [], ◌∷◌, ◌++◌, ltb}

-- with at most so many digits
unfoldable pub decimal_from : ℕ → ℕ → List ℕ
decimal_from zero n = []
decimal_from (suc f) n = cond (ltb n 10) ((48 + n) ∷ []) (decimal_from f (n / 10) ++ ((48 + n % 10) ∷ []))

unfoldable pub decimal_text : ℕ → List ℕ
decimal_text n = decimal_from (suc n) n
