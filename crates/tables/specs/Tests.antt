-- What one computed test asks of a whole table, and of a list of flags. Assumes nothing.
use Rattle.std.specs.Prelude.{ℕ, zero, suc, Bool, true, false, ◌&&◌, List, [], ◌∷◌}

-- a test of every number below another
abbrev pub all_below : ℕ → (ℕ → Bool) → Bool
all_below zero p = true
all_below (suc n) p = p n && all_below n p

-- every flag that is set in the first list is set in the second
abbrev pub within : List Bool → List Bool → Bool
within [] us = true
within (false ∷ ts) [] = within ts []
within (true ∷ ts) [] = false
within (false ∷ ts) (u ∷ us) = within ts us
within (true ∷ ts) (u ∷ us) = u && within ts us
