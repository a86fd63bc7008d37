-- Where a list of places has the item with a reference. Assumes nothing.
use Rattle.std.specs.Prelude.{ℕ, ◌+◌, Bool, false, List, [], ◌∷◌, eqb}
use Rattle.std.proofs.Math.Option.{Option, none, some}
use Rattle.rules.specs.Answer.{when◌then◌else◌}
use Rattle.rules.specs.Record.{Place}

-- whether the item at a place has a reference
abbrev pub is_named : ℕ → Option Place → Bool
is_named ref none = false
is_named ref (some p) = eqb ref p.reference

-- the FRN of the item with a reference, the first place having the number given
unfoldable pub frn_as : ℕ → ℕ → List (Option Place) → Option ℕ
frn_as ref f [] = none
frn_as ref f (p ∷ ps) = when is_named ref p then some f else frn_as ref (f + 1) ps
