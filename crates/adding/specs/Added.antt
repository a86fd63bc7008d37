-- What the answer of adding says, case by case: the block's new length, or a refusal's number and place (document 01, "Refusal numbers and their order"); and
-- whether that place lies in the new items, or else in the old block. Beside it, what the rules add, said so. Assumes nothing.
use Rattle.std.specs.Prelude.{ℕ, ◌+◌, ◌/◌, ◌%◌, Bool, true, false, List, length, set, Result, Ok, Err}
use Rattle.std.proofs.Math.Seq.{paste}
use Rattle.rules.specs.Answer.{Answer, ok, refused}
use Rattle.rules.specs.Entry.{Added, added, refused_old, refused_new}
use Rattle.rules.specs.Told.{refusal_of}
use Rattle.adding.specs.declared.add.AddRefusal.{AddRefusal}
use Rattle.adding.specs.declared.add.AddRefusal.TheVariants.{Old, New}

-- what an answer says; true where the place lies in the new items
abbrev pub added_of : Result ℕ AddRefusal → Answer ℕ × Bool
added_of (Ok n) = (ok n, false)
added_of (Err (Old r)) = (refusal_of r, false)
added_of (Err (New r)) = (refusal_of r, true)

-- what the rules answer, said so
abbrev pub added_as : Added → Answer ℕ × Bool
added_as (added bs) = (ok (length bs), false)
added_as (refused_old n p) = (refused n p, false)
added_as (refused_new n p) = (refused n p, true)

-- ---- as the code follows the rules

-- an output with LEN renewed, then the FSPEC and the items laid after the octets in use
abbrev pub laid : List ℕ → ℕ → ℕ → List ℕ → List ℕ → List ℕ
laid out used len fspec items =
    paste (paste (set (set out 1 (len / 256)) 2 (len % 256)) used fspec (length fspec)) (used + length fspec) items (length items)
