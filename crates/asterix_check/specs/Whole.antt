-- The whole blocks at the front of octets, as their LEN says: how many octets they take. Assumes nothing.
use Rattle.std.specs.Prelude.{ℕ, zero, suc, ◌+◌, List, leb, length, drop}
use Rattle.rules.specs.Answer.{when◌then◌else◌}
use Rattle.recordings.specs.Feed.{block_length}

-- each takes three octets at least, so there are no more of them than octets
unfoldable pub whole_up_to : ℕ → List ℕ → ℕ
whole_up_to zero bs = 0
whole_up_to (suc f) bs = when leb (block_length bs) (length bs) then block_length bs + whole_up_to f (drop (block_length bs) bs) else 0

unfoldable pub whole_in : List ℕ → ℕ
whole_in bs = whole_up_to (length bs) bs
