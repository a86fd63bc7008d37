-- One turn of the program: what the octets at the front of the buffer make of what is known so far. Which octets come, no contract can say; where a read
-- fails there is no turn. Assumes nothing.
use Rattle.std.specs.Prelude.{ℕ, ◌≤◌, Bool, true, false, List, take, Result}
use Rattle.std.specs.declared.ops.ControlFlow.{ControlFlow}
use Rattle.std.specs.declared.ops.ControlFlow.TheVariants.{Continue, Break}
use Rattle.rules.specs.Answer.{Answer, ok, refused, when◌then◌else◌}
use Rattle.rules.specs.Entry.{Counts}
use Rattle.recordings.specs.Feed.{SoFar, fed, finished}
use Rattle.recordings.specs.Answers.{whole_of, kept_state_of}
use Rattle.recordings.specs.declared.Counts as code
use Rattle.recordings.specs.declared.Refused.{Refused}
use Rattle.input.specs.declared.Filled.{Filled}
use Rattle.input.specs.declared.Filled.TheVariants as filled
use Rattle.asterix_check.specs.Whole.{whole_in}
use Rattle.asterix_check.specs.declared.Pending.{Pending}

abbrev pub is_refused : {A : Type 0} → Answer A → Bool
is_refused (ok a) = false
is_refused (refused n p) = true

-- what is known so far, and the octets of the buffer still wanted, from a place to before another; or the verdict
pub data Turned : Type 0 where
  on : Answer SoFar → ℕ → ℕ → Turned
  verdict : Answer Counts → Turned

abbrev pub turn_of : ControlFlow (Result code.Counts Refused) Pending → Turned
turn_of (Continue p) = on (kept_state_of p.state) p.from p.to
turn_of (Break c) = verdict (whole_of c)

-- n octets came, of which the whole blocks at the front take k: they are fed, and the first fault found ends the work
unfoldable pub fed_whole : Answer SoFar → ℕ → ℕ → Turned
fed_whole s k n = when is_refused s then verdict (finished s) else on s k n

-- at the input's end what is left over is fed
unfoldable pub turned : Answer SoFar → Filled → List ℕ → Turned
turned s (filled.More n) bs = fed_whole (fed s (take (whole_in (take n bs)) bs)) (whole_in (take n bs)) n
turned s (filled.End n) bs = verdict (finished (fed s (take n bs)))

-- what came is in a buffer of so many octets
abbrev pub Came : Filled → ℕ → Type 0
Came (filled.More n) size = n ≤ size
Came (filled.End n) size = n ≤ size

-- and so is what is still wanted
abbrev pub Wanted : ControlFlow (Result code.Counts Refused) Pending → ℕ → Type 0
Wanted (Continue p) size = (p.from ≤ p.to) × (p.to ≤ size)
Wanted (Break c) size = Unit {0}
