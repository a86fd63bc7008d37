-- What each answer of this crate says, in the rules' words: a refusal's number and place (document 01, "Refusal numbers and their order"), or what
-- was found. Assumes nothing.
use Rattle.std.specs.Prelude.{Result, Ok, Err}
use Rattle.rules.specs.Answer.{Answer, ok, refused}
use Rattle.rules.specs.Entry.{Counts}
use Rattle.rules.specs.Told.{told_as}
use Rattle.rules.specs.declared.faults.Refusal.{Refusal}
use Rattle.recordings.specs.declared.Counts as code
use Rattle.recordings.specs.declared.Refused.{Refused}
use Rattle.recordings.specs.declared.SoFar as codeSoFar
use Rattle.recordings.specs.declared.RecordingState.{RecordingState}
use Rattle.recordings.specs.declared.kept.KeptState.{KeptState}
use Rattle.recordings.specs.Feed.{SoFar}

abbrev pub counts_said : code.Counts → Counts
counts_said k = record { blocks = k.blocks; records = k.records }

abbrev pub counts_of : Result code.Counts Refusal → Answer Counts
counts_of r = told_as counts_said r

abbrev pub so_far_said : codeSoFar.SoFar → SoFar
so_far_said a = record { place = a.place; blocks = a.counts.blocks; records = a.counts.records }

abbrev pub so_far_of : Result codeSoFar.SoFar Refusal → Answer SoFar
so_far_of r = told_as so_far_said r

abbrev pub state_of : RecordingState → Answer SoFar
state_of s = so_far_of s.so_far

-- ---- the same of a recording whose state is kept: a refusal by its number

abbrev pub kept_as : {A B : Type 0} → (A → B) → Result A Refused → Answer B
kept_as f (Ok a) = ok (f a)
kept_as f (Err r) = refused r.number r.place

abbrev pub whole_of : Result code.Counts Refused → Answer Counts
whole_of r = kept_as counts_said r

abbrev pub kept_so_far_of : Result codeSoFar.SoFar Refused → Answer SoFar
kept_so_far_of r = kept_as so_far_said r

abbrev pub kept_state_of : KeptState → Answer SoFar
kept_state_of s = kept_so_far_of s.so_far
