-- The run of two logs as the code steps through it: which record goes first, the state after it, and how a run begins. Assumes nothing.
use Rattle.std.specs.Prelude.{ℕ, zero, suc, ◌+◌, ◌-◌, ◌%◌, Bool, true, false, List, [], ◌∷◌, leb, length, ℤ, Option as Optional, Some, None, Result, Ok, Err}
use Rattle.std.proofs.Math.Option.{Option, none, some}
use Rattle.rules.specs.Answer.{Answer, ok, refused, when◌then◌else◌}
use Rattle.rules.specs.Catalogue.{categories}
use Rattle.rules.specs.Entry.{Counts, check_recording}
use Rattle.rules.specs.Merge.{day, half_day, mod_day, Log, log_a, log_b, log_if, choose, Span, Told, next, finished, not_accepted, barred, when_next, in_range}
use Rattle.rules.specs.Told.{number_of}
use Rattle.walking.specs.declared.Cursor.{Cursor}
use Rattle.walking.specs.Walk.{begin}
use Rattle.merging.specs.declared.heads.Standing.{Standing}
use Rattle.merging.specs.declared.run.Log as code
use Rattle.merging.specs.declared.run.Log.TheVariants as log
use Rattle.merging.specs.declared.run.Side.{Side}
use Rattle.merging.specs.declared.run.Merge.{Merge}
use Rattle.merging.specs.declared.run.Moved.{Moved}
use Rattle.merging.specs.declared.run.MergeRefusal.{MergeRefusal}
use Rattle.merging.specs.declared.run.MergeRefusal.TheVariants.{OfLog, Asked}
use Rattle.merging.specs.Heads.{is_head, behind_of, time_by, stand_of}

-- ---- the answers, in the rules' words

abbrev pub log_is : code.Log → Log
log_is log.A = log_a
log_is log.B = log_b

abbrev pub which_is : Optional code.Log → Option Log
which_is (Some l) = some (log_is l)
which_is None = none

abbrev pub told_of : MergeRefusal → Told
told_of (OfLog l r) = not_accepted (log_is l) (number_of r.fault) r.place
told_of (Asked f) = barred (number_of f)

-- 0 is log A, 1 is log B
abbrev pub digit : Log → ℕ
digit log_a = 0
digit log_b = 1

abbrev pub digit_of : code.Log → ℕ
digit_of log.A = 0
digit_of log.B = 1

-- ---- which record goes first: as `first`, with the offset modulo a day

unfoldable pub first_by : ℕ → Option ℕ → Option ℕ → Log
first_by turn none b = log_a
first_by turn (some a) none = log_b
first_by turn (some a) (some b) = log_if (leb ((b % day + turn % day + (day - a % day)) % day) half_day)

abbrev pub time_of : Standing → Option ℕ
time_of s = time_by s.timed s.time

-- the record of a log of so many octets, and whether it is one
abbrev pub side_of : ℕ → Standing → Side
side_of n s = record { head = s; there = is_head n s }

-- by whether each log has a record
abbrev pub which_by : ℕ → Bool → Bool → Option ℕ → Option ℕ → Option Log
which_by turn false false a b = none
which_by turn false true a b = some log_b
which_by turn true false a b = some log_a
which_by turn true true a b = some (first_by turn a b)

unfoldable pub which_of : ℕ → ℕ → Standing → ℕ → Standing → Option Log
which_of turn m a n b = which_by turn (is_head m a) (is_head n b) (time_of a) (time_of b)

-- ---- a step: what it says, what comes out, and the state after it

pub record Move : Type 0 where
  pub told : Told
  pub at : Cursor
  pub size : ℕ
  pub merge : Merge

abbrev pub ended : Merge → Move
ended m = record { told = finished; at = begin; size = 0; merge = m }

-- from a state
abbrev pub moved_of : Merge → Optional Moved → Move
moved_of m (Some x) = record { told = next (log_is x.log); at = x.at; size = x.size; merge = x.merge }
moved_of m None = ended m

-- with another record of one log
abbrev pub with_head : Log → Standing → Merge → Merge
with_head log_a s m = record { a = s; b = m.b; turn = m.turn }
with_head log_b s m = record { a = m.a; b = s; turn = m.turn }

abbrev pub moved_by : List ℕ → List ℕ → Merge → Option Log → Move
moved_by as' bs m none = ended m
moved_by as' bs m (some l) = record {
  told = next l;
  at = (choose l m.a m.b).at;
  size = (choose l m.a m.b).size;
  merge = with_head l (stand_of (choose l as' bs) (behind_of (choose l m.a m.b))) m;
}

unfoldable pub move_of : List ℕ → List ℕ → Merge → Move
move_of as' bs m = moved_by as' bs m (which_of m.turn (length as') m.a (length bs) m.b)

-- ---- the beginning: log A's own refusal, log B's own, 22

pub data Begun : Type 0 where
  ready : Merge → Begun
  stopped : Told → Begun

abbrev pub begun_of : Result Merge MergeRefusal → Begun
begun_of (Ok m) = ready m
begun_of (Err r) = stopped (told_of r)

abbrev pub begun_by : List ℕ → List ℕ → ℤ → Answer Counts → Answer Counts → Begun
begun_by as' bs offset (refused n p) b = stopped (not_accepted log_a n p)
begun_by as' bs offset (ok x) (refused n p) = stopped (not_accepted log_b n p)
begun_by as' bs offset (ok x) (ok y) =
    when in_range offset then ready (record { a = stand_of as' begin; b = stand_of bs begin; turn = mod_day offset }) else stopped (barred 22)

unfoldable pub begin_of : List ℕ → List ℕ → ℤ → Begun
begin_of as' bs offset = begun_by as' bs offset (check_recording categories as') (check_recording categories bs)

-- ---- so many steps: the parts that they hand out

unfoldable pub moves : ℕ → List ℕ → List ℕ → Merge → List (Log × Span)
moves zero as' bs m = []
moves (suc k) as' bs m = when_next (move_of as' bs m).told λ l. (l, ((move_of as' bs m).at.place, (move_of as' bs m).size)) ∷ moves k as' bs (move_of as' bs m).merge

abbrev pub moves_of : ℕ → List ℕ → List ℕ → Begun → List (Log × Span)
moves_of k as' bs (ready m) = moves k as' bs m
moves_of k as' bs (stopped t) = []
