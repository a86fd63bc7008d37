-- So many steps of the run at once: six numbers of each record that comes out, and the state after them. Assumes nothing.
use Rattle.std.specs.Prelude.{ℕ, zero, suc, List, [], ◌∷◌, ◌++◌, ltb}
use Rattle.rules.specs.Answer.{when◌then◌else◌}
use Rattle.rules.specs.Merge.{Told, next, finished, not_accepted, barred}
use Rattle.walking.specs.declared.Cursor.{Cursor}
use Rattle.merging.specs.declared.run.Merge.{Merge}
use Rattle.merging.specs.declared.many.Ran.{Ran}
use Rattle.merging.specs.Run.{digit, move_of}

-- ---- a record

-- 0 is log A's, 1 is log B's, 2 is none
abbrev pub log_number : Told → ℕ
log_number (next l) = digit l
log_number finished = 2
log_number (not_accepted l n p) = 2
log_number (barred n) = 2

-- its log, its octets, and the walk at it
abbrev pub numbers_of : ℕ → ℕ → Cursor → List ℕ
numbers_of l n c = l ∷ n ∷ c.block ∷ c.place ∷ c.end ∷ c.category ∷ []

-- ---- at most so many

pub record Many : Type 0 where
  pub numbers : List ℕ
  pub count : ℕ
  pub merge : Merge

abbrev pub nothing : Merge → Many
nothing m = record { numbers = []; count = 0; merge = m }

abbrev pub and_then : List ℕ → Many → Many
and_then ns r = record { numbers = ns ++ r.numbers; count = suc r.count; merge = r.merge }

unfoldable pub many_of : ℕ → List ℕ → List ℕ → Merge → Many
many_of zero as' bs m = nothing m
many_of (suc k) as' bs m =
    when ltb (log_number (move_of as' bs m).told) 2
    then and_then (numbers_of (log_number (move_of as' bs m).told) (move_of as' bs m).size (move_of as' bs m).at) (many_of k as' bs (move_of as' bs m).merge)
    else nothing m

abbrev pub ran_of : Many → Ran
ran_of r = record { count = r.count; merge = r.merge }
