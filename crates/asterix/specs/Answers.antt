-- The struct that an answer of the rules makes, for C and Rust: `number` is 0 where the work was done, and else the refusal's; `place` is the refusal's, 0 where
-- there is none; every other member is 0 on refusal, but for a walk's `next` and a step's places. `proofs/NumberLaws` has that no refusal's number is 0. Assumes nothing.
--
-- In order: checking; finding; walking a log; two logs on one line; one item; adding a record.
use Rattle.std.specs.Prelude.{ℕ, ◌-◌, not, List, eqb, ℤ, length, replicate}
use Rattle.rules.specs.Answer.{Answer, ok, refused, when◌then◌else◌}
use Rattle.rules.specs.Entry.{map_places, Counts, RecordMap, Laid, Added, added, refused_old, refused_new}
use Rattle.walking.specs.declared.Cursor.{Cursor}
use Rattle.walking.specs.Met.{Met, Walked}
use Rattle.walking.specs.Met as met
use Rattle.rules.specs.Merge.{Step, Told, next, finished, not_accepted, barred}
use Rattle.merging.specs.declared.heads.Standing.{Standing}
use Rattle.merging.specs.declared.run.Merge as code-merge
use Rattle.merging.specs.Run.{Begun, ready, stopped, digit}
use Rattle.merging.specs.Many.{Many}
use Rattle.asterix.specs.declared.RecordMet.{RecordMet}
use Rattle.asterix.specs.declared.MergeStepped.{MergeStepped}
use Rattle.asterix.specs.declared.MergeHead.{MergeHead}
use Rattle.asterix.specs.declared.Merge.{Merge}
use Rattle.asterix.specs.declared.MergeBegun.{MergeBegun}
use Rattle.asterix.specs.declared.MergeNext.{MergeNext}
use Rattle.asterix.specs.declared.BlockChecked.{BlockChecked}
use Rattle.asterix.specs.declared.RecordingChecked.{RecordingChecked}
use Rattle.asterix.specs.declared.RecordFound.{RecordFound}
use Rattle.asterix.specs.declared.ItemFound.{ItemFound}
use Rattle.asterix.specs.declared.ItemRead.{ItemRead}
use Rattle.asterix.specs.declared.ItemWritten.{ItemWritten}
use Rattle.asterix.specs.declared.RecordAdded.{RecordAdded}

-- ---- checking

unfoldable pub block_checked : Answer ℕ → BlockChecked
block_checked (ok n) = record { number = 0; place = 0; records = n }
block_checked (refused n p) = record { number = n; place = p; records = 0 }

unfoldable pub recording_checked : Answer Counts → RecordingChecked
recording_checked (ok c) = record { number = 0; place = 0; blocks = c.blocks; records = c.records }
recording_checked (refused n p) = record { number = n; place = p; blocks = 0; records = 0 }

-- ---- finding

-- on refusal every place of the map is absent
unfoldable pub record_found : Answer RecordMap → RecordFound
record_found (ok m) =
    record { number = 0; place = 0; start = m.start; length = m.end - m.start; end = m.end; count = m.count; starts = m.starts }
record_found (refused n p) = record { number = n; place = p; start = 0; length = 0; end = 0; count = 0; starts = replicate map_places 0 }

unfoldable pub item_found : Answer Laid → ItemFound
item_found (ok l) = record { number = 0; place = 0; start = l.start; length = l.size }
item_found (refused n p) = record { number = n; place = p; start = 0; length = 0 }

-- ---- walking a log

-- without a record all is 0 but a refusal's number and place, and `next`, where the walk goes on
abbrev pub unmet_by : ℕ → ℕ → Cursor → RecordMet
unmet_by n p c = record {
  number = n;
  met = 0;
  category = 0;
  place = p;
  start = 0;
  length = 0;
  block = 0;
  end = 0;
  count = 0;
  starts = replicate map_places 0;
  next = c;
}

-- `met` is 1 where a record was met
abbrev pub met_by : Met → Walked → RecordMet
met_by (met.Record k s l) w = record {
  number = 0;
  met = 1;
  category = k;
  place = 0;
  start = s;
  length = l;
  block = w.next.block;
  end = w.map.end;
  count = w.map.count;
  starts = w.map.starts;
  next = w.next;
}
met_by met.Finished w = unmet_by 0 0 w.next
met_by (met.Refused n p) w = unmet_by n p w.next

unfoldable pub record_met : Walked → RecordMet
record_met w = met_by w.met w

-- ---- two logs on one line

-- without a record all is 0 but a refusal's number, place and log, and the places
abbrev pub unmerged_by : ℕ → ℕ → ℕ → ℕ → ℕ → MergeStepped
unmerged_by n l p a b = record { number = n; met = 0; log = l; place = p; start = 0; length = 0; place_a = a; place_b = b }

-- `met` is 1 where a record comes next; `log` is the record's, or that of a refusal of its own: 0 is log A, 1 is log B
abbrev pub stepped_by : Told → Step → MergeStepped
stepped_by (next l) s = record {
  number = 0;
  met = 1;
  log = digit l;
  place = 0;
  start = s.span.0;
  length = s.span.1;
  place_a = s.place_a;
  place_b = s.place_b;
}
stepped_by finished s = unmerged_by 0 0 0 s.place_a s.place_b
stepped_by (not_accepted l n p) s = unmerged_by n (digit l) p s.place_a s.place_b
stepped_by (barred n) s = unmerged_by n 0 0 s.place_a s.place_b

unfoldable pub merge_stepped : Step → MergeStepped
merge_stepped s = stepped_by s.told s

-- a run of C as the code has it, and back
abbrev pub head_out : Standing → MergeHead
head_out s = record { at = s.at; length = s.size; timed = (when s.timed then 1 else 0); time = s.time }

abbrev pub head_in : MergeHead → Standing
head_in h = record { at = h.at; size = h.length; timed = not (eqb h.timed 0); time = h.time }

abbrev pub merge_out : code-merge.Merge → Merge
merge_out m = record { a = head_out m.a; b = head_out m.b; turn = m.turn }

abbrev pub merge_in : Merge → code-merge.Merge
merge_in m = record { a = head_in m.a; b = head_in m.b; turn = m.turn }

-- on refusal all of it is 0
abbrev pub no_head : MergeHead
no_head = record { at = record { block = 0; place = 0; end = 0; category = 0 }; length = 0; timed = 0; time = 0 }

abbrev pub none_begun : ℕ → ℕ → ℕ → MergeBegun
none_begun n l p = record { number = n; log = l; place = p; merge = record { a = no_head; b = no_head; turn = 0 } }

-- a run begins, or is refused for what a log is or for what is asked
abbrev pub stopped_by : Told → MergeBegun
stopped_by (next l) = none_begun 0 0 0
stopped_by finished = none_begun 0 0 0
stopped_by (not_accepted l n p) = none_begun n (digit l) p
stopped_by (barred n) = none_begun n 0 0

unfoldable pub merge_begun : Begun → MergeBegun
merge_begun (ready m) = record { number = 0; log = 0; place = 0; merge = merge_out m }
merge_begun (stopped t) = stopped_by t

unfoldable pub merge_next : Many → MergeNext
merge_next r = record { count = r.count; merge = merge_out r.merge }

-- ---- one item

-- how many fields it has
unfoldable pub item_read : Answer (List ℤ) → ItemRead
item_read (ok fs) = record { number = 0; place = 0; count = length fs }
item_read (refused n p) = record { number = n; place = p; count = 0 }

-- how many octets it has
unfoldable pub item_written : Answer (List ℕ) → ItemWritten
item_written (ok bs) = record { number = 0; place = 0; length = length bs }
item_written (refused n p) = record { number = n; place = p; length = 0 }

-- ---- adding a record

-- the block's new length; `in_new` is 1 where the place of a refusal lies in the new items
unfoldable pub record_added : Added → RecordAdded
record_added (added bs) = record { number = 0; in_new = 0; place = 0; length = length bs }
record_added (refused_old n p) = record { number = n; in_new = 0; place = p; length = 0 }
record_added (refused_new n p) = record { number = n; in_new = 1; place = p; length = 0 }
