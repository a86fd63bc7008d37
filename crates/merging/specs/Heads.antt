-- The record that comes next in a log that was checked, as the code finds it, and all that come from there on. Nothing is checked again: a record is
-- measured. Assumes nothing.
--
-- In order: where a walk stands; the record that it comes to; all that come; a search.
use Rattle.std.specs.Prelude.{ℕ, zero, suc, ◌+◌, ◌-◌, ◌≡◌, Bool, true, false, ◌&&◌, List, [], ◌∷◌, eqb, leb, ltb, length, Option as Optional, Some, None, is_some, unwrap_or}
use Rattle.std.proofs.Math.Option.{Option, none, some}
use Rattle.rules.specs.Answer.{Answer, ok, refused, when◌then◌else◌}
use Rattle.rules.specs.Merge.{Head}
use Rattle.measuring.specs.declared.record.Measured.{Measured}
use Rattle.measuring.specs.Measure.{measure_of}
use Rattle.walking.specs.declared.Cursor.{Cursor}
use Rattle.walking.specs.Walk.{part, block_at}
use Rattle.merging.specs.declared.heads.Standing.{Standing}

-- ---- where a walk stands

-- in a block of a log of so many octets, or at its end
unfoldable pub in_log : ℕ → Cursor → Bool
in_log n c = leb c.block c.place && (leb c.place c.end && leb c.end n)

-- at the log's end
abbrev pub end_cursor : ℕ → Cursor
end_cursor n = record { block = 0; place = n; end = n; category = 0 }

abbrev pub end_at : ℕ → Standing
end_at n = record { at = end_cursor n; size = 0; timed = false; time = 0 }

-- ---- the record that it comes to: the one at its place, or the first of the next block

abbrev pub found_in : ℕ → Answer Cursor → Cursor
found_in n (ok d) = d
found_in n (refused r p) = end_cursor n

unfoldable pub cursor_at : List ℕ → Cursor → Cursor
cursor_at bs c = found_in (length bs) (block_at bs c)

abbrev pub stood_by : ℕ → Cursor → Measured → Standing
stood_by n d m = when eqb m.size 0 then end_at n else record { at = d; size = m.size; timed = is_some m.time; time = unwrap_or m.time 0 }

unfoldable pub stood_at : List ℕ → Cursor → Standing
stood_at bs d = stood_by (length bs) d (measure_of d.category (part bs d.place d.end))

unfoldable pub stand_of : List ℕ → Cursor → Standing
stand_of bs c = when in_log (length bs) c then stood_at bs (cursor_at bs c) else end_at (length bs)

-- ---- all that come

-- a record of a log of so many octets, and not the log's end: it lies in its block, and that in the log
unfoldable pub is_head : ℕ → Standing → Bool
is_head n s =
    leb s.at.block s.at.place
    && (leb s.at.place s.at.end && (leb s.at.end n && (ltb 0 s.size && leb s.size (s.at.end - s.at.place))))

abbrev pub behind_of : Standing → Cursor
behind_of s = record { block = s.at.block; place = s.at.place + s.size; end = s.at.end; category = s.at.category }

abbrev pub time_by : Bool → ℕ → Option ℕ
time_by true t = some t
time_by false t = none

abbrev pub head_of : Standing → Head
head_of s = record { place = s.at.place; size = s.size; time = time_by s.timed s.time }

unfoldable pub heads_up_to : ℕ → List ℕ → Cursor → List Head
heads_up_to zero bs c = []
heads_up_to (suc f) bs c = when is_head (length bs) (stand_of bs c) then head_of (stand_of bs c) ∷ heads_up_to f bs (behind_of (stand_of bs c)) else []

-- a record takes an octet at least
unfoldable pub heads_left : List ℕ → Cursor → List Head
heads_left bs c = heads_up_to (suc (length bs - c.place)) bs c

-- its own record and those after it
unfoldable pub left_of : List ℕ → Standing → List Head
left_of bs s = when is_head (length bs) s then head_of s ∷ heads_left bs (behind_of s) else []

pub record Stands (bs : List ℕ) (s : Standing) (hs : List Head) : Type 0 where
  pub is : left_of bs s ≡ hs
  pub ended : is_head (length bs) s ≡ false → s.at.place ≡ length bs

-- what a search for a place finds
unfoldable pub Found : List ℕ → Optional Standing → Option (List Head) → Type 0
Found bs (Some s) (some hs) = Stands bs s hs
Found bs (Some s) none = ⊥
Found bs None (some hs) = ⊥
Found bs None none = Unit {0}
