-- The rules of a record as the code follows them: item by item, with what was found so far handed on, and places counted on.
-- `proofs/RowLaws`, `RecordLaws` and `NewLaws` have that these are the rules' own. Assumes nothing.
use Rattle.std.specs.Prelude.{ℕ, ◌+◌, ◌-◌, ◌%◌, Bool, true, false, List, [], ◌∷◌, ltb, eqb, length, take, drop, get_or, set, replicate}
use Rattle.rules.specs.Answer.{Answer, ok, ◌>>=◌, need◌or◌then◌, when◌then◌else◌, later}
use Rattle.rules.specs.Presence.{flags}
use Rattle.rules.specs.Entry.{map_places, RecordMap}
use Rattle.items.specs.Answers.{check_at}
use Rattle.sets.specs.Sets.{within, set_at}
use Rattle.sets.specs.Steps.{usable_bits, type_frn, judge_set, rows_left}

-- ---- the items

-- how far a walk has come: where it stands, how many items it passed, their starts by FRN, and the first octet of the message type item
pub record Came : Type 0 where
  pub here : ℕ
  pub count : ℕ
  pub starts : List ℕ
  pub kind : ℕ

-- one item further: its FRN, how many octets it takes, and these
abbrev pub passed : ℕ → ℕ → ℕ → List ℕ → Came → Came
passed i f n item w = record {
  here = w.here + n;
  count = w.count + 1;
  starts = set w.starts (f - 1) (w.here % 65_536);
  kind = when eqb f (type_frn i) then get_or item 0 0 else w.kind;
}

-- the items that flags name, the first flag's FRN given: the first item's refusal ends the walk
unfoldable pub walk : ℕ → List Bool → ℕ → List ℕ → Came → Answer Came
walk i [] f bs w = ok w
walk i (false ∷ ts) f bs w = walk i ts (f + 1) bs w
walk i (true ∷ ts) f bs w = later w.here (check_at i f bs) >>= λ n. walk i ts (f + 1) (drop n bs) (passed i f n (take n bs) w)

-- a walk that starts at a place
abbrev pub start_at : ℕ → Came
start_at k = record { here = k; count = 0; starts = replicate map_places 0; kind = 0 }

-- ---- a record

-- that starts at a place: its FSPEC, its items, what its message type asks for; 5 to 8 and 12 to 15 at its start
unfoldable pub record_by : ℕ → ℕ → List ℕ → Answer RecordMap
record_by i k bs = do
  (bits, used) ← later k (set_at i bs)
  w ← walk i (flags 63 bits) 1 (drop used bs) (start_at (k + used))
  s ← later k (judge_set i bits w.kind)
  ok (record { start = k; starts = w.starts; end = w.here; count = w.count })

-- ---- a new record

-- the length of the record that a set and its items make: 7, 8; 9 to 11; 18; 12 to 15
unfoldable pub new_by : ℕ → ℕ → List ℕ → Answer ℕ
new_by i bits bs =
    need ltb 0 bits or 7 then
    need within (flags 64 bits) (flags 64 (usable_bits i)) or 8 then do
      w ← walk i (flags 63 bits) 1 bs (start_at 0)
      e ← later w.here (need eqb w.here (length bs) or 18 then ok (tt {0}))
      s ← judge_set i bits w.kind
      ok (rows_left 9 0 bits + length bs)
