-- What the answers of finding say, case by case: where what was found lies, its first byte counted from the block's start and how many it has; or a
-- refusal's number and place (document 01, "Refusal numbers and their order"). Beside each, what the rules find, said so. Assumes nothing.
use Rattle.std.specs.Prelude.{ℕ, ◌-◌, ◌≡◌, List, Result, length, eqb}
use Rattle.rules.specs.Answer.{Answer, ok, refused, ◌>>=◌, when◌then◌else◌}
use Rattle.rules.specs.Record.{Category, read_record}
use Rattle.rules.specs.Block.{read_all}
use Rattle.rules.specs.Entry.{RecordMap, Laid, map_of, numbered}
use Rattle.rules.specs.Told.{told, told_as}
use Rattle.rules.specs.declared.faults.Refusal.{Refusal}
use Rattle.records.specs.Answers.{map_by, record_at}
use Rattle.finding.specs.declared.find.RecordFound.{RecordFound}
use Rattle.finding.specs.declared.find.Span.{Span}

-- ---- a record

-- what a rule answers: where the record lies
abbrev pub record_span : Answer RecordMap → Answer (ℕ × ℕ)
record_span (ok m) = ok (m.start, m.end - m.start)
record_span (refused n p) = refused n p

-- and its map beside it
abbrev pub found_in : Answer RecordMap → Answer RecordFound
found_in (ok m) = ok (record { start = m.start; length = m.end - m.start; map = map_by m })
found_in (refused n p) = refused n p

-- what the code answers is what a rule answers: where the record lies, and its map
abbrev pub Located : Result RecordFound Refusal → Answer RecordMap → Type 0
Located r a = told r ≡ found_in a

-- ---- an item

abbrev pub span_said : Span → ℕ × ℕ
span_said s = (s.start, s.length)

abbrev pub item_place_of : Result Span Refusal → Answer (ℕ × ℕ)
item_place_of r = told_as span_said r

abbrev pub item_span : Answer Laid → Answer (ℕ × ℕ)
item_span (ok l) = ok (l.start, l.size)
item_span (refused n p) = refused n p

-- ---- the part that is handed back: where it was not found none, at the block's start

abbrev pub span_in : Answer (ℕ × ℕ) → ℕ × ℕ
span_in (ok s) = s
span_in (refused n p) = (0, 0)

-- ---- as the code follows the rules

-- the map of the record with a number, where the first record starts at a place
unfoldable pub seek_at : Category → ℕ → List ℕ → ℕ → Answer RecordMap
seek_at c k bs n = do
  rs ← read_all (read_record c) bs
  r ← numbered c k rs n
  ok (map_of c r)

-- the map of the record that starts octets, of a category by its profile
unfoldable pub first_at : ℕ → ℕ → List ℕ → Answer RecordMap
first_at i k bs = when eqb (length bs) 0 then refused 19 0 else record_at i k bs
