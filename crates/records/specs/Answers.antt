-- What each function of this crate answers, in the words of the rules. Assumes nothing.
use Rattle.std.specs.Prelude.{ℕ, ◌≡◌, List, length, replicate, Result}
use Rattle.rules.specs.Answer.{Answer, ok, refused, ◌>>=◌, later}
use Rattle.rules.specs.Record.{read_record}
use Rattle.rules.specs.Entry.{map_places, map_of, new_record}
use Rattle.rules.specs.Entry as entry
use Rattle.rules.specs.Told.{told, told_as}
use Rattle.rules.specs.declared.faults.Refusal.{Refusal}
use Rattle.sets.specs.Sets.{category_at, frns_of}
use Rattle.records.specs.Walk.{Came}
use Rattle.records.specs.declared.RecordMap.{RecordMap}

-- ---- the items

-- the map of no item, whose record's items start at a place; with every place absent
abbrev pub begun : ℕ → RecordMap
begun k = record { starts = replicate map_places 0; end = k; count = 0 }

abbrev pub absent : RecordMap
absent = begun 0

-- how far a walk came, by the map that it left, or the refusal that ended it
abbrev pub came_of : Result ℕ Refusal → RecordMap → Answer Came
came_of r m = told_as (λ k. record { here = m.end; count = m.count; starts = m.starts; kind = k }) r

-- ---- a record

-- where a record ends
abbrev pub end_of : Result ℕ Refusal → Answer ℕ
end_of r = told r

-- a map as the code has it, and the map that an answer leaves: every place absent on refusal
abbrev pub map_by : entry.RecordMap → RecordMap
map_by m = record { starts = m.starts; end = m.end; count = m.count }

abbrev pub map_in : Answer entry.RecordMap → RecordMap
map_in (ok m) = map_by m
map_in (refused n p) = absent

-- what the code answers is what a rule answers: the record's map, which has its end; or the refusal
abbrev pub Walked : Result RecordMap Refusal → Answer entry.RecordMap → Type 0
Walked r a = told r ≡ (a >>= λ m. ok (map_by m))

-- the map of the record that starts octets, which stand at a place
unfoldable pub record_at : ℕ → ℕ → List ℕ → Answer entry.RecordMap
record_at i k bs = later k (read_record (category_at i) bs >>= λ x. ok (map_of (category_at i) (record { start = k; value = x.0 })))

-- ---- a new record

-- the length of the record that a set and its items make
unfoldable pub new_at : ℕ → ℕ → List ℕ → Answer ℕ
new_at i bits bs = new_record (category_at i) (frns_of bits) bs >>= λ new. ok (length new)
