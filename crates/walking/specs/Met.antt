-- What a step meets, in the words of the rule, and where the walk goes on. Assumes nothing.
use Rattle.std.specs.Prelude.{ℕ}
use Rattle.records.specs.declared.RecordMap.{RecordMap}
use Rattle.walking.specs.declared.Cursor.{Cursor}

-- a record: its category, its first octet and how many it has; nothing more; or a refusal's number and place
pub data Met : Type 0 where
  Record : ℕ → ℕ → ℕ → Met
  Finished : Met
  Refused : ℕ → ℕ → Met

-- beside it the record's map, every place absent where there is no record; and where the walk goes on
pub record Walked : Type 0 where
  pub met : Met
  pub map : RecordMap
  pub next : Cursor
