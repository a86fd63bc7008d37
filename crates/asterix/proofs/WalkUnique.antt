-- Of `asterix_next_record` no two distinct results meet its statement: every member of the struct is fixed. Assumes nothing.
use Prim.Native.Nat.{ℕ}
use mathlib.Core.Path.{◌≡◌, sym, ◌∙◌}
use mathlib.Core.List.{List}
use Rattle.walking.specs.Walk.{next_record}
use Rattle.walking.specs.declared.Cursor.{Cursor}
use Rattle.asterix.specs.declared.RecordMet.{RecordMet}
use Rattle.asterix.specs.Answers.{record_met}

pub one_next_record : (recording : List ℕ) (cursor : Cursor) (a b : RecordMet)
    → a ≡ record_met (next_record recording cursor) → b ≡ record_met (next_record recording cursor) → a ≡ b
one_next_record recording cursor a b p q = p ∙ sym q
