-- For each function of include/asterix.h on exercise sheets, and for each conversion of theirs, no two distinct results meet its statement, as `Unique` has it of
-- the others. Assumes nothing.
use Prim.Native.Nat.{ℕ}
use mathlib.Core.Path.{◌≡◌, sym, ◌∙◌}
use mathlib.Core.List.{List}
use lib.IntN.{ℤ}
use lib.ListN.{length}
use Rattle.rules.specs.Entry.{leaves}
use Rattle.rules.specs.SheetForm.{form}
use Rattle.rules.specs.SheetChange.{sheet_add, sheet_remove, sheet_empty, write_marks, fitted}
use Rattle.rules.specs.Sheet.{read_sheet}
use Rattle.marks.specs.Lists.{found_mark}
use Rattle.asterix.specs.declared.sheet.Marks.{Marks}
use Rattle.std.specs.Prelude.{Result}
use Rattle.rules.specs.declared.Mark.{Mark}
use Rattle.rules.specs.declared.faults.Refusal.{Refusal}
use Rattle.marks.specs.declared.Lists.{Lists}
use Rattle.asterix.specs.declared.sheet.SheetRead.{SheetRead}
use Rattle.asterix.specs.declared.sheet.MarkFound.{MarkFound}
use Rattle.asterix.specs.declared.sheet.SheetWritten.{SheetWritten}
use Rattle.asterix.specs.Sheets.{marks_out, marks_in, sheet_told, mark_found, written_by, sheet_written}

pub one_read_sheet : (sheet : List ℕ) (a b : SheetRead) → a ≡ sheet_told (read_sheet form sheet) → b ≡ sheet_told (read_sheet form sheet) → a ≡ b
one_read_sheet sheet a b p q = p ∙ sym q

pub one_find_mark : (sheet : List ℕ) (marks : Marks) (n : ℕ) (a b : MarkFound) → a ≡ mark_found (found_mark (marks_in marks) sheet n) → b ≡ mark_found (found_mark (marks_in marks) sheet n) → a ≡ b
one_find_mark sheet marks n a b p q = p ∙ sym q

-- ---- where the marks lie, in C and in the code; what C is told of a length or a refusal

pub one_marks_from : (lists : Lists) (a b : Marks) → a ≡ marks_out lists → b ≡ marks_out lists → a ≡ b
one_marks_from lists a b p q = p ∙ sym q

pub one_lists_from : (marks : Marks) (a b : Lists) → a ≡ marks_in marks → b ≡ marks_in marks → a ≡ b
one_lists_from marks a b p q = p ∙ sym q

pub one_sheet_written_from : (answer : Result ℕ Refusal) (a b : SheetWritten) → a ≡ written_by answer → b ≡ written_by answer → a ≡ b
one_sheet_written_from answer a b p q = p ∙ sym q

-- ---- the answer, and what the output then holds

pub one_write_sheet : (offset : ℤ) (marks : List ℕ) (out : List ℕ) (a b : SheetWritten) (left right : List ℕ)
    → a ≡ sheet_written (fitted (length out) (write_marks form form.least offset marks)) → left ≡ leaves (fitted (length out) (write_marks form form.least offset marks)) out
    → b ≡ sheet_written (fitted (length out) (write_marks form form.least offset marks)) → right ≡ leaves (fitted (length out) (write_marks form form.least offset marks)) out → (a ≡ b) × (left ≡ right)
one_write_sheet offset marks out a b left right p l q r = (p ∙ sym q, l ∙ sym r)

pub one_add_mark : (sheet : List ℕ) (mark : Mark) (out : List ℕ) (a b : SheetWritten) (left right : List ℕ)
    → a ≡ sheet_written (fitted (length out) (sheet_add form mark sheet)) → left ≡ leaves (fitted (length out) (sheet_add form mark sheet)) out
    → b ≡ sheet_written (fitted (length out) (sheet_add form mark sheet)) → right ≡ leaves (fitted (length out) (sheet_add form mark sheet)) out → (a ≡ b) × (left ≡ right)
one_add_mark sheet mark out a b left right p l q r = (p ∙ sym q, l ∙ sym r)

pub one_remove_mark : (sheet : List ℕ) (log place : ℕ) (out : List ℕ) (a b : SheetWritten) (left right : List ℕ)
    → a ≡ sheet_written (fitted (length out) (sheet_remove form log place sheet)) → left ≡ leaves (fitted (length out) (sheet_remove form log place sheet)) out
    → b ≡ sheet_written (fitted (length out) (sheet_remove form log place sheet)) → right ≡ leaves (fitted (length out) (sheet_remove form log place sheet)) out → (a ≡ b) × (left ≡ right)
one_remove_mark sheet log place out a b left right p l q r = (p ∙ sym q, l ∙ sym r)

pub one_empty_sheet : (sheet : List ℕ) (out : List ℕ) (a b : SheetWritten) (left right : List ℕ)
    → a ≡ sheet_written (fitted (length out) (sheet_empty form sheet)) → left ≡ leaves (fitted (length out) (sheet_empty form sheet)) out
    → b ≡ sheet_written (fitted (length out) (sheet_empty form sheet)) → right ≡ leaves (fitted (length out) (sheet_empty form sheet)) out → (a ≡ b) × (left ≡ right)
one_empty_sheet sheet out a b left right p l q r = (p ∙ sym q, l ∙ sym r)
