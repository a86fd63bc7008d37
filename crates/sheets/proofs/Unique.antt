-- No two distinct results satisfy the statement of a function on sheets: neither its answer, nor what the second buffer then holds. And the marks of a sheet that is
-- accepted are those that `marks::find_mark` tells by the lists that `read_sheet` told. Assumes nothing.
use Prim.Native.Nat.{ℕ, ◌<◌}
use mathlib.Core.Path.{◌≡◌, sym, ap, ◌∙◌}
use mathlib.Core.List.{List}
use native.Mathlib.Omega.{arith}
use lib.ListN.{length, get_or}
use lib.IntN.{ℤ}
use Rattle.rules.specs.Answer.{ok}
use Rattle.rules.proofs.AnswerLaws.{ok_inj, Octets}
use Rattle.rules.specs.Entry.{leaves}
use Rattle.rules.specs.declared.Mark.{Mark}
use Rattle.rules.specs.SheetForm.{form}
use Rattle.rules.specs.SheetChange.{sheet_add, sheet_remove, sheet_empty, write_marks, fitted}
use Rattle.rules.specs.Sheet.{Sheet, read_sheet}
use Rattle.std.specs.Prelude.{Some, Result}
use Rattle.rules.specs.declared.faults.Refusal.{Refusal}
use Rattle.rules.specs.Told.{told}
use Rattle.rules.proofs.ToldLaws.{one_told}
use Rattle.marks.specs.Lists.{lists_of, found_mark}
use Rattle.marks.proofs.FoundLaws.{told_marks}
use Rattle.viewing.specs.Read.{view_of}
use Rattle.viewing.proofs.ListLaws.{fmap_is}
use Rattle.laying.specs.Lay.{written_of}
use Rattle.sheets.specs.declared.SheetRead.{SheetRead}
use Rattle.sheets.specs.Answers.{sheet_read}
use Rattle.sheets.proofs.ChangeSteps.{Seen, seen}

-- ---- reading

pub one_read_sheet : (sheet : List ℕ) (a b : Result SheetRead Refusal) → told a ≡ sheet_read (read_sheet form sheet) → told b ≡ sheet_read (read_sheet form sheet) → a ≡ b
one_read_sheet sheet a b p q = one_told a b (p ∙ sym q)

-- ---- writing and changing: the answer, and what the output then holds

pub one_write_sheet : (offset : ℤ) (marks : List ℕ) (out : List ℕ) (a b : Result ℕ Refusal) (left right : List ℕ)
    → told a ≡ written_of (fitted (length out) (write_marks form form.least offset marks)) → left ≡ leaves (fitted (length out) (write_marks form form.least offset marks)) out
    → told b ≡ written_of (fitted (length out) (write_marks form form.least offset marks)) → right ≡ leaves (fitted (length out) (write_marks form form.least offset marks)) out → (a ≡ b) × (left ≡ right)
one_write_sheet offset marks out a b left right p l q r = (one_told a b (p ∙ sym q), l ∙ sym r)

pub one_add_mark : (sheet : List ℕ) (mark : Mark) (out : List ℕ) (a b : Result ℕ Refusal) (left right : List ℕ)
    → told a ≡ written_of (fitted (length out) (sheet_add form mark sheet)) → left ≡ leaves (fitted (length out) (sheet_add form mark sheet)) out
    → told b ≡ written_of (fitted (length out) (sheet_add form mark sheet)) → right ≡ leaves (fitted (length out) (sheet_add form mark sheet)) out → (a ≡ b) × (left ≡ right)
one_add_mark sheet mark out a b left right p l q r = (one_told a b (p ∙ sym q), l ∙ sym r)

pub one_remove_mark : (sheet : List ℕ) (log place : ℕ) (out : List ℕ) (a b : Result ℕ Refusal) (left right : List ℕ)
    → told a ≡ written_of (fitted (length out) (sheet_remove form log place sheet)) → left ≡ leaves (fitted (length out) (sheet_remove form log place sheet)) out
    → told b ≡ written_of (fitted (length out) (sheet_remove form log place sheet)) → right ≡ leaves (fitted (length out) (sheet_remove form log place sheet)) out → (a ≡ b) × (left ≡ right)
one_remove_mark sheet log place out a b left right p l q r = (one_told a b (p ∙ sym q), l ∙ sym r)

pub one_empty_sheet : (sheet : List ℕ) (out : List ℕ) (a b : Result ℕ Refusal) (left right : List ℕ)
    → told a ≡ written_of (fitted (length out) (sheet_empty form sheet)) → left ≡ leaves (fitted (length out) (sheet_empty form sheet)) out
    → told b ≡ written_of (fitted (length out) (sheet_empty form sheet)) → right ≡ leaves (fitted (length out) (sheet_empty form sheet)) out → (a ≡ b) × (left ≡ right)
one_empty_sheet sheet out a b left right p l q r = (one_told a b (p ∙ sym q), l ∙ sym r)

-- ---- the marks of a sheet that is accepted, by their numbers

pub sheet_marks : (sheet : List ℕ) (s : Sheet) → Octets sheet → read_sheet form sheet ≡ ok s → (i : ℕ) (d : Mark) → i < length s.marks
    → found_mark (lists_of s.edition.split 14 s.marks) sheet i ≡ Some (get_or s.marks i d)
sheet_marks sheet s b h i d l =
    let w : Seen sheet 0 (view_of 0 s) = seen sheet 0 (view_of 0 s) b (sym (fmap_is (view_of 0) h)) in
    let e : w.sheet ≡ s = ok_inj (sym w.reads ∙ h) in
    told_marks (lists_of s.edition.split 14 s.marks) sheet i d w.held (omega (arith, w.many, ap (λ (x : Sheet). length x.marks) e)) ∙ ap (λ x. Some (get_or x i d)) (w.are ∙ ap (λ (x : Sheet). x.marks) e)
