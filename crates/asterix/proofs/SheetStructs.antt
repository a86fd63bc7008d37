-- The struct that the code makes of an answer on exercise sheets, and that it is the struct of the rules' answer, as `StructLaws` has it of the others.
--
-- In order: where the marks lie; reading; a mark by its number; writing and changing. Assumes nothing.
use Prim.Native.Nat.{ℕ}
use mathlib.Core.Path.{◌≡◌, refl, sym, ap, ◌∙◌}
use mathlib.Core.List.{List}
use lib.IntN.{ℤ, pos}
use lib.ListN.{length}
use Rattle.rules.specs.Answer.{Answer, ok, refused}
use Rattle.rules.specs.Entry.{leaves}
use Rattle.rules.specs.SheetForm.{form}
use Rattle.rules.specs.Sheet.{Sheet}
use Rattle.rules.specs.SheetChange.{write_marks, fitted}
use Rattle.std.specs.Prelude.{Option, Result, Ok, Err}
use Rattle.rules.specs.declared.Mark.{Mark}
use Rattle.rules.specs.declared.faults.Refusal.{Refusal}
use Rattle.rules.specs.Told.{told}
use Rattle.marks.specs.declared.Lists.{Lists}
use Rattle.marks.specs.Lists.{found_mark}
use Rattle.laying.specs.Lay.{written_of}
use Rattle.sheets.specs.declared.SheetRead as sheets
use Rattle.sheets.specs.Answers.{sheet_read}
use Rattle.asterix.specs.declared.sheet.SheetRead.{SheetRead}
use Rattle.asterix.specs.declared.sheet.SheetWritten.{SheetWritten}
use Rattle.asterix.specs.Sheets.{marks_out, sheet_told, mark_found, written_by, sheet_written}

-- ---- reading

abbrev pub told_by : Answer sheets.SheetRead → SheetRead
told_by (ok r) = record { number = 0; edition = r.edition; place = 0; offset = r.offset; marks = marks_out r.marks }
told_by (refused n p) = record { number = n; edition = 0; place = p; offset = pos 0; marks = record { base = 0; first = 0; count = 0; split = 0 } }

told_as : (a : Answer Sheet) → told_by (sheet_read a) ≡ sheet_told a
unfolding sheet_read sheet_told
told_as (ok s) = refl
told_as (refused n p) = refl

pub sheet_told_lem : {r y : Result sheets.SheetRead Refusal} (a : Answer Sheet) → told r ≡ sheet_read a → r ≡ y → told_by (told y) ≡ sheet_told a
sheet_told_lem a h e = ap (λ x. told_by (told x)) (sym e) ∙ ap told_by h ∙ told_as a

-- ---- a mark by its number

pub mark_found_lem : {c d : Lists} {r y : Option Mark} (s : List ℕ) (n : ℕ) → r ≡ found_mark c s n → c ≡ d → r ≡ y → mark_found y ≡ mark_found (found_mark d s n)
mark_found_lem s n h g e = ap mark_found (sym e ∙ h ∙ ap (λ x. found_mark x s n) g)

-- ---- writing and changing

written_as : Answer ℕ → SheetWritten
written_as (ok n) = record { number = 0; place = 0; length = n }
written_as (refused n p) = record { number = n; place = p; length = 0 }

by_told : (r : Result ℕ Refusal) → written_by r ≡ written_as (told r)
unfolding written_as
by_told (Ok n) = refl
by_told (Err r) = refl

written_as_lem : (m : Answer (List ℕ)) → written_as (written_of m) ≡ sheet_written m
unfolding written_as sheet_written
written_as_lem (ok bs) = refl
written_as_lem (refused n p) = refl

pub sheet_written_lem : (x : SheetWritten) (w : Result ℕ Refusal) (m : Answer (List ℕ)) → x ≡ written_by w → told w ≡ written_of m → x ≡ sheet_written m
sheet_written_lem x w m e h = e ∙ by_told w ∙ ap written_as h ∙ written_as_lem m

-- the offset that is handed on is the one that was handed over
pub offset_written : (x : SheetWritten) (w : Result ℕ Refusal) (marks old new : List ℕ) (o z : ℤ) → z ≡ o → x ≡ written_by w
    → (told w ≡ written_of (fitted (length old) (write_marks form form.least z marks))) × (new ≡ leaves (fitted (length old) (write_marks form form.least z marks)) old)
    → (x ≡ sheet_written (fitted (length old) (write_marks form form.least o marks))) × (new ≡ leaves (fitted (length old) (write_marks form form.least o marks)) old)
offset_written x w marks old new o z g e (h, l) =
    (sheet_written_lem x w _ e (h ∙ ap (λ y. written_of (fitted (length old) (write_marks form form.least y marks))) g), l ∙ ap (λ y. leaves (fitted (length old) (write_marks form form.least y marks)) old) g)
