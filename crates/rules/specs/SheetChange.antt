-- What is made of a sheet (document 02, W-203): adding a mark, removing one, emptying the list; writing marks that are lent; what fits a lent output, which `leaves`
-- of `Entry` then says what it holds. Assumes nothing.
use Rattle.std.specs.Prelude.{ℕ, ◌/◌, ◌%◌, Bool, false, ◌&&◌, ◌||◌, not, cond, List, [], ◌∷◌, leb, ltb, eqb, length, ℤ}
use Rattle.rules.specs.Answer.{Answer, ok, refused, ◌>>=◌, need◌or◌then◌, when◌then◌else◌}
use Rattle.rules.specs.declared.Mark.{Mark}
use Rattle.rules.specs.declared.Shape.TheVariants.{Whole}
use Rattle.rules.specs.Mark.{key, ok_mark, marks_in}
use Rattle.rules.specs.declared.Edition.{Edition}
use Rattle.rules.specs.SheetForm.{Form}
use Rattle.rules.specs.Sheet.{edition_of, Sheet, sheet_bytes, write_sheet, read_sheet}

-- a value, or another where it is refused
abbrev pub or_else : {A : Type 0} → Answer A → A → A
or_else (ok a) b = a
or_else (refused n p) b = b

-- a changed sheet keeps its edition, but one below the least that is written is written back as that
unfoldable pub back_of : Form → Edition → Edition
back_of f e = when leb f.least e.byte then e else or_else (edition_of f.editions f.least) e

abbrev pub with_marks : Form → Sheet → List Mark → Sheet
with_marks f s ms = record { edition = back_of f s.edition; offset = s.offset; marks = ms }

-- the mark is at that log and place
abbrev pub is_at : ℕ → ℕ → Mark → Bool
is_at l p m = eqb m.log l && eqb m.place p

unfoldable pub has : ℕ → ℕ → List Mark → Bool
has l p [] = false
has l p (m ∷ ms) = is_at l p m || has l p ms

-- the mark goes before the first that it does not follow
unfoldable pub insert : Mark → List Mark → List Mark
insert m [] = m ∷ []
insert m (x ∷ ms) = cond (ltb (key x) (key m)) (x ∷ insert m ms) (m ∷ x ∷ ms)

unfoldable pub without : ℕ → ℕ → List Mark → List Mark
without l p [] = []
without l p (m ∷ ms) = cond (is_at l p m) ms (m ∷ without l p ms)

unfoldable pub sheet_add : Form → Mark → List ℕ → Answer (List ℕ)
sheet_add f m bs = do
  s ← read_sheet f bs
  need ok_mark m or 33 then
      need not (has m.log m.place s.marks) or 35 then
      need ltb (length s.marks) f.limit or 34 then
      ok (sheet_bytes (with_marks f s (insert m s.marks)))

unfoldable pub sheet_remove : Form → ℕ → ℕ → List ℕ → Answer (List ℕ)
sheet_remove f l p bs = do
  s ← read_sheet f bs
  need has l p s.marks or 36 then ok (sheet_bytes (with_marks f s (without l p s.marks)))

unfoldable pub sheet_empty : Form → List ℕ → Answer (List ℕ)
sheet_empty f bs = do
  s ← read_sheet f bs
  ok (sheet_bytes (with_marks f s []))

-- ---- writing marks that are lent end to end, eight bytes each, as tag 3 has them

-- every refusal at place 0
unfoldable pub at_start : {A : Type 0} → Answer A → Answer A
at_start (ok a) = ok a
at_start (refused n p) = refused n 0

unfoldable pub write_marks : Form → ℕ → ℤ → List ℕ → Answer (List ℕ)
write_marks f n o bs =
    need leb (length bs / 8) f.limit or 34 then
    need eqb (length bs % 8) 0 or 33 then do
      ms ← at_start (marks_in Whole 0 (length bs / 8) bs)
      write_sheet f n o ms

-- ---- into a lent output: what is answered, with so much room
unfoldable pub fitted : ℕ → Answer (List ℕ) → Answer (List ℕ)
fitted room r = do
  bs ← r
  need leb (length bs) room or 16 then ok bs
