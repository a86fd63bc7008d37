-- Every refusal of the rules of sheets has a number from 16 to 37: so the `number` of a struct is 0 exactly where the work was done. Of any form.
--
-- In order: a field; the marks; a sheet; what is made of it; the structs. Assumes nothing.
use Prim.Native.Nat.{ℕ, zero, suc, ◌≤◌}
use mathlib.Core.Path.{◌≡◌, refl, sym}
use mathlib.Core.List.{List, [], ◌∷◌}
use native.Mathlib.Omega.{arith}
use lib.Dec.{T, leb, leb→le}
use lib.IntN.{ℤ}
use lib.ListN.{length}
use Rattle.rules.specs.Answer.{Answer, ok, refused}
use Rattle.rules.specs.declared.Edition.{Edition}
use Rattle.rules.specs.declared.Mark.{Mark}
use Rattle.rules.specs.declared.Shape.{Shape}
use Rattle.rules.specs.declared.Shape.TheVariants.{Whole}
use Rattle.rules.specs.Mark.{key, mark_in, marks_in}
use Rattle.rules.specs.SheetForm.{Form, Holds, the_marks, the_totals, Tagged, fields, form}
use Rattle.rules.specs.Sheet.{edition_of, told_edition, write_sheet, field_length, read_field, read_edition, read_offset, read_list, read_total, read_held, read_fields, read_sheet}
use Rattle.rules.specs.SheetChange.{sheet_add, sheet_remove, sheet_empty, at_start, write_marks, fitted}
use Rattle.rules.proofs.AnswerLaws.{refused_ok}
use Rattle.asterix.specs.Sheets.{sheet_told, sheet_written}
use Rattle.asterix.proofs.NumberLaws.{T-both}
use Rattle.asterix.proofs.Numbered as numbered

abbrev Numbered : {A : Type 0} → Answer A → Type 0
Numbered m = numbered.Numbered 16 37 m

done : {A : Type 0} (a : A) → Numbered (ok a)
done a = numbered.done 16 37 a

-- ---- a field

lengths : (t : ℕ) (bs : List ℕ) → Numbered (field_length t bs)
unfolding field_length
lengths t bs =
    numbered.test 16 37 _ 31 _ tt (numbered.test 16 37 _ 30 _ tt (numbered.test 16 37 _ 30 _ tt (numbered.test 16 37 _ 31 _ tt (done _))))

bodies : (t : ℕ) (bs : List ℕ) → Numbered (read_field t bs)
unfolding read_field
bodies t bs = numbered.step 16 37 _ _ (lengths t bs) (λ n e. done _)

known : (es : List Edition) (n : ℕ) → Numbered (edition_of es n)
unfolding edition_of
known [] n = numbered.refusal 16 37 33 0 tt
known (e ∷ es) n = numbered.either 16 37 _ _ _ (done e) (known es n)

editions : (es : List Edition) (bs : List ℕ) → Numbered (read_edition es bs)
unfolding read_edition
editions es bs = numbered.step 16 37 _ _ (bodies 1 bs) (λ x e. numbered.test 16 37 _ 32 _ tt (numbered.step 16 37 _ _ (known es _) (λ y g. done _)))

offsets : (bs : List ℕ) → Numbered (read_offset bs)
unfolding read_offset
offsets bs = numbered.step 16 37 _ _ (bodies 2 bs) (λ x e. numbered.test 16 37 _ 32 _ tt (numbered.test 16 37 _ 33 _ tt (done _)))

-- ---- the marks

marks : (f : Shape) (least n : ℕ) (bs : List ℕ) → Numbered (marks_in f least n bs)
unfolding marks_in
marks f least zero bs = done []
marks f least (suc n) bs = numbered.test 16 37 _ 33 _ tt (numbered.step 16 37 _ _ (numbered.on 16 37 _ _ (marks f (suc (key (mark_in f bs))) n _)) (λ ms e. done _))

lists : (t : ℕ) (f : Shape) (limit : ℕ) (bs : List ℕ) → Numbered (read_list t f limit bs)
unfolding read_list
lists t f limit bs =
    numbered.step 16 37 _ _ (bodies t bs)
    (λ x e. numbered.test 16 37 _ 32 _ tt (numbered.test 16 37 _ 34 _ tt (numbered.step 16 37 _ _ (numbered.on 16 37 3 _ (marks f 0 _ _)) (λ ms g. done _))))

held : (h : Holds) (t limit : ℕ) (ms : List Mark) (bs : List ℕ) → Numbered (read_held h t limit ms bs)
unfolding read_held read_total
held (the_marks f) t limit ms bs = numbered.step 16 37 _ _ (lists t f _ bs) (λ x e. done _)
held the_totals t limit ms bs =
    numbered.step 16 37 _ _ (numbered.step 16 37 _ _ (bodies t bs) (λ x e. numbered.test 16 37 _ 32 _ tt (numbered.test 16 37 _ 37 _ tt (done _)))) (λ x e. done _)

-- ---- a sheet

rest : (have limit : ℕ) (xs : List Tagged) (ms : List Mark) (bs : List ℕ) → Numbered (read_fields have limit xs ms bs)
unfolding read_fields
rest have limit [] ms bs = done _
rest have limit (x ∷ xs) ms bs = numbered.step 16 37 _ _ (numbered.on 16 37 _ _ (held x.holds x.tag limit ms bs)) (λ y e. rest have limit xs y.0 y.1)

pub read_numbered : (f : Form) (bs : List ℕ) → Numbered (read_sheet f bs)
unfolding read_sheet
read_numbered f bs =
    numbered.step 16 37 _ _ (editions f.editions bs) (λ x e.
    numbered.step 16 37 _ _ (numbered.on 16 37 _ _ (offsets x.1)) (λ y g.
    numbered.step 16 37 _ _ (rest (length bs) f.limit (fields x.0) [] y.1) (λ z h. numbered.on 16 37 _ _ (numbered.test 16 37 _ 31 _ tt (done _)))))

-- ---- what is made of it

told : (f : Form) (n : ℕ) → Numbered (told_edition f n)
unfolding told_edition
told f n = numbered.step 16 37 _ _ (known f.editions n) (λ e g. numbered.test 16 37 _ 33 _ tt (done e))

at_start_lem : {A : Type 0} (m : Answer A) → Numbered m → Numbered (at_start m)
unfolding at_start
at_start_lem (ok a) h = done a
at_start_lem (refused n p) h = numbered.refusal 16 37 n 0 (h n p refl)

writes : (f : Form) (n : ℕ) (o : ℤ) (bs : List ℕ) → Numbered (write_marks f n o bs)
unfolding write_marks write_sheet
writes f n o bs =
    numbered.test 16 37 _ 34 _ tt (numbered.test 16 37 _ 33 _ tt (numbered.step 16 37 _ _ (at_start_lem _ (marks Whole 0 _ bs)) (λ ms e.
    numbered.test 16 37 _ 34 _ tt (numbered.step 16 37 _ _ (told f n) (λ d g. numbered.test 16 37 _ 33 _ tt (done _))))))

adds : (f : Form) (m : Mark) (bs : List ℕ) → Numbered (sheet_add f m bs)
unfolding sheet_add
adds f m bs = numbered.step 16 37 _ _ (read_numbered f bs) (λ s e. numbered.test 16 37 _ 33 _ tt (numbered.test 16 37 _ 35 _ tt (numbered.test 16 37 _ 34 _ tt (done _))))

removes : (f : Form) (l p : ℕ) (bs : List ℕ) → Numbered (sheet_remove f l p bs)
unfolding sheet_remove
removes f l p bs = numbered.step 16 37 _ _ (read_numbered f bs) (λ s e. numbered.test 16 37 _ 36 _ tt (done _))

empties : (f : Form) (bs : List ℕ) → Numbered (sheet_empty f bs)
unfolding sheet_empty
empties f bs = numbered.step 16 37 _ _ (read_numbered f bs) (λ s e. done _)

fits : (room : ℕ) (m : Answer (List ℕ)) → Numbered m → Numbered (fitted room m)
unfolding fitted
fits room m h = numbered.step 16 37 _ _ h (λ bs e. numbered.test 16 37 _ 16 _ tt (done bs))

-- ---- the structs

-- a number tells an answer: it is 0 exactly where the work was done, and else from 16 to 37
pub record Tells {A : Type 0} (a : Answer A) (n : ℕ) : Type 0 where
  pub accepted : (v : A) → a ≡ ok v → n ≡ 0
  pub refusal : (k p : ℕ) → a ≡ refused k p → (n ≡ k) × (16 ≤ n) × (n ≤ 37)

tells : {A : Type 0} (number : Answer A → ℕ) → ((v : A) → number (ok v) ≡ 0) → ((n p : ℕ) → number (refused n p) ≡ n) → (a : Answer A) → Numbered a → Tells a (number a)
tells number d r (ok v) h = record { accepted = λ w e. d v; refusal = λ k p e. refused_ok (sym e) }
tells number d r (refused n p) h =
    let t : T (leb 16 n) × T (leb n 37) = T-both (leb 16 n) (leb n 37) (h n p refl) in
    record { accepted = λ w e. refused_ok e; refusal = λ k q e. let z : n ≡ k = cc in (omega (arith, r n p), omega (arith, r n p, leb→le 16 n t.0), omega (arith, r n p, leb→le n 37 t.1)) }

pub read_sheet_tells : (sheet : List ℕ) → Tells (read_sheet form sheet) (sheet_told (read_sheet form sheet)).number
unfolding sheet_told
read_sheet_tells sheet = tells (λ a. (sheet_told a).number) (λ v. refl) (λ n p. refl) (read_sheet form sheet) (read_numbered form sheet)

written_tells : (room : ℕ) (m : Answer (List ℕ)) → Numbered m → Tells (fitted room m) (sheet_written (fitted room m)).number
unfolding sheet_written
written_tells room m h = tells (λ a. (sheet_written a).number) (λ v. refl) (λ n p. refl) (fitted room m) (fits room m h)

pub write_sheet_tells : (room : ℕ) (offset : ℤ) (marks : List ℕ) → Tells (fitted room (write_marks form form.least offset marks)) (sheet_written (fitted room (write_marks form form.least offset marks))).number
write_sheet_tells room offset marks = written_tells room _ (writes form form.least offset marks)

pub add_mark_tells : (room : ℕ) (mark : Mark) (sheet : List ℕ) → Tells (fitted room (sheet_add form mark sheet)) (sheet_written (fitted room (sheet_add form mark sheet))).number
add_mark_tells room mark sheet = written_tells room _ (adds form mark sheet)

pub remove_mark_tells : (room log place : ℕ) (sheet : List ℕ) → Tells (fitted room (sheet_remove form log place sheet)) (sheet_written (fitted room (sheet_remove form log place sheet))).number
remove_mark_tells room log place sheet = written_tells room _ (removes form log place sheet)

pub empty_sheet_tells : (room : ℕ) (sheet : List ℕ) → Tells (fitted room (sheet_empty form sheet)) (sheet_written (fitted room (sheet_empty form sheet))).number
empty_sheet_tells room sheet = written_tells room _ (empties form sheet)
