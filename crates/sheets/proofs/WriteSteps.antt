-- What the code meets: a clock offset in four bytes, and marks that are lent and written. Assumes nothing.
use Prim.Native.Nat.{ℕ, suc, ◌-◌, ◌*◌, ◌/◌, ◌%◌, ◌≤◌, ◌<◌}
use mathlib.Core.Path.{◌≡◌, refl, sym, ap, ap₂, ◌∙◌}
use mathlib.Core.Bool.{Bool, true, false}
use mathlib.Core.List.{List, [], ◌++◌, append-nil}
use native.Mathlib.Omega.{arith}
use lib.Dec.{T}
use borrow.Author.Tests.{le-leb, lt-leb, eq-eqb, ne_eqb, leb-true}
use lib.ListN.{length, drop}
use lib.IntN.{ℤ, pos, negsuc}
use Rattle.std.specs.Int.{w32, cast_unsigned}
use Rattle.std.proofs.lemmas.Int.{of_z-to_z}
use mir.Val.{to_z}
use Rattle.rules.specs.Answer.{Answer, ok, refused, ◌>>=◌, need◌or◌then◌}
use Rattle.rules.proofs.AnswerLaws.{refused_ok, ok_inj, Octets}
use Rattle.rules.specs.declared.Shape.TheVariants.{Whole}
use Rattle.rules.specs.declared.Edition.{Edition}
use Rattle.rules.specs.declared.Mark.{Mark}
use Rattle.rules.specs.SheetForm.{form}
use Rattle.rules.specs.Mark.{marks_bytes, marks_in, rising, of_log}
use Rattle.rules.specs.Merge.{in_range}
use Rattle.rules.specs.Sheet.{offset_code, sheet_bytes, told_edition, write_sheet}
use Rattle.rules.specs.SheetChange.{at_start, write_marks, fitted}
use Rattle.rules.proofs.Codec.{is_true}
use Rattle.rules.proofs.MarkLaws as rules
use Rattle.marks.specs.declared.Lists.{Lists}
use Rattle.marks.specs.declared.Change.TheVariants.{Keep}
use Rattle.marks.specs.declared.Tally.{Tally}
use Rattle.marks.specs.Lists.{passing, tally, Held, marks_of, new_at}
use Rattle.marks.proofs.MarkSteps.{fault_in, marks_pass}
use Rattle.marks.proofs.NumberLaws.{marks_whole}
use Rattle.marks.proofs.ChangedLaws.{kept, of_few}
use Rattle.std.specs.Prelude.{Result}
use Rattle.rules.specs.declared.faults.Refusal.{Refusal}
use Rattle.laying.specs.Lay.{new_bytes, Wrote}
use Rattle.sheets.proofs.ChangeSteps.{new_bytes_lem, laid_by_lem}

-- ---- the offset, in two's complement

abbrev pub Coding : ℤ → Answer ℕ
Coding o = need in_range o or 33 then ok (offset_code o)

pub code_no : (o : ℤ) → in_range o ≡ false → refused 33 0 ≡ Coding o
unfolding need◌or◌then◌
code_no o h = rw h

code_yes : (o : ℤ) → in_range o ≡ true → ok (cast_unsigned w32 o) ≡ Coding o
unfolding need◌or◌then◌
code_yes (pos n) h = rw h
code_yes (negsuc n) h = let z : 4294967296 - suc n ≡ 4294967295 - n = omega arith in rw h (ap ok z)

small_code : (o : ℤ) → in_range o ≡ true → cast_unsigned w32 o < 4294967296
small_code (pos n) h = let l : n ≤ 46080 = leb-true n 46080 h in omega arith
small_code (negsuc n) h = omega arith

pub code_told : (o : ℤ) → in_range o ≡ true → ok (cast_unsigned w32 (to_z w32 (cast_unsigned w32 o))) ≡ Coding o
code_told o h = ap ok (of_z-to_z w32 (cast_unsigned w32 o) (small_code o h)) ∙ code_yes o h

coding_no : (t : Bool) (c k p : ℕ) → refused k p ≡ (need t or 33 then ok c) → t ≡ false
unfolding need◌or◌then◌
coding_no true c k p h = refused_ok h
coding_no false c k p h = refl

coding_what : (t : Bool) (c k p : ℕ) → refused k p ≡ (need t or 33 then ok c) → ◌≡◌ {A = Answer (List ℕ)} (refused 33 0) (refused k p)
unfolding need◌or◌then◌
coding_what true c k p h = refused_ok h
coding_what false c k p h = let a : k ≡ 33 = cc in let b : p ≡ 0 = cc in ap₂ refused (sym a) (sym b)

coding_yes : (t : Bool) (c d : ℕ) → ok d ≡ (need t or 33 then ok c) → (t ≡ true) × (d ≡ c)
unfolding need◌or◌then◌
coding_yes true c d h = (refl, ok_inj h)
coding_yes false c d h = refused_ok (sym h)

-- ---- marks that are lent

module _ (n : ℕ) (o : ℤ) (bs : List ℕ) where
  pub write_many_lem : form.limit < length bs / 8 → write_marks form n o bs ≡ refused 34 0
  unfolding write_marks need◌or◌then◌
  write_many_lem h = rw (lt-leb (length bs / 8) form.limit h)

  pub write_part : length bs / 8 ≤ form.limit → (length bs % 8 ≡ 0 → ⊥) → write_marks form n o bs ≡ refused 33 0
  unfolding write_marks need◌or◌then◌
  write_part l h = rw (le-leb (length bs / 8) form.limit l, ne_eqb (length bs % 8) 0 h)

  pub write_fault : (a : Tally) → length bs / 8 ≤ form.limit → length bs % 8 ≡ 0 → a ≡ tally 0 (passing Whole 0 (length bs / 8) bs) → a.count < length bs / 8 → write_marks form n o bs ≡ refused 33 0
  unfolding write_marks need◌or◌then◌ at_start ◌>>=◌
  write_fault a l h e k =
      let x : marks_in Whole 0 (length bs / 8) bs ≡ refused 33 (length (passing Whole 0 (length bs / 8) bs) * 8) = fault_in Whole 0 (length bs / 8) bs (omega (arith, ap (λ (y : Tally). y.count) e)) in
      rw (le-leb (length bs / 8) form.limit l, eq-eqb (length bs % 8) 0 h, x)

  pub record Lent (c : Lists) (a : Tally) : Type 0 where
    pub marks : List Mark
    pub reads : marks_in Whole 0 (length bs / 8) bs ≡ ok marks
    pub rise : T (rising Whole 0 marks)
    pub many : length marks ≡ length bs / 8
    pub are : marks_of c bs ≡ marks
    pub held : Held c bs
    pub few : length bs / 8 ≤ form.limit
    pub whole : length bs % 8 ≡ 0
    pub count : c.count ≡ length bs / 8
    pub first : a.first ≡ length (of_log 0 marks)
    pub first_few : a.first ≤ c.count

  pub lent : (a : Tally) → Octets bs → length bs / 8 ≤ form.limit → length bs % 8 ≡ 0 → a ≡ tally 0 (passing Whole 0 (length bs / 8) bs) → length bs / 8 ≤ a.count
      → Lent (record { split = false; base = 0; first = length bs / 8; count = length bs / 8 }) a
  lent a b l h e k =
      let ms : List Mark = passing Whole 0 (length bs / 8) bs in
      let (r, m) = marks_pass Whole 0 (length bs / 8) bs (omega (arith, ap (λ (y : Tally). y.count) e)) in
      let f : rules.Listed Whole 0 (length bs / 8) bs ms = rules.marks_forth Whole 0 (length bs / 8) bs ms b (omega arith) r in
      let d : drop 0 bs ≡ marks_bytes Whole ms ++ [] = f.joins ∙ sym (append-nil (marks_bytes Whole ms)) in
      let g : a.first ≡ length (of_log 0 ms) = ap (λ (y : Tally). y.first) e in
      record {
        marks = ms;
        reads = r;
        rise = f.rise;
        many = m;
        are = ap (λ x. marks_of (record { split = false; base = 0; first = x; count = x }) bs) (sym m) ∙ marks_whole 0 bs ms [] f.rise d;
        held = record { few = omega arith; low = omega arith; room = omega arith };
        few = l;
        whole = h;
        count = refl;
        first = g;
        first_few = omega (arith, g, of_few ms, m);
      }

  module _ (c : Lists) (a : Tally) (w : Lent c a) where
    goes_on : write_marks form n o bs ≡ write_sheet form n o w.marks
    unfolding write_marks need◌or◌then◌ at_start ◌>>=◌
    goes_on = rw (le-leb (length bs / 8) form.limit w.few, eq-eqb (length bs % 8) 0 w.whole, w.reads)

    pub write_edition : (k p : ℕ) → refused k p ≡ told_edition form n → write_marks form n o bs ≡ refused k p
    unfolding write_sheet need◌or◌then◌ ◌>>=◌
    write_edition k p h = goes_on ∙ rw (le-leb (length w.marks) form.limit (omega (arith, w.many, w.few)), ← h)

    pub write_offset : (e : Edition) (k p : ℕ) → ok e ≡ told_edition form n → refused k p ≡ Coding o → write_marks form n o bs ≡ refused k p
    unfolding write_sheet need◌or◌then◌ ◌>>=◌
    write_offset e k p h g = goes_on ∙ rw (le-leb (length w.marks) form.limit (omega (arith, w.many, w.few)), ← h, coding_no (in_range o) (offset_code o) k p g) (coding_what (in_range o) (offset_code o) k p g)

    sheet_goes : (e : Edition) → ok e ≡ told_edition form n → in_range o ≡ true → write_marks form n o bs ≡ ok (sheet_bytes (record { edition = e; offset = o; marks = w.marks }))
    unfolding write_sheet need◌or◌then◌ ◌>>=◌
    sheet_goes e h g = goes_on ∙ rw (le-leb (length w.marks) form.limit (omega (arith, w.many, w.few)), ← h, g, is_true (rising Whole 0 w.marks) w.rise)

    pub write_done : (old new : List ℕ) (r : Result ℕ Refusal) (e : Edition) (code : ℕ) → ok e ≡ told_edition form n → ok code ≡ Coding o
        → Wrote r (fitted (length old) (ok (new_bytes e code (new_at Keep c bs) c.count a.first))) old new → Wrote r (fitted (length old) (write_marks form n o bs)) old new
    write_done old new r e code h g q =
        let (t, d) = coding_yes (in_range o) (offset_code o) code g in
        laid_by_lem (write_marks form n o bs) _ old new r
        (sheet_goes e h t ∙ ap ok (sym (new_bytes_lem e code o (new_at Keep c bs) c.count a.first w.marks d (kept c bs ∙ w.are) w.rise w.first w.first_few))) q
