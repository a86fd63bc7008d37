-- The form in force is within what a field can hold. And the forms to come, as values, so that it is seen that each of W-208, W-209 and W-211 is a row or a number: what the
-- form before read, each of them reads, and the rules answer of it as document 02 says. Assumes nothing.
use Prim.Native.Nat.{ℕ, ◌≤◌}
use mathlib.Core.Path.{◌≡◌, refl}
use mathlib.Core.Logic.{⊎_elim}
use mathlib.Core.Bool.{true, false}
use mathlib.Core.List.{List, [], ◌∷◌, ◌++◌}
use native.Mathlib.Omega.{arith}
use lib.IntN.{negsuc}
use Rattle.rules.specs.Answer.{Answer, ok, refused, ◌>>=◌, need◌or◌then◌, when◌then◌else◌, later}
use Rattle.rules.specs.declared.Edition.{Edition}
use Rattle.rules.specs.declared.Mark.{Mark}
use Rattle.rules.specs.Mark.{number4, bytes4, mark_bytes, mark_in, mark_fits, marks_bytes, marks_in, rising, count, totals_from, of_log}
use Rattle.rules.specs.SheetForm.{Form, one, form}
use Rattle.rules.specs.Sheet.{Sheet, edition_of, field_bytes, held_bytes, fields_bytes, sheet_bytes, told_edition, write_sheet, field_length, read_field, read_edition, read_offset, read_list, same, read_total, read_held, read_fields, read_sheet}
use Rattle.rules.specs.SheetChange.{back_of, has, insert, sheet_add}
use Rattle.rules.proofs.AnswerLaws.{refused_ok, if_inv, if_true, if_false}
use Rattle.rules.proofs.SheetChangeLaws.{Later}

-- ---- the form in force
pub small : form.limit ≤ 8191
small = omega arith

-- ---- the forms to come

-- tags 1, 2, 3, 4
abbrev two : Edition
two = record { byte = 2; split = false; totals = true }

-- tags 1, 2, 5, 6, 4
abbrev three : Edition
three = record { byte = 3; split = true; totals = true }

-- totals on the sheet: a row more, and what is written is edition 2
abbrev pub w208 : Form
w208 = record { limit = 200; least = 2; editions = one ∷ two ∷ [] }

-- more marks: one number
abbrev pub w209 : Form
w209 = record { limit = 4000; least = 2; editions = one ∷ two ∷ [] }

-- sheets split by log: a row more
abbrev pub w211 : Form
w211 = record { limit = 4000; least = 2; editions = one ∷ two ∷ three ∷ [] }

pub small_211 : w211.limit ≤ 8191
small_211 = omega arith

-- rows that are added at the end leave what was known known
more_rows : (es fs : List Edition) (n : ℕ) (e : Edition) → edition_of es n ≡ ok e → edition_of (es ++ fs) n ≡ ok e
unfolding edition_of
more_rows [] fs n e h = refused_ok h
more_rows (x ∷ es) fs n e h = ⊎_elim (λ (t, k). if_true _ t k) (λ (t, k). if_false _ t (more_rows es fs n e k)) (if_inv _ _ _ h)

pub later_208 : Later form w208
later_208 = record { more = omega arith; known = λ e k. more_rows (one ∷ []) (two ∷ []) e.byte e k }

pub later_209 : Later w208 w209
later_209 = record { more = omega arith; known = λ e k. k }

pub later_211 : Later w209 w211
later_211 = record { more = omega arith; known = λ e k. more_rows (one ∷ two ∷ []) (three ∷ []) e.byte e k }

-- ---- their numbers: two marks, offset -2

abbrev start : ℕ → List ℕ
start e = 1 ∷ 0 ∷ 1 ∷ e ∷ 2 ∷ 0 ∷ 4 ∷ 255 ∷ 255 ∷ 255 ∷ 254 ∷ []

abbrev a : Mark
a = record { log = 0; place = 258; station = 5; comment = 9 }

abbrev b : Mark
b = record { log = 1; place = 3; station = 0; comment = 255 }

abbrev sheet : Edition → Sheet
sheet e = record { edition = e; offset = negsuc 1; marks = a ∷ b ∷ [] }

abbrev whole_a : List ℕ
whole_a = 0 ∷ 0 ∷ 1 ∷ 2 ∷ 0 ∷ 5 ∷ 9 ∷ 0 ∷ []

abbrev whole_b : List ℕ
whole_b = 0 ∷ 0 ∷ 0 ∷ 3 ∷ 1 ∷ 0 ∷ 255 ∷ 0 ∷ []

abbrev sums : List ℕ
sums = 4 ∷ 0 ∷ 12 ∷ 0 ∷ 1 ∷ 0 ∷ 0 ∷ 0 ∷ 0 ∷ 0 ∷ 0 ∷ 0 ∷ 0 ∷ 0 ∷ 1 ∷ []

abbrev sheet_2 : List ℕ
sheet_2 = start 2 ++ (3 ∷ 0 ∷ 16 ∷ (whole_a ++ (whole_b ++ sums)))

abbrev sheet_3 : List ℕ
sheet_3 = start 3 ++ (5 ∷ 0 ∷ 7 ∷ 0 ∷ 0 ∷ 1 ∷ 2 ∷ 5 ∷ 9 ∷ 0 ∷ 6 ∷ 0 ∷ 7 ∷ 0 ∷ 0 ∷ 0 ∷ 3 ∷ 0 ∷ 255 ∷ 0 ∷ sums)

-- the last form with another limit
abbrev few : ℕ → Form
few n = record { limit = n; least = 2; editions = one ∷ two ∷ three ∷ [] }

pub record Numbers : Type 0 where
  pub two_read : ◌≡◌ {A = Answer Sheet} (read_sheet w208 sheet_2) (ok (sheet two))
  pub two_written : ◌≡◌ {A = Answer (List ℕ)} (write_sheet w208 2 (negsuc 1) (a ∷ b ∷ [])) (ok sheet_2)
  pub two_without : ◌≡◌ {A = Answer Sheet} (read_sheet w208 (start 2 ++ (3 ∷ 0 ∷ 16 ∷ (whole_a ++ whole_b)))) (refused 31 30)
  pub two_cut : ◌≡◌ {A = Answer Sheet} (read_sheet w208 (start 2 ++ (3 ∷ 0 ∷ 0 ∷ 4 ∷ []))) (refused 30 14)
  pub totals_disagree : ◌≡◌ {A = Answer Sheet} (read_sheet w208 (start 2 ++ (3 ∷ 0 ∷ 8 ∷ (whole_a ++ sums)))) (refused 37 22)
  pub one_with_totals : ◌≡◌ {A = Answer Sheet} (read_sheet w208 (start 1 ++ (3 ∷ 0 ∷ 16 ∷ (whole_a ++ (whole_b ++ sums))))) (refused 31 30)
  pub one_written_back : ◌≡◌ {A = Answer (List ℕ)} (sheet_add w208 b (start 1 ++ (3 ∷ 0 ∷ 8 ∷ whole_a))) (ok sheet_2)
  pub one_not_written : ◌≡◌ {A = Answer (List ℕ)} (write_sheet w208 1 (negsuc 1) []) (refused 33 0)
  pub three_read : ◌≡◌ {A = Answer Sheet} (read_sheet w211 sheet_3) (ok (sheet three))
  pub three_written : ◌≡◌ {A = Answer (List ℕ)} (write_sheet w211 3 (negsuc 1) (a ∷ b ∷ [])) (ok sheet_3)
  pub three_before : ◌≡◌ {A = Answer Sheet} (read_sheet w209 sheet_3) (refused 33 0)
  pub many_in_five : ◌≡◌ {A = Answer Sheet} (read_sheet (few 0) sheet_3) (refused 34 11)
  pub many_in_six : ◌≡◌ {A = Answer Sheet} (read_sheet (few 1) sheet_3) (refused 34 21)

pub numbers : Numbers
unfolding ◌>>=◌ need◌or◌then◌ when◌then◌else◌ later number4 bytes4 mark_bytes mark_in mark_fits marks_bytes marks_in rising count totals_from of_log edition_of field_bytes held_bytes fields_bytes sheet_bytes told_edition write_sheet field_length read_field read_edition read_offset read_list same read_total read_held read_fields read_sheet has insert sheet_add back_of
numbers =
    record {
      two_read = refl;
      two_written = refl;
      two_without = refl;
      two_cut = refl;
      totals_disagree = refl;
      one_with_totals = refl;
      one_written_back = refl;
      one_not_written = refl;
      three_read = refl;
      three_written = refl;
      three_before = refl;
      many_in_five = refl;
      many_in_six = refl;
    }
