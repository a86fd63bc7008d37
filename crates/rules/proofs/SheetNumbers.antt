-- Numbers of W-203 (document 02), shown of the rules themselves: the five that the readings of document 02 have of sheets, as of edition 1; each refusal with its place; the bytes
-- of a sheet; what is added, removed and emptied, and what a second buffer then holds. An edit of a rule is refused at them. Assumes nothing.
use Prim.Native.Nat.{ℕ}
use mathlib.Core.Path.{◌≡◌, refl}
use mathlib.Core.List.{List, [], ◌∷◌, ◌++◌}
use lib.IntN.{ℤ, pos, negsuc}
use Rattle.rules.specs.Answer.{Answer, ok, refused, ◌>>=◌, need◌or◌then◌, when◌then◌else◌, later}
use Rattle.rules.specs.Entry.{leaves}
use Rattle.rules.specs.declared.Mark.{Mark}
use Rattle.rules.specs.Mark.{number4, bytes4, mark_bytes, mark_in, mark_fits, marks_bytes, marks_in, rising}
use Rattle.rules.specs.SheetForm.{Form, one, form}
use Rattle.rules.specs.Sheet.{Sheet, edition_of, field_bytes, held_bytes, fields_bytes, sheet_bytes, told_edition, write_sheet, field_length, read_field, read_edition, read_offset, read_list, read_held, read_fields, read_sheet}
use Rattle.rules.specs.SheetChange.{has, insert, without, sheet_add, sheet_remove, sheet_empty, back_of, at_start, write_marks, fitted}

-- ---- the sheets

-- tags 1 and 2: an edition, and the four bytes of an offset
abbrev start : ℕ → List ℕ → List ℕ
start e o = 1 ∷ 0 ∷ 1 ∷ e ∷ 2 ∷ 0 ∷ 4 ∷ o

-- offset -2
abbrev first : List ℕ
first = start 1 (255 ∷ 255 ∷ 255 ∷ 254 ∷ [])

-- no mark, offset 0
abbrev none : List ℕ
none = start 1 (0 ∷ 0 ∷ 0 ∷ 0 ∷ 3 ∷ 0 ∷ 0 ∷ [])

abbrev a : Mark
a = record { log = 0; place = 258; station = 5; comment = 9 }

abbrev b : Mark
b = record { log = 1; place = 3; station = 0; comment = 255 }

abbrev bytes_a : List ℕ
bytes_a = 0 ∷ 0 ∷ 1 ∷ 2 ∷ 0 ∷ 5 ∷ 9 ∷ 0 ∷ []

abbrev bytes_b : List ℕ
bytes_b = 0 ∷ 0 ∷ 0 ∷ 3 ∷ 1 ∷ 0 ∷ 255 ∷ 0 ∷ []

-- marks a, b, or both
abbrev with_a : List ℕ
with_a = first ++ (3 ∷ 0 ∷ 8 ∷ bytes_a)

abbrev with_b : List ℕ
with_b = first ++ (3 ∷ 0 ∷ 8 ∷ bytes_b)

abbrev both : List ℕ
both = first ++ (3 ∷ 0 ∷ 16 ∷ (bytes_a ++ bytes_b))

abbrev told : ℤ → List Mark → Sheet
told o ms = record { edition = one; offset = o; marks = ms }

-- one mark's bytes, in a sheet
abbrev marked : List ℕ → List ℕ
marked m = first ++ (3 ∷ 0 ∷ 8 ∷ m)

-- the form with another limit
abbrev few : ℕ → Form
few n = record { limit = n; least = 1; editions = one ∷ [] }

-- ---- the five numbers
pub record Five : Type 0 where
  pub nothing : ◌≡◌ {A = Answer Sheet} (read_sheet form []) (refused 31 0)
  pub one_byte : ◌≡◌ {A = Answer Sheet} (read_sheet form (1 ∷ [])) (refused 30 0)
  pub edition_4 : ◌≡◌ {A = Answer Sheet} (read_sheet form (1 ∷ 0 ∷ 1 ∷ 4 ∷ [])) (refused 33 0)
  pub empty : ◌≡◌ {A = Answer Sheet} (read_sheet form none) (ok (told (pos 0) []))
  pub empty_04 : ◌≡◌ {A = Answer Sheet} (read_sheet form (none ++ (4 ∷ []))) (refused 31 14)
  pub edition_2 : ◌≡◌ {A = Answer Sheet} (read_sheet form (start 2 (0 ∷ 0 ∷ 0 ∷ 0 ∷ 3 ∷ 0 ∷ 0 ∷ []))) (refused 33 0)

pub five : Five
unfolding ◌>>=◌ need◌or◌then◌ when◌then◌else◌ later number4 marks_in edition_of field_length read_field read_edition read_offset read_list read_held read_fields read_sheet
five = record { nothing = refl; one_byte = refl; edition_4 = refl; empty = refl; empty_04 = refl; edition_2 = refl }

-- ---- reading: each refusal with its place
pub record Reads : Type 0 where
  pub accepted : ◌≡◌ {A = Answer Sheet} (read_sheet form both) (ok (told (negsuc 1) (a ∷ b ∷ [])))
  pub other_tag_cut : ◌≡◌ {A = Answer Sheet} (read_sheet form (9 ∷ 0 ∷ 1 ∷ [])) (refused 30 0)
  pub other_tag : ◌≡◌ {A = Answer Sheet} (read_sheet form (9 ∷ 0 ∷ 1 ∷ 1 ∷ [])) (refused 31 0)
  pub edition_length : ◌≡◌ {A = Answer Sheet} (read_sheet form (1 ∷ 0 ∷ 0 ∷ 1 ∷ [])) (refused 32 0)
  pub no_offset : ◌≡◌ {A = Answer Sheet} (read_sheet form (1 ∷ 0 ∷ 1 ∷ 1 ∷ [])) (refused 31 4)
  pub offset_greatest : ◌≡◌ {A = Answer Sheet} (read_sheet form (start 1 (0 ∷ 0 ∷ 180 ∷ 0 ∷ 3 ∷ 0 ∷ 0 ∷ []))) (ok (told (pos 46080) []))
  pub offset_above : ◌≡◌ {A = Answer Sheet} (read_sheet form (start 1 (0 ∷ 0 ∷ 180 ∷ 1 ∷ []))) (refused 33 4)
  pub offset_least : ◌≡◌ {A = Answer Sheet} (read_sheet form (start 1 (255 ∷ 255 ∷ 76 ∷ 0 ∷ 3 ∷ 0 ∷ 0 ∷ []))) (ok (told (negsuc 46079) []))
  pub offset_below : ◌≡◌ {A = Answer Sheet} (read_sheet form (start 1 (255 ∷ 255 ∷ 75 ∷ 255 ∷ []))) (refused 33 4)
  pub no_marks : ◌≡◌ {A = Answer Sheet} (read_sheet form first) (refused 31 11)
  pub part_of_a_mark : ◌≡◌ {A = Answer Sheet} (read_sheet form (first ++ (3 ∷ 0 ∷ 1 ∷ 0 ∷ []))) (refused 32 11)
  pub part_of_many : ◌≡◌ {A = Answer Sheet} (read_sheet (few 0) (first ++ (3 ∷ 0 ∷ 9 ∷ (bytes_a ++ (0 ∷ []))))) (refused 32 11)
  pub too_many : ◌≡◌ {A = Answer Sheet} (read_sheet (few 1) (first ++ (3 ∷ 0 ∷ 16 ∷ (bytes_b ++ bytes_a)))) (refused 34 11)
  pub log_2 : ◌≡◌ {A = Answer Sheet} (read_sheet form (marked (0 ∷ 0 ∷ 1 ∷ 2 ∷ 2 ∷ 5 ∷ 9 ∷ 0 ∷ []))) (refused 33 14)
  pub station_6 : ◌≡◌ {A = Answer Sheet} (read_sheet form (marked (0 ∷ 0 ∷ 1 ∷ 2 ∷ 0 ∷ 6 ∷ 9 ∷ 0 ∷ []))) (refused 33 14)
  pub last_byte : ◌≡◌ {A = Answer Sheet} (read_sheet form (marked (0 ∷ 0 ∷ 1 ∷ 2 ∷ 0 ∷ 5 ∷ 9 ∷ 1 ∷ []))) (refused 33 14)
  pub out_of_order : ◌≡◌ {A = Answer Sheet} (read_sheet form (first ++ (3 ∷ 0 ∷ 16 ∷ (bytes_b ++ bytes_a)))) (refused 33 22)
  pub twice : ◌≡◌ {A = Answer Sheet} (read_sheet form (first ++ (3 ∷ 0 ∷ 16 ∷ (bytes_a ++ bytes_a)))) (refused 33 22)
  pub byte_after : ◌≡◌ {A = Answer Sheet} (read_sheet form (both ++ (0 ∷ []))) (refused 31 30)

pub reads : Reads
unfolding ◌>>=◌ need◌or◌then◌ when◌then◌else◌ later number4 mark_in mark_fits marks_in edition_of field_length read_field read_edition read_offset read_list read_held read_fields read_sheet
reads =
    record {
      accepted = refl;
      other_tag_cut = refl;
      other_tag = refl;
      edition_length = refl;
      no_offset = refl;
      offset_greatest = refl;
      offset_above = refl;
      offset_least = refl;
      offset_below = refl;
      no_marks = refl;
      part_of_a_mark = refl;
      part_of_many = refl;
      too_many = refl;
      log_2 = refl;
      station_6 = refl;
      last_byte = refl;
      out_of_order = refl;
      twice = refl;
      byte_after = refl;
    }

-- ---- writing and changing
pub record Makes : Type 0 where
  pub written : ◌≡◌ {A = Answer (List ℕ)} (write_sheet form 1 (negsuc 1) (a ∷ b ∷ [])) (ok both)
  pub write_edition_2 : ◌≡◌ {A = Answer (List ℕ)} (write_sheet form 2 (negsuc 1) (a ∷ b ∷ [])) (refused 33 0)
  pub write_many_lem : ◌≡◌ {A = Answer (List ℕ)} (write_sheet (few 1) 1 (negsuc 1) (b ∷ a ∷ [])) (refused 34 0)
  pub write_order : ◌≡◌ {A = Answer (List ℕ)} (write_sheet form 1 (negsuc 1) (b ∷ a ∷ [])) (refused 33 0)
  pub write_offset : ◌≡◌ {A = Answer (List ℕ)} (write_sheet form 1 (pos 46081) []) (refused 33 0)
  pub lent : ◌≡◌ {A = Answer (List ℕ)} (write_marks form 1 (negsuc 1) (bytes_a ++ bytes_b)) (ok both)
  pub lent_part : ◌≡◌ {A = Answer (List ℕ)} (write_marks form 1 (negsuc 1) (bytes_a ++ (0 ∷ []))) (refused 33 0)
  pub lent_order : ◌≡◌ {A = Answer (List ℕ)} (write_marks form 1 (negsuc 1) (bytes_b ++ bytes_a)) (refused 33 0)
  pub add_last : ◌≡◌ {A = Answer (List ℕ)} (sheet_add form b with_a) (ok both)
  pub add_first : ◌≡◌ {A = Answer (List ℕ)} (sheet_add form a with_b) (ok both)
  pub add_barred : ◌≡◌ {A = Answer (List ℕ)} (sheet_add form (record { log = 2; place = 258; station = 5; comment = 9 }) both) (refused 33 0)
  pub add_twice : ◌≡◌ {A = Answer (List ℕ)} (sheet_add (few 2) (record { log = 0; place = 258; station = 0; comment = 0 }) both) (refused 35 0)
  pub add_full : ◌≡◌ {A = Answer (List ℕ)} (sheet_add (few 2) (record { log = 0; place = 3; station = 0; comment = 0 }) both) (refused 34 0)
  pub add_unread : ◌≡◌ {A = Answer (List ℕ)} (sheet_add form (record { log = 2; place = 0; station = 0; comment = 0 }) first) (refused 31 11)
  pub remove_last : ◌≡◌ {A = Answer (List ℕ)} (sheet_remove form 1 3 both) (ok with_a)
  pub remove_first : ◌≡◌ {A = Answer (List ℕ)} (sheet_remove form 0 258 both) (ok with_b)
  pub remove_none : ◌≡◌ {A = Answer (List ℕ)} (sheet_remove form 1 258 both) (refused 36 0)
  pub remove_log_2 : ◌≡◌ {A = Answer (List ℕ)} (sheet_remove form 2 3 both) (refused 36 0)
  pub emptied : ◌≡◌ {A = Answer (List ℕ)} (sheet_empty form both) (ok (first ++ (3 ∷ 0 ∷ 0 ∷ [])))
  pub fits : ◌≡◌ {A = Answer (List ℕ)} (fitted 22 (sheet_remove form 1 3 both)) (ok with_a)
  pub no_room : ◌≡◌ {A = Answer (List ℕ)} (fitted 21 (sheet_remove form 1 3 both)) (refused 16 0)
  pub left : ◌≡◌ {A = List ℕ} (leaves (fitted 16 (sheet_empty form none)) (7 ∷ 7 ∷ 7 ∷ 7 ∷ 7 ∷ 7 ∷ 7 ∷ 7 ∷ 7 ∷ 7 ∷ 7 ∷ 7 ∷ 7 ∷ 7 ∷ 7 ∷ 7 ∷ [])) (none ++ (7 ∷ 7 ∷ []))
  pub left_refused : ◌≡◌ {A = List ℕ} (leaves (fitted 2 (sheet_empty form none)) (7 ∷ 7 ∷ [])) (7 ∷ 7 ∷ [])

pub makes : Makes
unfolding ◌>>=◌ need◌or◌then◌ when◌then◌else◌ later number4 bytes4 mark_bytes mark_in mark_fits marks_bytes marks_in rising edition_of field_bytes held_bytes fields_bytes sheet_bytes told_edition write_sheet field_length read_field read_edition read_offset read_list read_held read_fields read_sheet has insert without sheet_add sheet_remove sheet_empty back_of at_start write_marks fitted
makes =
    record {
      written = refl;
      write_edition_2 = refl;
      write_many_lem = refl;
      write_order = refl;
      write_offset = refl;
      lent = refl;
      lent_part = refl;
      lent_order = refl;
      add_last = refl;
      add_first = refl;
      add_barred = refl;
      add_twice = refl;
      add_full = refl;
      add_unread = refl;
      remove_last = refl;
      remove_first = refl;
      remove_none = refl;
      remove_log_2 = refl;
      emptied = refl;
      fits = refl;
      no_room = refl;
      left = refl;
      left_refused = refl;
    }
