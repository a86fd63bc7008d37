-- The struct that an answer on exercise sheets makes, for C and Rust, as `Answers` has the others. Assumes nothing.
use Rattle.std.specs.Prelude.{ℕ, not, List, eqb, pos, length, Option, Some, None, Result, Ok, Err}
use Rattle.rules.specs.Answer.{Answer, ok, refused, when◌then◌else◌}
use Rattle.rules.specs.Sheet.{Sheet}
use Rattle.rules.specs.declared.Mark.{Mark}
use Rattle.rules.specs.declared.faults.Refusal.{Refusal}
use Rattle.rules.specs.Told.{number_of}
use Rattle.marks.specs.declared.Lists.{Lists}
use Rattle.marks.specs.Lists.{lists_of}
use Rattle.asterix.specs.declared.sheet.Marks.{Marks}
use Rattle.asterix.specs.declared.sheet.SheetRead.{SheetRead}
use Rattle.asterix.specs.declared.sheet.MarkFound.{MarkFound}
use Rattle.asterix.specs.declared.sheet.SheetWritten.{SheetWritten}

-- ---- reading

abbrev pub marks_out : Lists → Marks
marks_out c = record { base = c.base; first = c.first; count = c.count; split = (when c.split then 1 else 0) }

abbrev pub marks_in : Marks → Lists
marks_in m = record { split = not (eqb m.split 0); base = m.base; first = m.first; count = m.count }

-- the marks lie from a sheet's fourteenth byte on
unfoldable pub sheet_told : Answer Sheet → SheetRead
sheet_told (ok s) = record { number = 0; edition = s.edition.byte; place = 0; offset = s.offset; marks = marks_out (lists_of s.edition.split 14 s.marks) }
sheet_told (refused n p) = record { number = n; edition = 0; place = p; offset = pos 0; marks = record { base = 0; first = 0; count = 0; split = 0 } }

-- ---- marks by their numbers

unfoldable pub mark_found : Option Mark → MarkFound
mark_found (Some m) = record { found = 1; mark = m }
mark_found None = record { found = 0; mark = record { log = 0; place = 0; station = 0; comment = 0 } }

-- ---- writing and changing

abbrev pub written_by : Result ℕ Refusal → SheetWritten
written_by (Ok n) = record { number = 0; place = 0; length = n }
written_by (Err r) = record { number = number_of r.fault; place = r.place; length = 0 }

-- how many bytes the sheet has
unfoldable pub sheet_written : Answer (List ℕ) → SheetWritten
sheet_written (ok bs) = record { number = 0; place = 0; length = length bs }
sheet_written (refused n p) = record { number = n; place = p; length = 0 }
