-- What the answers of the functions on sheets mean, in the rules' words. Assumes nothing.
use Rattle.rules.specs.Answer.{Answer, ok, refused}
use Rattle.rules.specs.Sheet.{Sheet}
use Rattle.marks.specs.Lists.{lists_of}
use Rattle.sheets.specs.declared.SheetRead.{SheetRead}

-- what is told of a sheet; its marks lie from its fourteenth byte on
unfoldable pub sheet_read : Answer Sheet → Answer SheetRead
sheet_read (ok s) = ok (record { edition = s.edition.byte; offset = s.offset; marks = lists_of s.edition.split 14 s.marks })
sheet_read (refused n p) = refused n p
