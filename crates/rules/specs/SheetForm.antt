-- The form of an exercise sheet as data (document 02, W-203): what a mark may have, what a field may hold, the fields of an edition in order, the editions, and how
-- many marks a sheet may have. The rules (`Sheet`, `SheetChange`) go by the data, and their laws hold of any form. Assumes nothing.
--
-- Of the two columns of an edition one is for W-211 and one for W-208: each request is then a row. No edition in force has either.
use Rattle.std.specs.Prelude.{ℕ, Bool, true, false, List, [], ◌∷◌, ◌++◌}
use Rattle.rules.specs.declared.Edition.{Edition}
use Rattle.rules.specs.declared.Shape.{Shape}
use Rattle.rules.specs.declared.Shape.TheVariants.{Whole, InLog}

-- ---- a mark: its place in the log, four bytes; then a byte each its log, its station, any comment code, and zero

abbrev pub last_log : ℕ
last_log = 1

abbrev pub last_station : ℕ
last_station = 5

-- ---- the fields

-- every sheet starts with its edition, one byte, and the clock offset, four bytes two's complement
abbrev pub edition_tag : ℕ
edition_tag = 1

abbrev pub offset_tag : ℕ
offset_tag = 2

-- what a field after these holds: a list of marks, each of a shape; or the totals of the stations
pub data Holds : Type 0 where
  the_marks : Shape → Holds
  the_totals : Holds

pub record Tagged : Type 0 where
  pub tag : ℕ
  pub holds : Holds

-- the marks: in one list, or in one for each log
abbrev pub mark_fields : Bool → List Tagged
mark_fields false = record { tag = 3; holds = the_marks Whole } ∷ []
mark_fields true = record { tag = 5; holds = the_marks (InLog 0) } ∷ record { tag = 6; holds = the_marks (InLog 1) } ∷ []

abbrev pub total_fields : Bool → List Tagged
total_fields false = []
total_fields true = record { tag = 4; holds = the_totals } ∷ []

-- the fields of an edition, in order
abbrev pub fields : Edition → List Tagged
fields e = mark_fields e.split ++ total_fields e.totals

-- ---- the form: how many marks a sheet may have; the least edition that is written, which a sheet of a lower one is written back as; the editions
pub record Form : Type 0 where
  pub limit : ℕ
  pub least : ℕ
  pub editions : List Edition

-- edition 1: tags 1, 2, 3
abbrev pub one : Edition
one = record { byte = 1; split = false; totals = false }

-- THE FORM IN FORCE
abbrev pub form : Form
form = record { limit = 200; least = 1; editions = one ∷ [] }
