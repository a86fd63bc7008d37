-- What the code answers, in the rules' words: a value; or why not, by its number (document 01, "Refusal numbers"; document 02, W-201, W-203, W-208), and
-- where. Assumes nothing.
use Rattle.std.specs.Prelude.{ℕ, ◌+◌, Result, Ok, Err}
use Rattle.rules.specs.Answer.{Answer, ok, refused}
use Rattle.rules.specs.declared.faults.Fault.{Fault}
use Rattle.rules.specs.declared.faults.Fault.TheVariants as fault
use Rattle.rules.specs.declared.faults.Refusal.{Refusal}

abbrev pub number_of : Fault → ℕ
number_of fault.HeadCut = 1
number_of fault.CategoryUnknown = 2
number_of fault.LengthWrong = 3
number_of fault.BlockEmpty = 4
number_of fault.FspecCut = 5
number_of fault.FxPastEnd = 6
number_of fault.NothingNamed = 7
number_of fault.NotUsable = 8
number_of fault.ItemCut = 9
number_of fault.LengthTooSmall = 10
number_of fault.FieldBarred = 11
number_of fault.TypeAbsent = 12
number_of fault.TypeUnknown = 13
number_of fault.ItemMissing = 14
number_of fault.ItemNotSent = 15
number_of fault.NoRoom = 16
number_of fault.BlockTooLong = 17
number_of fault.BytesLeft = 18
number_of fault.RecordNotThere = 19
number_of fault.ItemNotThere = 20
number_of fault.ReferenceUnknown = 21
number_of fault.OffsetRange = 22
number_of fault.PlaceInside = 23
number_of fault.SheetCut = 30
number_of fault.TagWrong = 31
number_of fault.BodyLength = 32
number_of fault.ValueBarred = 33
number_of fault.TooManyMarks = 34
number_of fault.MarkTaken = 35
number_of fault.MarkNotThere = 36
number_of fault.TotalsDiffer = 37

-- the same fault, so many octets further on
abbrev pub moved : ℕ → Refusal → Refusal
moved k r = record { fault = r.fault; place = k + r.place }

-- a refusal, of anything
abbrev pub refusal_of : {A : Type 0} → Refusal → Answer A
refusal_of r = refused (number_of r.fault) r.place

-- what a call answers, its value in the rules' words
abbrev pub told_as : {A B : Type 0} → (A → B) → Result A Refusal → Answer B
told_as f (Ok a) = ok (f a)
told_as f (Err r) = refusal_of r

abbrev pub told : {A : Type 0} → Result A Refusal → Answer A
told (Ok a) = ok a
told (Err r) = refusal_of r

-- the same of what can be refused at its start alone
abbrev pub begun_as : {A B : Type 0} → (A → B) → Result A Fault → Answer B
begun_as f (Ok a) = ok (f a)
begun_as f (Err e) = refused (number_of e) 0
