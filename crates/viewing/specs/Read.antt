-- What the answers of reading a sheet mean, in the papers' numbers. Assumes nothing.
use Rattle.std.specs.Prelude.{ℕ, Bool, true, false, List, Result, Ok, Err}
use Rattle.rules.specs.Answer.{Answer, ok, refused}
use Rattle.rules.specs.Told.{number_of, told}
use Rattle.rules.specs.declared.faults.Fault.{Fault}
use Rattle.rules.specs.declared.faults.Refusal.{Refusal}
use Rattle.rules.specs.declared.Edition.{Edition}
use Rattle.rules.specs.Sheet.{Sheet}
use Rattle.rules.specs.declared.Mark.{Mark}
use Rattle.marks.specs.Lists.{lists_of, tally}
use Rattle.viewing.specs.declared.Marked.{Marked}
use Rattle.viewing.specs.declared.View.{View}

-- an answer's value, put another way
unfoldable pub fmap : {A B : Type 0} → (A → B) → Answer A → Answer B
fmap f (ok a) = ok (f a)
fmap f (refused n p) = refused n p

-- what a reading rule reads, without what follows
abbrev pub value : {A : Type 0} → Answer (A × List ℕ) → Answer A
value r = fmap (λ x. x.0) r

-- what is answered by a field, which is at fault at its start alone
abbrev pub begun : {A : Type 0} → Result A Fault → Answer A
begun (Ok a) = ok a
begun (Err e) = refused (number_of e) 0

abbrev pub edition_answer : Result Edition Fault → Answer Edition
edition_answer r = begun r

-- how long the field of totals is
abbrev pub totals_size : Bool → ℕ
totals_size true = 15
totals_size false = 0

-- what is told of marks, with a key that is looked for; they lie from a sheet's fourteenth byte on
abbrev pub marked_of : ℕ → Bool → List Mark → Marked
marked_of k t ms = record { lists = lists_of t 14 ms; tally = tally k ms }

abbrev pub view_of : ℕ → Sheet → View
view_of k s = record { edition = s.edition; offset = s.offset; lists = lists_of s.edition.split 14 s.marks; tally = tally k s.marks }

abbrev pub view_answer : Result View Refusal → Answer View
view_answer r = told r
