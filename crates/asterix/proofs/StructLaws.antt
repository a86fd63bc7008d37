-- The struct that the code makes of an answer in hand, by what it says, and that it is the struct of the rules' answer.
--
-- In order: a case of an answer; checking; finding; one item; adding a record. Assumes nothing.
use Prim.Native.Nat.{ℕ}
use mathlib.Core.Path.{◌≡◌, refl, sym, ap, ◌∙◌}
use mathlib.Core.Bool.{Bool, true, false}
use mathlib.Core.List.{List}
use lib.IntN.{ℤ}
use mir.Val.{bool_byte}
use Rattle.rules.specs.Answer.{Answer, ok, refused, ◌>>=◌, when◌then◌else◌}
use lib.ListN.{replicate}
use Rattle.rules.specs.Entry.{map_places, Counts, RecordMap, Laid, Added, added, refused_old, refused_new}
use Rattle.items.specs.Answers.{read_of, count_of}
use Rattle.writing.specs.Item.{written_as}
use Rattle.std.specs.Prelude.{Result}
use Rattle.rules.specs.Told.{told}
use Rattle.rules.specs.declared.faults.Refusal.{Refusal}
use Rattle.blocks.specs.Answers.{checked_of}
use Rattle.finding.specs.Found.{found_in, Located, item_place_of, item_span}
use Rattle.adding.specs.Added.{added_of, added_as}
use Rattle.finding.specs.declared.find.RecordFound as code
use Rattle.finding.specs.declared.find.Span.{Span}
use Rattle.adding.specs.declared.add.AddRefusal.{AddRefusal}
use Rattle.recordings.specs.Answers.{counts_of}
use Rattle.recordings.specs.declared.Counts as code-counts
use Rattle.asterix.specs.declared.RecordFound.{RecordFound}
use Rattle.asterix.specs.declared.ItemFound.{ItemFound}
use Rattle.asterix.specs.declared.ItemRead.{ItemRead}
use Rattle.asterix.specs.declared.ItemWritten.{ItemWritten}
use Rattle.asterix.specs.declared.RecordAdded.{RecordAdded}
use Rattle.asterix.specs.Answers.{block_checked, recording_checked, record_found, item_found, item_read, item_written, record_added}

-- an answer whose struct is s, and which is the case y: y makes s
in_case : {A S : Type 0} (f : A → S) {x y : A} {s : S} → f x ≡ s → x ≡ y → f y ≡ s
in_case f h e = sym (ap f e) ∙ h

-- a flag as C has it
pub flag_is : (t : Bool) → bool_byte t ≡ (when t then 1 else 0)
unfolding when◌then◌else◌
flag_is true = refl
flag_is false = refl

-- ---- checking

pub block_checked_lem : {r y : Result ℕ Refusal} (a : Answer ℕ) → checked_of r ≡ a → r ≡ y → block_checked (checked_of y) ≡ block_checked a
block_checked_lem a h e = in_case (λ x. block_checked (checked_of x)) (ap block_checked h) e

pub recording_checked_lem : {r y : Result code-counts.Counts Refusal} (a : Answer Counts) → counts_of r ≡ a → r ≡ y → recording_checked (counts_of y) ≡ recording_checked a
recording_checked_lem a h e = in_case (λ x. recording_checked (counts_of x)) (ap recording_checked h) e

-- ---- finding

abbrev pub record_by : Answer code.RecordFound → RecordFound
record_by (ok f) = record { number = 0; place = 0; start = f.start; length = f.length; end = f.map.end; count = f.map.count; starts = f.map.starts }
record_by (refused n p) = record { number = n; place = p; start = 0; length = 0; end = 0; count = 0; starts = replicate map_places 0 }

record_by_lem : (a : Answer RecordMap) → record_by (found_in a) ≡ record_found a
unfolding record_found
record_by_lem (ok m) = refl
record_by_lem (refused n p) = refl

pub record_found_lem : {r y : Result code.RecordFound Refusal} (a : Answer RecordMap) → Located r a → r ≡ y → record_by (told y) ≡ record_found a
record_found_lem a h e = in_case (λ x. record_by (told x)) (ap record_by h ∙ record_by_lem a) e

abbrev pub item_by : Answer (ℕ × ℕ) → ItemFound
item_by (ok s) = record { number = 0; place = 0; start = s.0; length = s.1 }
item_by (refused n p) = record { number = n; place = p; start = 0; length = 0 }

item_by_lem : (a : Answer Laid) → item_by (item_span a) ≡ item_found a
unfolding item_found
item_by_lem (ok l) = refl
item_by_lem (refused n p) = refl

pub item_found_lem : {r y : Result Span Refusal} (a : Answer Laid) → item_place_of r ≡ item_span a → r ≡ y → item_by (item_place_of y) ≡ item_found a
item_found_lem a h e = in_case (λ x. item_by (item_place_of x)) (ap item_by h ∙ item_by_lem a) e

-- ---- one item

abbrev pub read_by : Answer ℕ → ItemRead
read_by (ok n) = record { number = 0; place = 0; count = n }
read_by (refused n p) = record { number = n; place = p; count = 0 }

read_by_lem : (a : Answer (List ℤ)) → read_by (count_of a) ≡ item_read a
unfolding item_read count_of ◌>>=◌
read_by_lem (ok fs) = refl
read_by_lem (refused n p) = refl

pub item_read_lem : {r y : Result ℕ Refusal} (a : Answer (List ℤ)) → read_of r ≡ count_of a → r ≡ y → read_by (read_of y) ≡ item_read a
item_read_lem a h e = in_case (λ x. read_by (read_of x)) (ap read_by h ∙ read_by_lem a) e

abbrev pub written_by : Answer ℕ → ItemWritten
written_by (ok n) = record { number = 0; place = 0; length = n }
written_by (refused n p) = record { number = n; place = p; length = 0 }

written_by_lem : (a : Answer (List ℕ)) → written_by (count_of a) ≡ item_written a
unfolding item_written count_of ◌>>=◌
written_by_lem (ok bs) = refl
written_by_lem (refused n p) = refl

pub item_written_lem : {r y : Result ℕ Refusal} (a : Answer (List ℕ)) → written_as r ≡ count_of a → r ≡ y → written_by (written_as y) ≡ item_written a
item_written_lem a h e = in_case (λ x. written_by (written_as x)) (ap written_by h ∙ written_by_lem a) e

-- ---- adding a record

-- 1 where the place lies in the new items
abbrev pub flag_of : Bool → ℕ
flag_of false = 0
flag_of true = 1

abbrev pub added_by : Answer ℕ × Bool → RecordAdded
added_by (ok n, t) = record { number = 0; in_new = flag_of t; place = 0; length = n }
added_by (refused n p, t) = record { number = n; in_new = flag_of t; place = p; length = 0 }

added_by_lem : (a : Added) → added_by (added_as a) ≡ record_added a
unfolding record_added
added_by_lem (added bs) = refl
added_by_lem (refused_old n p) = refl
added_by_lem (refused_new n p) = refl

pub record_added_lem : {r y : Result ℕ AddRefusal} (a : Added) → added_of r ≡ added_as a → r ≡ y → added_by (added_of y) ≡ record_added a
record_added_lem a h e = in_case (λ x. added_by (added_of x)) (ap added_by h ∙ added_by_lem a) e
