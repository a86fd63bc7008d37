-- What is laid into a lent output, and what the answer then is. Assumes nothing.
use Rattle.std.specs.Prelude.{ℕ, ◌+◌, ◌-◌, ◌*◌, ◌/◌, ◌%◌, ◌≡◌, Bool, true, false, List, [], ◌∷◌, ◌++◌, length, Result}
use Rattle.rules.specs.Answer.{Answer, ok, refused}
use Rattle.rules.specs.Entry.{leaves}
use Rattle.rules.specs.declared.Shape.TheVariants.{Whole, InLog}
use Rattle.rules.specs.Told.{told}
use Rattle.rules.specs.declared.faults.Refusal.{Refusal}
use Rattle.rules.specs.declared.Edition.{Edition}
use Rattle.rules.specs.declared.Mark.{Mark}
use Rattle.rules.specs.Mark.{bytes4, marks_bytes}
use Rattle.rules.specs.Sheet.{field_bytes}
use Rattle.rules.proofs.SheetSteps.{totals_fields}
use Rattle.marks.specs.Lists.{span}

-- the head of a field
unfoldable pub head_bytes : ℕ → ℕ → List ℕ
head_bytes t n = t ∷ n / 256 ∷ n % 256 ∷ []

-- ---- a sheet of n marks, numbered, the first so many of them log 0's
abbrev pub lists_size : Bool → ℕ → ℕ
lists_size true n = 6 + n * 7
lists_size false n = 3 + n * 8

unfoldable pub lists_bytes : Bool → (ℕ → Mark) → ℕ → ℕ → List ℕ
lists_bytes true nth n first = field_bytes 5 (marks_bytes (InLog 0) (span nth 0 (first - 0))) ++ field_bytes 6 (marks_bytes (InLog 1) (span nth first (n - first)))
lists_bytes false nth n first = field_bytes 3 (marks_bytes Whole (span nth 0 (n - 0)))

unfoldable pub new_bytes : Edition → ℕ → (ℕ → Mark) → ℕ → ℕ → List ℕ
new_bytes e code nth n first =
    (field_bytes 1 (e.byte ∷ []) ++ field_bytes 2 (bytes4 code)) ++ (lists_bytes e.split nth n first ++ totals_fields e.totals (span nth 0 n))

-- ---- the answer: how many bytes the sheet has
abbrev pub written_of : Answer (List ℕ) → Answer ℕ
written_of (ok bs) = ok (length bs)
written_of (refused n p) = refused n p

-- … and what the output then holds, of what was to be written
abbrev pub Wrote : Result ℕ Refusal → Answer (List ℕ) → List ℕ → List ℕ → Type 0
Wrote r m old new = (told r ≡ written_of m) × (new ≡ leaves m old)
