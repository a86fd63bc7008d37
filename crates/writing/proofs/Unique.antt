-- No two distinct results meet the statement of `write_item`: what an answer means says which answer it is. Assumes nothing.
use Prim.Native.Nat.{ℕ}
use mathlib.Core.Path.{◌≡◌, sym, ◌∙◌}
use mathlib.Core.List.{List}
use lib.IntN.{ℤ}
use lib.ListN.{length}
use Rattle.std.specs.Prelude.{Result}
use Rattle.rules.specs.declared.faults.Refusal.{Refusal}
use Rattle.rules.proofs.ToldLaws.{one_told}
use Rattle.rules.specs.Catalogue.{categories}
use Rattle.rules.specs.Entry.{write_one, leaves}
use Rattle.items.specs.Answers.{count_of}
use Rattle.writing.specs.Item.{written_as}

-- the answer, and what the output then holds
pub one_write_item : (category reference : ℕ) (fields : List ℤ) (out : List ℕ) (a b : Result ℕ Refusal) (left right : List ℕ)
    → written_as a ≡ count_of (write_one categories category reference fields (length out)) → left ≡ leaves (write_one categories category reference fields (length out)) out
    → written_as b ≡ count_of (write_one categories category reference fields (length out)) → right ≡ leaves (write_one categories category reference fields (length out)) out
    → (a ≡ b) × (left ≡ right)
one_write_item category reference fields out a b left right p l q r = (one_told a b (p ∙ sym q), l ∙ sym r)
