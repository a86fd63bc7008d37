-- No two distinct results satisfy the statement of `lay_sheet`: neither its answer, nor what the output then holds. Assumes nothing.
use Prim.Native.Nat.{ℕ}
use mathlib.Core.Path.{◌≡◌, sym, ◌∙◌}
use mathlib.Core.List.{List}
use lib.ListN.{length}
use Rattle.rules.specs.Answer.{ok}
use Rattle.rules.specs.declared.Edition.{Edition}
use Rattle.rules.specs.SheetChange.{fitted}
use Rattle.marks.specs.declared.NewList.{NewList}
use Rattle.marks.specs.Lists.{new_count, new_at}
use Rattle.std.specs.Prelude.{Result}
use Rattle.rules.specs.declared.faults.Refusal.{Refusal}
use Rattle.rules.proofs.ToldLaws.{one_told}
use Rattle.laying.specs.Lay.{new_bytes, Wrote}

pub one_lay_sheet : (list : NewList) (first : ℕ) (edition : Edition) (code : ℕ) (out : List ℕ) (a b : Result ℕ Refusal) (left right : List ℕ)
    → Wrote a (fitted (length out) (ok (new_bytes edition code (new_at list.change list.lists list.bytes.now) (new_count list.change list.lists) first))) out left
    → Wrote b (fitted (length out) (ok (new_bytes edition code (new_at list.change list.lists list.bytes.now) (new_count list.change list.lists) first))) out right → (a ≡ b) × (left ≡ right)
one_lay_sheet list first edition code out a b left right p q = (one_told a b (p.0 ∙ sym q.0), p.1 ∙ sym q.1)
