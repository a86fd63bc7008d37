-- No two distinct results, nor outputs, satisfy the statement of `next_records`. Assumes nothing.
use Prim.Native.Nat.{ℕ, ◌/◌}
use mathlib.Core.Path.{◌≡◌, sym, ◌∙◌}
use mathlib.Core.List.{List}
use lib.ListN.{length}
use Rattle.rules.specs.Entry.{over}
use Rattle.merging.specs.declared.run.Merge.{Merge}
use Rattle.merging.specs.declared.many.Ran.{Ran}
use Rattle.merging.specs.Many.{many_of, ran_of}

pub one_next_records : (merge : Merge) (log_a log_b out : List ℕ) (a b : Ran) (left right : List ℕ)
    → a ≡ ran_of (many_of (length out / 6) log_a log_b merge) → b ≡ ran_of (many_of (length out / 6) log_a log_b merge)
    → left ≡ over (many_of (length out / 6) log_a log_b merge).numbers out → right ≡ over (many_of (length out / 6) log_a log_b merge).numbers out
    → (a ≡ b) × (left ≡ right)
one_next_records merge log_a log_b out a b left right p q r s = (p ∙ sym q, r ∙ sym s)
