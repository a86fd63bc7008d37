-- Of the functions of two logs no two distinct results, nor outputs, meet their statements: every member of each struct is fixed; nor of what makes a run of C
-- the code's own, and back. Assumes nothing.
use Prim.Native.Nat.{ℕ, ◌/◌}
use mathlib.Core.Path.{◌≡◌, sym, ◌∙◌}
use mathlib.Core.List.{List}
use lib.IntN.{ℤ}
use lib.ListN.{length}
use Rattle.rules.specs.Catalogue.{categories}
use Rattle.rules.specs.Entry.{over}
use Rattle.rules.specs.Merge.{merge_step}
use Rattle.merging.specs.declared.heads.Standing.{Standing}
use Rattle.merging.specs.declared.run.Merge as code-merge
use Rattle.merging.specs.Run.{begin_of}
use Rattle.merging.specs.Many.{many_of}
use Rattle.asterix.specs.declared.MergeStepped.{MergeStepped}
use Rattle.asterix.specs.declared.MergeHead.{MergeHead}
use Rattle.asterix.specs.declared.Merge.{Merge}
use Rattle.asterix.specs.declared.MergeBegun.{MergeBegun}
use Rattle.asterix.specs.declared.MergeNext.{MergeNext}
use Rattle.asterix.specs.Answers.{merge_stepped, head_out, head_in, merge_out, merge_in, merge_begun, merge_next}

pub one_merge_step : (log_a log_b : List ℕ) (place_a place_b : ℕ) (offset : ℤ) (a b : MergeStepped)
    → a ≡ merge_stepped (merge_step categories log_a log_b place_a place_b offset) → b ≡ merge_stepped (merge_step categories log_a log_b place_a place_b offset) → a ≡ b
one_merge_step log_a log_b place_a place_b offset a b p q = p ∙ sym q

pub one_begin_merge : (log_a log_b : List ℕ) (offset : ℤ) (a b : MergeBegun)
    → a ≡ merge_begun (begin_of log_a log_b offset) → b ≡ merge_begun (begin_of log_a log_b offset) → a ≡ b
one_begin_merge log_a log_b offset a b p q = p ∙ sym q

pub one_next_merged_words : (log_a log_b : List ℕ) (merge : Merge) (out : List ℕ) (a b : MergeNext) (left right : List ℕ)
    → a ≡ merge_next (many_of (length out / 6) log_a log_b (merge_in merge)) → b ≡ merge_next (many_of (length out / 6) log_a log_b (merge_in merge))
    → left ≡ over (many_of (length out / 6) log_a log_b (merge_in merge)).numbers out → right ≡ over (many_of (length out / 6) log_a log_b (merge_in merge)).numbers out
    → (a ≡ b) × (left ≡ right)
one_next_merged_words log_a log_b merge out a b left right p q r s = (p ∙ sym q, r ∙ sym s)

-- ---- a run of C as the code has it, and back

pub one_merge_head_from : (standing : Standing) (a b : MergeHead) → a ≡ head_out standing → b ≡ head_out standing → a ≡ b
one_merge_head_from standing a b p q = p ∙ sym q

pub one_merging_standing_from : (head : MergeHead) (a b : Standing) → a ≡ head_in head → b ≡ head_in head → a ≡ b
one_merging_standing_from head a b p q = p ∙ sym q

pub one_merge_from : (merge : code-merge.Merge) (a b : Merge) → a ≡ merge_out merge → b ≡ merge_out merge → a ≡ b
one_merge_from merge a b p q = p ∙ sym q

pub one_merging_merge_from : (merge : Merge) (a b : code-merge.Merge) → a ≡ merge_in merge → b ≡ merge_in merge → a ≡ b
one_merging_merge_from merge a b p q = p ∙ sym q
