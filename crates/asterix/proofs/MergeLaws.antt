-- The structs that the code makes of a step of two logs, of a run's beginning and of its next records are those of the rule's. Assumes nothing.
use Prim.Native.Nat.{ℕ}
use mathlib.Core.Path.{◌≡◌, refl, sym, ap, ◌∙◌}
use mathlib.Core.List.{List}
use Rattle.std.specs.Prelude.{Result, Option}
use Rattle.rules.specs.Entry.{over}
use Rattle.rules.specs.Merge.{Step}
use Rattle.merging.specs.declared.run.Log as code
use Rattle.merging.specs.declared.run.Log.TheVariants as code-log
use Rattle.merging.specs.declared.run.MergeRefusal.{MergeRefusal}
use Rattle.merging.specs.declared.run.Merge as code-merge
use Rattle.merging.specs.declared.many.Ran.{Ran}
use Rattle.merging.specs.declared.step.Merged.{Merged}
use Rattle.merging.specs.Run.{Begun, begun_of, log_is, digit, digit_of}
use Rattle.merging.specs.Step.{merged_of}
use Rattle.merging.specs.Many.{many_of, ran_of}
use Rattle.asterix.specs.declared.Merge.{Merge}
use Rattle.asterix.specs.declared.MergeNext.{MergeNext}
use Rattle.asterix.specs.Answers.{stepped_by, merge_stepped, merge_out, merge_in, merge_begun, merge_next}

-- the log's number, to the code and to the rules
pub log_digit : (l : code.Log) → digit_of l ≡ digit (log_is l)
log_digit code-log.A = refl
log_digit code-log.B = refl

-- ---- a step: r is what the code has from two places, s what the rule has, and y the case of r

pub stepped : {r y : Result (Option Merged) MergeRefusal} (p q : ℕ) (s : Step) → merged_of p q r ≡ s → r ≡ y → stepped_by (merged_of p q y).told (merged_of p q y) ≡ merge_stepped s
unfolding merge_stepped
stepped p q s h e = ap (λ x. stepped_by (merged_of p q x).told (merged_of p q x)) (sym e) ∙ ap merge_stepped h

-- ---- a run's beginning, likewise

pub begun : {r y : Result code-merge.Merge MergeRefusal} (b : Begun) → begun_of r ≡ b → r ≡ y → merge_begun (begun_of y) ≡ merge_begun b
begun b h e = ap (λ x. merge_begun (begun_of x)) (sym e) ∙ ap merge_begun h

-- ---- its next records

pub next_made : (m : Merge) (n : code-merge.Merge) → n ≡ merge_in m → (k : ℕ) (as' bs old out : List ℕ) (r : Ran) (z : Merge)
    → r ≡ ran_of (many_of k as' bs n) → out ≡ over (many_of k as' bs n).numbers old → z ≡ merge_out r.merge
    → (◌≡◌ {A = MergeNext} (record { count = r.count; merge = z }) (merge_next (many_of k as' bs (merge_in m)))) × (out ≡ over (many_of k as' bs (merge_in m)).numbers old)
unfolding merge_next
next_made m n p k as' bs old out r z f g e = (
  ap (λ w. record { count = r.count; merge = w }) e
      ∙ ap (λ w. record { count = w.count; merge = merge_out w.merge }) f
      ∙ ap (λ w. merge_next (many_of k as' bs w)) p,
  g ∙ ap (λ w. over (many_of k as' bs w).numbers old) p,
)
