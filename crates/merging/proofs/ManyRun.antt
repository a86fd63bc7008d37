-- What comes out many at once is the rule's run: the same records in the same order, in however many calls. Assumes nothing.
use Prim.Native.Nat.{ℕ, zero, suc, ◌+◌}
use mathlib.Core.Path.{◌≡◌, refl, sym, ap, ◌∙◌}
use mathlib.Core.List.{List, [], ◌∷◌, ◌++◌}
use native.Mathlib.Nat.{zero-add, suc-add}
use lib.ListN.{length}
use lib.IntN.{ℤ}
use Rattle.rules.specs.Answer.{when◌then◌else◌}
use Rattle.rules.specs.Catalogue.{categories}
use Rattle.rules.specs.Merge.{Log, log_a, log_b, Told, next, finished, not_accepted, barred, Span, merge_run}
use Rattle.rules.proofs.AnswerLaws.{Octets}
use Rattle.merging.specs.declared.run.Merge.{Merge}
use Rattle.merging.specs.Run.{move_of, ready, begin_of, moves, moves_of}
use Rattle.merging.specs.Many.{numbers_of, many_of}
use Rattle.merging.proofs.RunLaws.{run_is}

-- ---- the records that numbers tell, six to each: log, length, and the cursor's block, place, end and category

abbrev pub log_at : ℕ → Log
log_at zero = log_a
log_at (suc n) = log_b

abbrev pub spans_of : List ℕ → List (Log × Span)
spans_of (l ∷ n ∷ b ∷ p ∷ e ∷ c ∷ ws) = (log_at l, (p, n)) ∷ spans_of ws
spans_of [] = []
spans_of (l ∷ []) = []
spans_of (l ∷ n ∷ []) = []
spans_of (l ∷ n ∷ b ∷ []) = []
spans_of (l ∷ n ∷ b ∷ p ∷ []) = []
spans_of (l ∷ n ∷ b ∷ p ∷ e ∷ []) = []

-- ---- so many at once are so many steps

module _ (as' bs : List ℕ) where
  abbrev Same : ℕ → Merge → Type 0
  Same k m = spans_of (many_of k as' bs m).numbers ≡ moves k as' bs m

  moves_by : (k : ℕ) (m : Merge) (t : Told) → (move_of as' bs m).told ≡ t → Same k (move_of as' bs m).merge → Same (suc k) m
  unfolding many_of moves when◌then◌else◌
  moves_by k m (next log_a) e ih = rw e (ap (λ z. (log_a, ((move_of as' bs m).at.place, (move_of as' bs m).size)) ∷ z) ih)
  moves_by k m (next log_b) e ih = rw e (ap (λ z. (log_b, ((move_of as' bs m).at.place, (move_of as' bs m).size)) ∷ z) ih)
  moves_by k m finished e ih = rw e
  moves_by k m (not_accepted l n p) e ih = rw e
  moves_by k m (barred n) e ih = rw e

  pub many_moves : (k : ℕ) (m : Merge) → Same k m
  unfolding many_of moves
  many_moves zero m = refl
  many_moves (suc k) m = moves_by k m (move_of as' bs m).told refl (many_moves k (move_of as' bs m).merge)

  -- from the beginning, with room for all, it is the rule's run
  pub many_run : (o : ℤ) (m : Merge) → Octets as' → Octets bs → begin_of as' bs o ≡ ready m
      → spans_of (many_of (length as' + length bs) as' bs m).numbers ≡ merge_run categories as' bs o
  many_run o m oa ob e = many_moves (length as' + length bs) m ∙ sym (ap (moves_of (length as' + length bs) as' bs) e) ∙ run_is as' bs oa ob o

  -- ---- in two calls as in one

  abbrev Joined : ℕ → ℕ → Merge → Type 0
  Joined j k m = (many_of (j + k) as' bs m).numbers ≡ (many_of j as' bs m).numbers ++ (many_of k as' bs (many_of j as' bs m).merge).numbers

  abbrev Still : Merge → Told → Type 0
  Still m t = (k : ℕ) → (move_of as' bs m).told ≡ t → (many_of k as' bs m).numbers ≡ []

  still_finished : (m : Merge) → Still m finished
  unfolding many_of when◌then◌else◌
  still_finished m zero e = refl
  still_finished m (suc k) e = rw e

  still_closed : (m : Merge) (l : Log) (n p : ℕ) → Still m (not_accepted l n p)
  unfolding many_of when◌then◌else◌
  still_closed m l n p zero e = refl
  still_closed m l n p (suc k) e = rw e

  still_barred : (m : Merge) (n : ℕ) → Still m (barred n)
  unfolding many_of when◌then◌else◌
  still_barred m n zero e = refl
  still_barred m n (suc k) e = rw e

  joined_by : (j k : ℕ) (m : Merge) (t : Told) → (move_of as' bs m).told ≡ t → Joined j k (move_of as' bs m).merge → Joined (suc j) k m
  unfolding many_of when◌then◌else◌
  joined_by j k m (next log_a) e ih = ap (λ n. (many_of n as' bs m).numbers) (suc-add j k) ∙ rw e (ap (λ z. numbers_of 0 (move_of as' bs m).size (move_of as' bs m).at ++ z) ih)
  joined_by j k m (next log_b) e ih = ap (λ n. (many_of n as' bs m).numbers) (suc-add j k) ∙ rw e (ap (λ z. numbers_of 1 (move_of as' bs m).size (move_of as' bs m).at ++ z) ih)
  joined_by j k m finished e ih = still_finished m (suc j + k) e ∙ rw e (sym (still_finished m k e))
  joined_by j k m (not_accepted l n p) e ih = still_closed m l n p (suc j + k) e ∙ rw e (sym (still_closed m l n p k e))
  joined_by j k m (barred n) e ih = still_barred m n (suc j + k) e ∙ rw e (sym (still_barred m n k e))

  pub many_joined : (j k : ℕ) (m : Merge) → Joined j k m
  unfolding many_of
  many_joined zero k m = ap (λ n. (many_of n as' bs m).numbers) (zero-add k)
  many_joined (suc j) k m = joined_by j k m (move_of as' bs m).told refl (many_joined j k (move_of as' bs m).merge)
