-- The run of the state: step by step it hands out what the rule's run hands out. Assumes nothing.
use Prim.Native.Nat.{ℕ, zero, suc, ◌+◌}
use mathlib.Core.Path.{◌≡◌, refl, sym, ap, ap₂, ◌∙◌}
use mathlib.Core.Bool.{Bool, true, false}
use mathlib.Core.Option.{Option, none, some}
use mathlib.Core.List.{List, [], ◌∷◌}
use lib.ListN.{length}
use lib.IntN.{ℤ}
use Rattle.rules.specs.Answer.{Answer, ok, refused, when◌then◌else◌}
use Rattle.rules.specs.Catalogue.{categories}
use Rattle.rules.specs.Entry.{Counts, check_recording}
use Rattle.rules.specs.Merge.{mod_day, Log, log_a, log_b, Head, Span, Checked, accepted, unread, log_of, start_of, from_place, barred, Step, in_range, step_from, with_places, step_of, when_next, steps_of, opening, extent, run_of, merge_run}
use Rattle.rules.proofs.AnswerLaws.{Octets}
use Rattle.rules.proofs.RunLaws.{Rises, from_start, from_next}
use Rattle.rules.proofs.LogLaws.{log_rises}
use Rattle.walking.specs.declared.Cursor.{Cursor}
use Rattle.walking.specs.Walk.{begin}
use Rattle.merging.specs.declared.heads.Standing.{Standing}
use Rattle.merging.specs.declared.run.Merge.{Merge}
use Rattle.merging.specs.Heads.{stand_of, is_head, behind_of, heads_left, head_of, left_of}
use Rattle.merging.specs.Run.{which_of, moved_by, move_of, ready, stopped, begun_by, begin_of, moves, moves_of}
use Rattle.merging.proofs.WhichLaws.{which_head}
use Rattle.merging.proofs.HeadLaws.{left_head, stands}
use Rattle.merging.proofs.LogHeads.{log_on, log_off}
use Rattle.merging.proofs.StepLaws.{next_place, step_by, move_is}

-- ---- a standing among a log's records: from its place come those that it stands for

abbrev On : List ℕ → List Head → Standing → Type 0
On cs hs s = from_place (length cs) s.at.place hs ≡ some (left_of cs s)

-- where a walk stands there come those that it still meets
on_stand : (cs : List ℕ) → Octets cs → (hs : List Head) (c : Cursor) → from_place (length cs) (start_of (length cs) (heads_left cs c)) hs ≡ some (heads_left cs c)
    → On cs hs (stand_of cs c)
on_stand cs oc hs c h =
    ap (λ z. from_place (length cs) z hs) (sym (next_place cs oc c)) ∙ h ∙ ap some (sym (stands cs oc c).is)

on_next : (cs : List ℕ) → Octets cs → (hs : List Head) → Rises (length cs) 0 hs → (s : Standing) → is_head (length cs) s ≡ true → On cs hs s
    → On cs hs (stand_of cs (behind_of s))
on_next cs oc hs r s y h =
    on_stand cs oc hs (behind_of s) (from_next (length cs) 0 s.at.place hs (heads_left cs (behind_of s)) (head_of s) r (h ∙ ap some (left_head cs s y)))

-- ---- the run

-- two logs that are accepted, and an offset in range
module _ (as' bs : List ℕ) (oa : Octets as') (ob : Octets bs) (o : ℤ) (ranged : in_range o ≡ true) (xs ys : List Head) (ra : Rises (length as') 0 xs)
    (rb : Rises (length bs) 0 ys) where
  record Among (m : Merge) : Type 0 where
    pub turned : m.turn ≡ mod_day o
    pub of_a : On as' xs m.a
    pub of_b : On bs ys m.b

  after : (m : Merge) → Among m → Among (move_of as' bs m).merge
  unfolding move_of
  after m g = by (which_of m.turn (length as') m.a (length bs) m.b) refl
    where
      by : (w : Option Log) → which_of m.turn (length as') m.a (length bs) m.b ≡ w → Among (moved_by as' bs m w).merge
      by none e = g
      by (some log_a) e =
          record {
            turned = g.turned;
            of_a = on_next as' oa xs ra m.a (which_head m.turn (length as') m.a (length bs) m.b log_a e) g.of_a;
            of_b = g.of_b;
          }
      by (some log_b) e =
          record {
            turned = g.turned;
            of_a = g.of_a;
            of_b = on_next bs ob ys rb m.b (which_head m.turn (length as') m.a (length bs) m.b log_b e) g.of_b;
          }

  abbrev Runs : ℕ → Merge → Type 0
  Runs k m = moves k as' bs m ≡ steps_of (accepted xs (length as')) (accepted ys (length bs)) o k m.a.at.place m.b.at.place

  runs : (k : ℕ) (m : Merge) → Among m → Runs k m
  unfolding moves steps_of step_of with_places when◌then◌else◌
  runs zero m g = refl
  runs (suc k) m g = rw (ranged, g.of_a, g.of_b) (by (step_from o (length as') (length bs) m.a.at.place m.b.at.place (left_of as' m.a) (left_of bs m.b)) (move_is as' bs oa ob o m g.turned) (runs k (move_of as' bs m).merge (after m g)))
    where
      by : (s : Step) → step_by (move_of as' bs m) ≡ s → Runs k (move_of as' bs m).merge
          → (when_next (move_of as' bs m).told λ l. (l, ((move_of as' bs m).at.place, (move_of as' bs m).size)) ∷ moves k as' bs (move_of as' bs m).merge)
          ≡ (when_next s.told λ l. (l, s.span) ∷ steps_of (accepted xs (length as')) (accepted ys (length bs)) o k s.place_a s.place_b)
      by s e i =
          let f : Step → Log → List (Log × Span) =
          λ z l. (l, z.span) ∷ steps_of (accepted xs (length as')) (accepted ys (length bs)) o k z.place_a z.place_b in
          ap (λ z. when_next (move_of as' bs m).told λ l. (l, ((move_of as' bs m).at.place, (move_of as' bs m).size)) ∷ z) i
          ∙ ap (λ z. when_next z.told (f z)) e

-- ---- from the beginning

module _ (as' bs : List ℕ) (oa : Octets as') (ob : Octets bs) (o : ℤ) where
  -- a log that is not accepted, or an offset out of range, hands out nothing
  none_a : (n p : ℕ) (y : Checked) (k i j : ℕ) → steps_of (unread n p) y o k i j ≡ []
  unfolding steps_of step_of
  none_a n p y zero i j = refl
  none_a n p y (suc k) i j = refl

  none_b : (n p : ℕ) (xs : List Head) (m k i j : ℕ) → steps_of (accepted xs m) (unread n p) o k i j ≡ []
  unfolding steps_of step_of
  none_b n p xs m zero i j = refl
  none_b n p xs m (suc k) i j = refl

  none_22 : in_range o ≡ false → (xs ys : List Head) (m n k i j : ℕ) → steps_of (accepted xs m) (accepted ys n) o k i j ≡ []
  unfolding steps_of step_of when◌then◌else◌
  none_22 e xs ys m n zero i j = refl
  none_22 e xs ys m n (suc k) i j = rw e

  rises : (cs : List ℕ) → Octets cs → (n : Counts) → check_recording categories cs ≡ ok n → Rises (length cs) 0 (heads_left cs begin)
  rises cs oc n h = log_rises categories cs (heads_left cs begin) (length cs) oc (log_on cs oc n h)

  abbrev Rule : Checked → Checked → List (Log × Span)
  Rule u v = steps_of u v o (extent u + extent v) (opening u) (opening v)

  -- the run of the state is the rule's run, refused ones included
  pub run_is : moves_of (length as' + length bs) as' bs (begin_of as' bs o) ≡ merge_run categories as' bs o
  unfolding begin_of merge_run run_of when◌then◌else◌
  run_is = by (check_recording categories as') (check_recording categories bs) refl refl
    where
      opens : (x y : Counts) → check_recording categories as' ≡ ok x → check_recording categories bs ≡ ok y → (t : Bool) → in_range o ≡ t
          → moves_of (length as' + length bs) as' bs (when t then ready (record { a = stand_of as' begin; b = stand_of bs begin; turn = mod_day o }) else stopped (barred 22))
          ≡ Rule (log_of categories as') (log_of categories bs)
      opens x y ea eb true e =
          let hs : List Head = heads_left as' begin in
          let js : List Head = heads_left bs begin in
          runs as' bs oa ob o e hs js (rises as' oa x ea) (rises bs ob y eb) (length as' + length bs) (record { a = stand_of as' begin; b = stand_of bs begin; turn = mod_day o })
          (record {
            turned = refl;
            of_a = on_stand as' oa hs begin (from_start (length as') hs);
            of_b = on_stand bs ob js begin (from_start (length bs) js);
          })
          ∙ ap₂ (λ p q. steps_of (accepted hs (length as')) (accepted js (length bs)) o (length as' + length bs) p q) (sym (next_place as' oa begin)) (sym (next_place bs ob begin))
          ∙ sym (ap₂ Rule (log_on as' oa x ea) (log_on bs ob y eb))
      opens x y ea eb false e = sym (ap₂ Rule (log_on as' oa x ea) (log_on bs ob y eb) ∙ none_22 e _ _ _ _ _ _ _)

      by : (x y : Answer Counts) → check_recording categories as' ≡ x → check_recording categories bs ≡ y
          → moves_of (length as' + length bs) as' bs (begun_by as' bs o x y) ≡ Rule (log_of categories as') (log_of categories bs)
      by (refused n p) y ea eb = sym (ap (λ u. Rule u (log_of categories bs)) (log_off as' n p ea) ∙ none_a n p (log_of categories bs) _ _ _)
      by (ok x) (refused n p) ea eb = sym (ap₂ Rule (log_on as' oa x ea) (log_off bs n p eb) ∙ none_b n p _ _ _ _ _)
      by (ok x) (ok y) ea eb = opens x y ea eb (in_range o) refl
