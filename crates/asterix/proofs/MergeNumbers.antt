-- What the structs of two logs tell: `number` is 0 exactly where nothing was refused; a log's own refusal has 1 to 21, the others 22 and 23. Assumes
-- nothing.
use Prim.Native.Nat.{ℕ, ◌≤◌}
use mathlib.Core.Path.{◌≡◌, refl, subst}
use mathlib.Core.Bool.{Bool, true, false}
use mathlib.Core.Option.{Option, none, some}
use mathlib.Core.List.{List, [], ◌∷◌}
use native.Mathlib.Omega.{arith}
use lib.Dec.{T, leb, leb→le}
use lib.IntN.{ℤ}
use lib.ListN.{length}
use Rattle.rules.specs.Answer.{Answer, ok, refused, when◌then◌else◌}
use Rattle.rules.specs.Block.{Block}
use Rattle.rules.specs.Recording.{read_recording}
use Rattle.rules.specs.Catalogue.{categories}
use Rattle.rules.specs.Entry.{check_recording}
use Rattle.rules.specs.Merge.{Log, log_a, log_b, choose, first, Head, Checked, accepted, unread, checked_as, log_of, Told, next, finished, not_accepted, barred, Step, stay, goes, in_range, start_of, from_place, step_from, with_places, step_of, merge_step}
use Rattle.rules.proofs.AnswerLaws.{bind_out, Octets}
use Rattle.merging.specs.declared.run.Merge.{Merge}
use Rattle.merging.specs.Run.{Begun, ready, stopped, begun_by, begin_of}
use Rattle.rules.specs.Entry.{Counts}
use Rattle.asterix.specs.declared.MergeStepped.{MergeStepped}
use Rattle.asterix.specs.declared.MergeBegun.{MergeBegun}
use Rattle.asterix.specs.Answers.{merge_stepped, merge_begun}
use Rattle.asterix.proofs.NumberLaws.{recording_checked_lem, T-both}

-- ---- what a step says

abbrev Tells : Told → Type 0
Tells (next l) = Unit {0}
Tells finished = Unit {0}
Tells (not_accepted l n p) = (1 ≤ n) × (n ≤ 21)
Tells (barred n) = (22 ≤ n) × (n ≤ 23)

abbrev Refuses : Checked → Type 0
Refuses (accepted xs m) = Unit {0}
Refuses (unread n p) = (1 ≤ n) × (n ≤ 21)

log_numbered : (bs : List ℕ) → Octets bs → Refuses (log_of categories bs)
unfolding log_of check_recording
log_numbered bs o = by (read_recording categories bs) refl
  where
    by : (a : Answer (List Block)) → read_recording categories bs ≡ a → Refuses (checked_as categories (length bs) a)
    by (ok ks) e = tt
    by (refused n p) e =
        let t : T (leb 1 n) × T (leb n 21) = T-both (leb 1 n) (leb n 21) (recording_checked_lem categories bs o n p (bind_out _ e)) in
        (leb→le 1 n t.0, leb→le n 21 t.1)

from_tells : (o : ℤ) (m n p q : ℕ) (us vs : List Head) → Tells (step_from o m n p q us vs).told
unfolding step_from
from_tells o m n p q [] [] = tt
from_tells o m n p q (a ∷ us) [] = tt
from_tells o m n p q [] (b ∷ vs) = tt
from_tells o m n p q (a ∷ us) (b ∷ vs) = go (first o a.time b.time)
  where
    go : (l : Log) → Tells (choose l (goes log_a a (start_of m us) q) (goes log_b b p (start_of n vs))).told
    go log_a = tt
    go log_b = tt

places_tells : (o : ℤ) (m n p q : ℕ) (x y : Option (List Head)) → Tells (with_places o m n p q x y).told
unfolding with_places
places_tells o m n p q none y = (omega arith, omega arith)
places_tells o m n p q (some us) none = (omega arith, omega arith)
places_tells o m n p q (some us) (some vs) = from_tells o m n p q us vs

step_tells : (x y : Checked) → Refuses x → Refuses y → (p q : ℕ) (o : ℤ) → Tells (step_of x y p q o).told
unfolding step_of when◌then◌else◌
step_tells (unread r f) y h g p q o = h
step_tells (accepted xs m) (unread r f) h g p q o = g
step_tells (accepted xs m) (accepted ys n) h g p q o = go (in_range o)
  where
    go : (t : Bool) → Tells (when t then with_places o m n p q (from_place m p xs) (from_place n q ys) else stay (barred 22) p q).told
    go true = places_tells o m n p q (from_place m p xs) (from_place n q ys)
    go false = (omega arith, omega arith)

-- a struct tells a step: `met` is 1 exactly where a record comes, and `number` is a refusal's, or 0
pub record TellsStep (s : Step) (r : MergeStepped) : Type 0 where
  pub record_met : (l : Log) → s.told ≡ next l → (r.met ≡ 1) × (r.number ≡ 0)
  pub ended : s.told ≡ finished → (r.met ≡ 0) × (r.number ≡ 0)
  pub closed : (l : Log) (n p : ℕ) → s.told ≡ not_accepted l n p → (r.met ≡ 0) × (r.number ≡ n) × (r.place ≡ p) × (1 ≤ n) × (n ≤ 21)
  pub refused : (n : ℕ) → s.told ≡ barred n → (r.met ≡ 0) × (r.number ≡ n) × (r.place ≡ 0) × (22 ≤ n) × (n ≤ 23)

pub merge_step_tells : (as' bs : List ℕ) (p q : ℕ) (o : ℤ) → Octets as' → Octets bs → TellsStep (merge_step categories as' bs p q o) (merge_stepped (merge_step categories as' bs p q o))
unfolding merge_stepped merge_step
merge_step_tells as' bs p q o oa ob = by (merge_step categories as' bs p q o) (step_tells (log_of categories as') (log_of categories bs) (log_numbered as' oa) (log_numbered bs ob) p q o)
  where
    closed_as : (t : Told) (l : Log) (n f : ℕ) → Tells t → t ≡ not_accepted l n f → (1 ≤ n) × (n ≤ 21)
    closed_as t l n f h e = subst Tells e h

    barred_as : (t : Told) (n : ℕ) → Tells t → t ≡ barred n → (22 ≤ n) × (n ≤ 23)
    barred_as t n h e = subst Tells e h

    by : (s : Step) → Tells s.told → TellsStep s (merge_stepped s)
    by s h =
        record {
          record_met = λ l e. rw e (refl, refl);
          ended = λ e. rw e (refl, refl);
          closed = λ l n f e. let t : (1 ≤ n) × (n ≤ 21) = closed_as s.told l n f h e in rw e (refl, refl, refl, t.0, t.1);
          refused = λ n e. let t : (22 ≤ n) × (n ≤ 23) = barred_as s.told n h e in rw e (refl, refl, refl, t.0, t.1);
        }

-- ---- how a run begins

-- a refusal: no record comes, nor an end
abbrev pub Stops : Told → Type 0
Stops (next l) = ◌≡◌ {A = ℕ} 0 1
Stops finished = ◌≡◌ {A = ℕ} 0 1
Stops (not_accepted l n p) = Unit {0}
Stops (barred n) = Unit {0}

abbrev Barred : Told → Type 0
Barred (next l) = Unit {0}
Barred finished = Unit {0}
Barred (not_accepted l n p) = (1 ≤ n) × (n ≤ 21)
Barred (barred n) = n ≡ 22

pub record TellsBegun (b : Begun) (r : MergeBegun) : Type 0 where
  pub begins : (m : Merge) → b ≡ ready m → r.number ≡ 0
  pub closed : (l : Log) (n p : ℕ) → b ≡ stopped (not_accepted l n p) → (r.number ≡ n) × (r.place ≡ p) × (1 ≤ n) × (n ≤ 21)
  pub refused : (n : ℕ) → b ≡ stopped (barred n) → (r.number ≡ n) × (r.place ≡ 0) × (n ≡ 22)
  -- by nothing else
  pub stops : (t : Told) → b ≡ stopped t → Stops t

abbrev Begins : Begun → Type 0
Begins (ready m) = Unit {0}
Begins (stopped t) = Stops t × Barred t

begins : (as' bs : List ℕ) (o : ℤ) → Octets as' → Octets bs → Begins (begin_of as' bs o)
unfolding begin_of when◌then◌else◌
begins as' bs o oa ob = by (check_recording categories as') (check_recording categories bs) refl refl
  where
    numbered : (cs : List ℕ) → Octets cs → (n p : ℕ) → check_recording categories cs ≡ refused n p → (1 ≤ n) × (n ≤ 21)
    numbered cs oc n p e =
        let t : T (leb 1 n) × T (leb n 21) = T-both (leb 1 n) (leb n 21) (recording_checked_lem categories cs oc n p e) in
        (leb→le 1 n t.0, leb→le n 21 t.1)

    go : (x y : Counts) (t : Bool) → in_range o ≡ t → Begins (begun_by as' bs o (ok x) (ok y))
    go x y true e = rw e tt
    go x y false e = rw e (tt, refl)

    by : (x y : Answer Counts) → check_recording categories as' ≡ x → check_recording categories bs ≡ y → Begins (begun_by as' bs o x y)
    by (refused n p) y ea eb = (tt, numbered as' oa n p ea)
    by (ok x) (refused n p) ea eb = (tt, numbered bs ob n p eb)
    by (ok x) (ok y) ea eb = go x y (in_range o) refl

pub begin_merge_tells : (as' bs : List ℕ) (o : ℤ) → Octets as' → Octets bs → TellsBegun (begin_of as' bs o) (merge_begun (begin_of as' bs o))
unfolding merge_begun
begin_merge_tells as' bs o oa ob = by (begin_of as' bs o) (begins as' bs o oa ob)
  where
    by : (b : Begun) → Begins b → TellsBegun b (merge_begun b)
    by b h =
        record {
          begins = λ m e. rw e refl;
          closed = λ l n p e. let t : Begins (stopped (not_accepted l n p)) = subst Begins e h in rw e (refl, refl, t.1.0, t.1.1);
          refused = λ n e. let t : Begins (stopped (barred n)) = subst Begins e h in rw e (refl, refl, t.1);
          stops = λ t e. let u : Begins (stopped t) = subst Begins e h in u.0;
        }
