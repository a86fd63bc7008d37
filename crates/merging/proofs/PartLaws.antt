-- The part that a step hands back lies in the log that it names: of the rule's step, and of the code's step from any state. Assumes nothing.
use Prim.Native.Nat.{ℕ, ◌+◌, ◌≤◌}
use mathlib.Core.Path.{◌≡◌, refl, sym, ap, ◌∙◌, subst}
use mathlib.Core.Bool.{Bool, true, false}
use mathlib.Core.Option.{Option, none, some}
use mathlib.Core.List.{List, [], ◌∷◌}
use native.Mathlib.Omega.{arith}
use lib.Dec.{eqb}
use lib.ListN.{length}
use lib.IntN.{ℤ}
use denote.Ref.{Bor}
use Rattle.rules.specs.Answer.{when◌then◌else◌}
use Rattle.rules.specs.Catalogue.{categories}
use Rattle.rules.specs.Merge.{Log, log_a, log_b, choose, first, Head, Checked, accepted, unread, log_of, start_of, from_place, barred, Step, stay, goes, in_range, step_from, with_places, step_of, merge_step, part_log}
use Rattle.rules.proofs.AnswerLaws.{some_inj, none_some, Octets}
use Rattle.rules.proofs.RunLaws.{Rises}
use Rattle.rules.proofs.LogLaws.{log_accepted, log_rises}
use Rattle.finding.specs.Part.{VeryPart}
use Rattle.merging.specs.declared.run.Merge.{Merge}
use Rattle.merging.specs.declared.run.MergeRefusal.{MergeRefusal}
use Rattle.merging.specs.declared.run.MergeRefusal.TheVariants.{OfLog, Asked}
use Rattle.merging.specs.Run.{told_of, which_of, moved_by, move_of}
use Rattle.merging.specs.Step.{of_log, PartOf}
use Rattle.merging.proofs.HeadLaws.{head_fits}
use Rattle.merging.proofs.WhichLaws.{which_head}

-- ---- a record that rises ends in its log

rises_low : (end at : ℕ) (hs : List Head) → Rises end at hs → at ≤ end
rises_low end at [] r = r
rises_low end at (h ∷ hs) r = omega (arith, r.0, r.1, rises_low end (h.place + h.size) hs r.2)

abbrev Fits : ℕ → List Head → Type 0
Fits end [] = Unit {0}
Fits end (h ∷ hs) = h.place + h.size ≤ end

from_fits : (end at p : ℕ) (hs us : List Head) → Rises end at hs → from_place end p hs ≡ some us → Fits end us
unfolding from_place when◌then◌else◌
from_fits end at p [] us r e = go (eqb p end) e
  where
    go : (t : Bool) → (when t then some [] else none) ≡ some us → Fits end us
    go true e = subst (Fits end) (some_inj e) tt
    go false e = none_some e
from_fits end at p (h ∷ hs) us r e = go (eqb p h.place) e (from_fits end (h.place + h.size) p hs us r.2)
  where
    go : (t : Bool) → (when t then some (h ∷ hs) else from_place end p hs) ≡ some us → (from_place end p hs ≡ some us → Fits end us) → Fits end us
    go true e ih = subst (Fits end) (some_inj e) (rises_low end (h.place + h.size) hs r.2)
    go false e ih = ih e

-- ---- a step

abbrev pub Inside : ℕ → ℕ → Step → Type 0
Inside m n s = s.span.0 + s.span.1 ≤ choose (part_log s.told) m n

from_inside : (o : ℤ) (m n p q : ℕ) (us vs : List Head) → Fits m us → Fits n vs → Inside m n (step_from o m n p q us vs)
unfolding step_from
from_inside o m n p q [] [] f g = omega arith
from_inside o m n p q (a ∷ us) [] f g = f
from_inside o m n p q [] (b ∷ vs) f g = g
from_inside o m n p q (a ∷ us) (b ∷ vs) f g = go (first o a.time b.time)
  where
    go : (l : Log) → Inside m n (choose l (goes log_a a (start_of m us) q) (goes log_b b p (start_of n vs)))
    go log_a = f
    go log_b = g

places_inside : (o : ℤ) (m n p q : ℕ) (x y : Option (List Head)) → ((us : List Head) → x ≡ some us → Fits m us) → ((vs : List Head) → y ≡ some vs → Fits n vs)
    → Inside m n (with_places o m n p q x y)
unfolding with_places
places_inside o m n p q none y f g = omega arith
places_inside o m n p q (some us) none f g = omega arith
places_inside o m n p q (some us) (some vs) f g = from_inside o m n p q us vs (f us refl) (g vs refl)

pub step_inside : (as' bs : List ℕ) (p q : ℕ) (o : ℤ) → Octets as' → Octets bs → Inside (length as') (length bs) (merge_step categories as' bs p q o)
unfolding merge_step step_of when◌then◌else◌
step_inside as' bs p q o oa ob = by (log_of categories as') (log_of categories bs) refl refl
  where
    by : (x y : Checked) → log_of categories as' ≡ x → log_of categories bs ≡ y → Inside (length as') (length bs) (step_of x y p q o)
    by (unread r f) y ea eb = omega arith
    by (accepted xs m) (unread r f) ea eb = omega arith
    by (accepted xs m) (accepted ys n) ea eb =
        let ma : m ≡ length as' = (log_accepted categories as' xs m ea).end in
        let nb : n ≡ length bs = (log_accepted categories bs ys n eb).end in
        let i : Inside m n (with_places o m n p q (from_place m p xs) (from_place n q ys)) =
        places_inside o m n p q (from_place m p xs) (from_place n q ys) (λ us e. from_fits m 0 p xs us (log_rises categories as' xs m oa ea) e) (λ vs e. from_fits n 0 q ys vs (log_rises categories bs ys n ob eb) e) in
        go (in_range o) (subst (λ z. Inside (length as') z (with_places o m n p q (from_place m p xs) (from_place n q ys))) nb (subst (λ z. Inside z n (with_places o m n p q (from_place m p xs) (from_place n q ys))) ma i))
      where
        go : (t : Bool) → Inside (length as') (length bs) (with_places o m n p q (from_place m p xs) (from_place n q ys))
            → Inside (length as') (length bs) (when t then with_places o m n p q (from_place m p xs) (from_place n q ys) else stay (barred 22) p q)
        go true i = i
        go false i = omega arith

-- ---- a step from any state, one that a caller changed too

pub step_part : (as' bs : List ℕ) (m : Merge) → (move_of as' bs m).at.place + (move_of as' bs m).size ≤ choose (part_log (move_of as' bs m).told) (length as') (length bs)
unfolding move_of
step_part as' bs m = by (which_of m.turn (length as') m.a (length bs) m.b) refl
  where
    by : (w : Option Log) → which_of m.turn (length as') m.a (length bs) m.b ≡ w
        → (moved_by as' bs m w).at.place + (moved_by as' bs m w).size ≤ choose (part_log (moved_by as' bs m w).told) (length as') (length bs)
    by none e = omega arith
    by (some log_a) e = head_fits (length as') m.a (which_head m.turn (length as') m.a (length bs) m.b log_a e)
    by (some log_b) e = head_fits (length bs) m.b (which_head m.turn (length as') m.a (length bs) m.b log_b e)

-- ---- the part that the code hands back: of the log that is told, and log A's where none is

pub part_refused : (r : MergeRefusal) → part_log (told_of r) ≡ log_a
part_refused (OfLog l r) = refl
part_refused (Asked f) = refl

module _ (s z : Step) (e : z ≡ s) (l : Log) (g : part_log z.told ≡ l) where
  log_is_lem : part_log s.told ≡ l
  log_is_lem = sym (ap (λ x. part_log x.told) e) ∙ g

  span_is : s.span ≡ z.span
  span_is = sym (ap (λ x. x.span) e)

  pub part_here : (a b r : Bor (List ℕ)) → VeryPart (of_log l a b) r z.span → PartOf a b r s
  part_here a b r v =
      subst (λ x. VeryPart (of_log x a b) r s.span) (sym log_is_lem) (subst (VeryPart (of_log l a b) r) (sym span_is) v)

  pub part_inside : (x y : ℕ) → Inside x y s → z.span.0 + z.span.1 ≤ choose l x y
  part_inside x y i =
      subst (λ w. w.0 + w.1 ≤ choose l x y) span_is (subst (λ w. s.span.0 + s.span.1 ≤ choose w x y) log_is_lem i)
