-- The step from a place in each log, as the code goes: each way out of it is the rule's. Assumes nothing.
use Prim.Native.Nat.{ℕ}
use mathlib.Core.Path.{◌≡◌, refl, sym, ap, ap₂, ◌∙◌, subst}
use mathlib.Core.Bool.{Bool, true, false}
use mathlib.Core.Option.{Option, none, some}
use mathlib.Core.List.{List}
use native.Mathlib.Omega.{arith}
use lib.ListN.{length}
use lib.IntN.{ℤ}
use Rattle.rules.specs.Answer.{Answer, ok, refused, when◌then◌else◌}
use Rattle.rules.specs.Catalogue.{categories}
use Rattle.rules.specs.Entry.{Counts, check_recording}
use Rattle.rules.specs.Merge.{Log, log_a, log_b, choose, first, mod_day, Head, Told, finished, not_accepted, barred, Step, stay, goes, in_range, start_of, from_place, step_from, with_places, step_of, merge_step}
use Rattle.rules.proofs.AnswerLaws.{Octets}
use Rattle.rules.proofs.RunLaws.{from_place_lem}
use Rattle.walking.specs.declared.Cursor.{Cursor}
use Rattle.walking.specs.Walk.{begin}
use Rattle.merging.specs.declared.heads.Standing.{Standing}
use Rattle.std.specs.Prelude.{Some, None}
use Rattle.std.specs.Prelude as std
use Rattle.merging.specs.declared.run.Merge.{Merge}
use Rattle.merging.specs.Heads.{stand_of, is_head, behind_of, heads_left, head_of, left_of, Stands, Found}
use Rattle.merging.specs.Run.{first_by, time_of, which_by, which_of, Move, ended, moved_by, move_of, ready, stopped, begin_of}
use Rattle.merging.specs.Step.{places_step}
use Rattle.merging.proofs.WhichLaws.{first_is, which_by_lem}
use Rattle.merging.proofs.HeadLaws.{left_none, left_head, stands}
use Rattle.merging.proofs.LogHeads.{log_on, log_off}

-- ---- where a record stands

pub place_of : (bs : List ℕ) (s : Standing) (hs : List Head) → Stands bs s hs → start_of (length bs) hs ≡ s.at.place
place_of bs s hs t = go (is_head (length bs) s) refl
  where
    go : (b : Bool) → is_head (length bs) s ≡ b → start_of (length bs) hs ≡ s.at.place
    go false e = rw (← t.is, left_none bs s e) (sym (t.ended e))
    go true e = rw (← t.is, left_head bs s e)

pub next_place : (bs : List ℕ) → Octets bs → (c : Cursor) → start_of (length bs) (heads_left bs c) ≡ (stand_of bs c).at.place
next_place bs o c = place_of bs (stand_of bs c) (heads_left bs c) (stands bs o c)

-- ---- a step of the run, as a step from two places

abbrev pub step_by : Move → Step
step_by x = record { told = x.told; span = (x.at.place, x.size); place_a = x.merge.a.at.place; place_b = x.merge.b.at.place }

module _ (as' bs : List ℕ) (oa : Octets as') (ob : Octets bs) (o : ℤ) (m : Merge) (turned : m.turn ≡ mod_day o) where
  abbrev Same : Type 0
  Same = step_by (move_of as' bs m) ≡ step_from o (length as') (length bs) m.a.at.place m.b.at.place (left_of as' m.a) (left_of bs m.b)

  by : (u v : Bool) → is_head (length as') m.a ≡ u → is_head (length bs) m.b ≡ v
      → which_by m.turn u v (time_of m.a) (time_of m.b) ≡ which_of m.turn (length as') m.a (length bs) m.b
  by = which_by_lem m.turn (length as') m.a (length bs) m.b

  -- where the rule hands out log A's record, and log B's
  goes_a : Step
  goes_a = step_by (moved_by as' bs m (some log_a))

  a_is : goes_a ≡ goes log_a (head_of m.a) (start_of (length as') (heads_left as' (behind_of m.a))) m.b.at.place
  unfolding goes_a
  a_is = ap (λ z. goes log_a (head_of m.a) z m.b.at.place) (sym (next_place as' oa (behind_of m.a)))

  goes_b : Step
  goes_b = step_by (moved_by as' bs m (some log_b))

  b_is : goes_b ≡ goes log_b (head_of m.b) m.a.at.place (start_of (length bs) (heads_left bs (behind_of m.b)))
  unfolding goes_b
  b_is = ap (λ z. goes log_b (head_of m.b) m.a.at.place z) (sym (next_place bs ob (behind_of m.b)))

  moved_as : (w : Option Log) → w ≡ which_of m.turn (length as') m.a (length bs) m.b → step_by (move_of as' bs m) ≡ step_by (moved_by as' bs m w)
  unfolding move_of
  moved_as w e = ap (λ z. step_by (moved_by as' bs m z)) (sym e)

  both : (l : Log) → l ≡ first o (time_of m.a) (time_of m.b)
      → step_by (moved_by as' bs m (some l))
      ≡ choose (first o (time_of m.a) (time_of m.b))
      (goes log_a (head_of m.a) (start_of (length as') (heads_left as' (behind_of m.a))) m.b.at.place)
      (goes log_b (head_of m.b) m.a.at.place (start_of (length bs) (heads_left bs (behind_of m.b))))
  unfolding goes_a goes_b
  both log_a e = rw (← e) a_is
  both log_b e = rw (← e) b_is

  pub move_is : Same
  unfolding step_from goes_a goes_b
  move_is = go (is_head (length as') m.a) (is_head (length bs) m.b) refl refl
    where
      go : (u v : Bool) → is_head (length as') m.a ≡ u → is_head (length bs) m.b ≡ v → Same
      go false false x y = moved_as none (by false false x y) ∙ rw (left_none as' m.a x, left_none bs m.b y)
      go false true x y = moved_as (some log_b) (by false true x y) ∙ rw (left_none as' m.a x, left_head bs m.b y) b_is
      go true false x y = moved_as (some log_a) (by true false x y) ∙ rw (left_head as' m.a x, left_none bs m.b y) a_is
      go true true x y =
          moved_as (some (first_by m.turn (time_of m.a) (time_of m.b))) (by true true x y)
          ∙ rw (left_head as' m.a x, left_head bs m.b y)
          (both (first_by m.turn (time_of m.a) (time_of m.b))
          (ap (λ z. first_by z (time_of m.a) (time_of m.b)) turned ∙ sym (first_is o (time_of m.a) (time_of m.b))))

-- ---- what a search found, w, once it is taken apart

found_none : (bs : List ℕ) (w : std.Option Standing) (x : Option (List Head)) → Found bs w x → w ≡ None → x ≡ none
unfolding Found
found_none bs w none f e = refl
found_none bs w (some hs) f e = absurd (subst (λ v. Found bs v (some hs)) e f)

found_some : (bs : List ℕ) (w : std.Option Standing) (s : Standing) (x : Option (List Head)) → Found bs w x → w ≡ Some s → x ≡ some (left_of bs s)
unfolding Found
found_some bs w s (some hs) f e = ap some (sym (subst (λ v. Found bs v (some hs)) e f).is)
found_some bs w s none f e = absurd (subst (λ v. Found bs v none) e f)

found_place : (bs : List ℕ) (w : std.Option Standing) (s : Standing) (p : ℕ) (hs : List Head) → Found bs w (from_place (length bs) p hs) → w ≡ Some s → p ≡ s.at.place
unfolding Found
found_place bs w s p hs f e = go (from_place (length bs) p hs) refl (subst (λ v. Found bs v (from_place (length bs) p hs)) e f)
  where
    go : (x : Option (List Head)) → from_place (length bs) p hs ≡ x → Found bs (Some s) x → p ≡ s.at.place
    go (some us) e f = from_place_lem (length bs) p hs us e ∙ place_of bs s us f
    go none e f = absurd f

-- ---- the ways out, where both logs are accepted

module _ (as' bs : List ℕ) (pa pb : ℕ) (w : std.Option Standing) (f : Found as' w (from_place (length as') pa (heads_left as' begin))) (o : ℤ) where
  pub at_23a : w ≡ None → stay (barred 23) pa pb ≡ places_step as' bs pa pb o
  unfolding places_step with_places
  at_23a e = rw (found_none as' w (from_place (length as') pa (heads_left as' begin)) f e)

  module _ (sa : Standing) (e : w ≡ Some sa) (v : std.Option Standing) (g : Found bs v (from_place (length bs) pb (heads_left bs begin))) where
    pub at_23b : v ≡ None → stay (barred 23) pa pb ≡ places_step as' bs pa pb o
    unfolding places_step with_places
    at_23b h = rw (found_some as' w sa (from_place (length as') pa (heads_left as' begin)) f e, found_none bs v (from_place (length bs) pb (heads_left bs begin)) g h)

    step_at : (sb : Standing) → v ≡ Some sb → places_step as' bs pa pb o ≡ step_from o (length as') (length bs) sa.at.place sb.at.place (left_of as' sa) (left_of bs sb)
    unfolding places_step with_places
    step_at sb h =
        rw (
          found_some as' w sa (from_place (length as') pa (heads_left as' begin)) f e,
          found_some bs v sb (from_place (length bs) pb (heads_left bs begin)) g h,
          ← found_place as' w sa pa (heads_left as' begin) f e,
          ← found_place bs v sb pb (heads_left bs begin) g h,
        )

    module _ (oa : Octets as') (ob : Octets bs) (sb : Standing) (h : v ≡ Some sb) (turn : ℕ) (t : turn ≡ mod_day o) where
      abbrev m : Merge
      m = record { a = sa; b = sb; turn = turn }

      pub at_next : (x : Move) → x ≡ move_of as' bs m → step_by x ≡ places_step as' bs pa pb o
      at_next x k = ap step_by k ∙ move_is as' bs oa ob o m t ∙ sym (step_at sb h)

      pub at_end : ended m ≡ move_of as' bs m → stay finished pa pb ≡ places_step as' bs pa pb o
      at_end k =
          ap₂ (stay finished) (found_place as' w sa pa (heads_left as' begin) f e) (found_place bs v sb pb (heads_left bs begin) g h) ∙ at_next (ended m) k

-- ---- the whole step, by how a run begins

data Opening (as' bs : List ℕ) (pa pb : ℕ) (o : ℤ) : Type 0 where
  closed : (t : Told) → begin_of as' bs o ≡ stopped t → stay t pa pb ≡ merge_step categories as' bs pa pb o → Opening as' bs pa pb o
  opened : (m : Merge) → begin_of as' bs o ≡ ready m → m.turn ≡ mod_day o → places_step as' bs pa pb o ≡ merge_step categories as' bs pa pb o → Opening as' bs pa pb o

module _ (as' bs : List ℕ) (pa pb : ℕ) (o : ℤ) (oa : Octets as') (ob : Octets bs) where
  opening : Opening as' bs pa pb o
  unfolding begin_of merge_step step_of places_step when◌then◌else◌
  opening = by (check_recording categories as') (check_recording categories bs) refl refl (in_range o) refl
    where
      by : (x y : Answer Counts) → check_recording categories as' ≡ x → check_recording categories bs ≡ y → (t : Bool) → in_range o ≡ t → Opening as' bs pa pb o
      by (refused n p) y ea eb t e = closed (not_accepted log_a n p) (rw ea) (rw (log_off as' n p ea))
      by (ok x) (refused n p) ea eb t e = closed (not_accepted log_b n p) (rw (ea, eb)) (rw (log_on as' oa x ea, log_off bs n p eb))
      by (ok x) (ok y) ea eb false e = closed (barred 22) (rw (ea, eb, e)) (rw (log_on as' oa x ea, log_on bs ob y eb, e))
      by (ok x) (ok y) ea eb true e =
          opened (record { a = stand_of as' begin; b = stand_of bs begin; turn = mod_day o }) (rw (ea, eb, e)) refl (rw (log_on as' oa x ea, log_on bs ob y eb, e))

  pub at_closed : (t : Told) → stopped t ≡ begin_of as' bs o → stay t pa pb ≡ merge_step categories as' bs pa pb o
  at_closed t h = by opening
    where
      by : Opening as' bs pa pb o → stay t pa pb ≡ merge_step categories as' bs pa pb o
      by (closed u b s) = let q : t ≡ u = cc in ap (λ z. stay z pa pb) q ∙ s
      by (opened m b u s) = let z : ◌≡◌ {A = ℕ} 0 1 = cc in absurd (omega arith)

  pub at_ready : (m : Merge) → ready m ≡ begin_of as' bs o → (x : Step) → ((z : ℤ) → m.turn ≡ mod_day z → x ≡ places_step as' bs pa pb z)
      → x ≡ merge_step categories as' bs pa pb o
  at_ready m h x f = by opening
    where
      by : Opening as' bs pa pb o → x ≡ merge_step categories as' bs pa pb o
      by (closed u b s) = let z : ◌≡◌ {A = ℕ} 0 1 = cc in absurd (omega arith)
      by (opened n b u s) = let q : m.turn ≡ n.turn = cc in f o (q ∙ u) ∙ s
