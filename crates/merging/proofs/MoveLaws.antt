-- A step of the run, and its beginning, as the code goes. Assumes nothing.
use Prim.Native.Nat.{ℕ, ◌+◌, ◌≤◌, ◌<◌}
use mathlib.Core.Path.{◌≡◌, sym, ap, ap₂, ◌∙◌, subst}
use mathlib.Core.Bool.{true, false}
use mathlib.Core.Option.{Option, none, some}
use mathlib.Core.List.{List}
use native.Mathlib.Omega.{arith}
use lib.ListN.{length}
use lib.IntN.{ℤ}
use denote.Ref.{Bor}
use Rattle.rules.specs.Answer.{ok, refused, when◌then◌else◌}
use Rattle.rules.specs.Catalogue.{categories}
use Rattle.rules.specs.Entry.{Counts, check_recording}
use Rattle.rules.specs.Merge.{Log, log_a, log_b, choose, mod_day, in_range, next, not_accepted, barred}
use Rattle.walking.specs.declared.Cursor.{Cursor}
use Rattle.walking.specs.Walk.{begin}
use Rattle.merging.specs.declared.heads.Standing.{Standing}
use Rattle.merging.specs.declared.run.Side.{Side}
use Rattle.merging.specs.declared.run.Merge.{Merge}
use Rattle.merging.specs.Heads.{behind_of, stand_of}
use Rattle.merging.specs.Run.{time_of, side_of, which_by, which_of, ended, with_head, moved_by, move_of, ready, stopped, begin_of}
use Rattle.merging.proofs.HeadLaws.{head_fits}
use Rattle.merging.proofs.WhichLaws.{which_head}

-- ---- a log

pub picked : (l : Log) (a b : Bor (List ℕ)) {r : Bor (List ℕ)} → r ≡ choose l a b → r.now ≡ choose l a.now b.now
picked log_a a b e = ap (λ z. z.now) e
picked log_b a b e = ap (λ z. z.now) e

-- what lies in its log ends where numbers go
pub choose_fits : (l : Log) (p q : Standing) (as' bs : List ℕ) {k : ℕ} {g : Standing} → g ≡ choose l p q
    → (choose l p q).at.place + (choose l p q).size ≤ length (choose l as' bs) → length as' < k → length bs < k → g.at.place + g.size < k
choose_fits log_a p q as' bs {k = k} e f a b = subst (λ x. x.at.place + x.size < k) (sym e) (omega (arith, f, a))
choose_fits log_b p q as' bs {k = k} e f a b = subst (λ x. x.at.place + x.size < k) (sym e) (omega (arith, f, b))

-- ---- a step

module _ (as' bs : List ℕ) (m : Merge) (s t : Side) (ea : s ≡ side_of (length as') m.a) (eb : t ≡ side_of (length bs) m.b) (o : Option Log)
    (e : o ≡ which_by m.turn s.there t.there (time_of s.head) (time_of t.head)) where
  goes : o ≡ which_of m.turn (length as') m.a (length bs) m.b
  unfolding which_of
  goes = e ∙ ap₂ (λ x y. which_by m.turn x.there y.there (time_of x.head) (time_of y.head)) ea eb

  moved_is : moved_by as' bs m o ≡ move_of as' bs m
  unfolding move_of
  moved_is = ap (moved_by as' bs m) goes

  pub move_none : o ≡ none → ended m ≡ move_of as' bs m
  move_none h = ap (moved_by as' bs m) (sym h) ∙ moved_is

  module _ (l : Log) (h : o ≡ some l) where
    pub fits : (choose l m.a m.b).at.place + (choose l m.a m.b).size ≤ length (choose l as' bs)
    fits = by l (sym goes ∙ h)
      where
        by : (k : Log) → which_of m.turn (length as') m.a (length bs) m.b ≡ some k → (choose k m.a m.b).at.place + (choose k m.a m.b).size ≤ length (choose k as' bs)
        by log_a g = head_fits (length as') m.a (which_head m.turn (length as') m.a (length bs) m.b log_a g)
        by log_b g = head_fits (length bs) m.b (which_head m.turn (length as') m.a (length bs) m.b log_b g)

    pub move_on : {g : Standing} {cs : List ℕ} {c : Cursor} {d : Standing} {x : Merge} → g ≡ choose l m.a m.b → cs ≡ choose l as' bs → c ≡ behind_of g
        → d ≡ stand_of cs c → x ≡ with_head l d m → record { told = next l; at = g.at; size = g.size; merge = x } ≡ move_of as' bs m
    move_on eg ec es ed ex =
        ap₂ (λ y z. record { told = next l; at = y.at; size = y.size; merge = z }) eg
        (ex ∙ ap (λ z. with_head l z m) (ed ∙ ap₂ stand_of ec (es ∙ ap behind_of eg)))
        ∙ ap (moved_by as' bs m) (sym h)
        ∙ moved_is

-- ---- the beginning

module _ (as' bs : List ℕ) (o : ℤ) where
  pub begin_a : (n p : ℕ) → refused n p ≡ check_recording categories as' → stopped (not_accepted log_a n p) ≡ begin_of as' bs o
  unfolding begin_of
  begin_a n p e = rw (← e)

  module _ (x : Counts) (ea : ok x ≡ check_recording categories as') where
    pub begin_b : (n p : ℕ) → refused n p ≡ check_recording categories bs → stopped (not_accepted log_b n p) ≡ begin_of as' bs o
    unfolding begin_of
    begin_b n p e = rw (← ea, ← e)

    module _ (y : Counts) (eb : ok y ≡ check_recording categories bs) where
      pub begin_22 : in_range o ≡ false → stopped (barred 22) ≡ begin_of as' bs o
      unfolding begin_of when◌then◌else◌
      begin_22 e = rw (← ea, ← eb, e)

      pub begin_ready : in_range o ≡ true → (c d : Cursor) (s t : Standing) (turn : ℕ) → c ≡ begin → s ≡ stand_of as' c → d ≡ begin → t ≡ stand_of bs d → turn ≡ mod_day o
          → ready (record { a = s; b = t; turn = turn }) ≡ begin_of as' bs o
      unfolding begin_of when◌then◌else◌
      begin_ready e c d s t turn hc hs hd ht h =
          rw (← ea, ← eb, e)
          (ap₂ (λ y z. ready (record { a = y; b = z; turn = turn })) (hs ∙ ap (stand_of as') hc) (ht ∙ ap (stand_of bs) hd)
          ∙ ap (λ z. ready (record { a = stand_of as' begin; b = stand_of bs begin; turn = z })) h)
