-- The record that comes next in a log, and those after it: as the code finds them. Assumes nothing.
--
-- In order: where a walk stands; whether there is a record; the record that a walk comes to; all that come; the records from a standing on.
use Prim.Native.Nat.{ℕ, zero, suc, ◌+◌, ◌-◌, ◌<◌, ◌≤◌}
use mathlib.Core.Path.{◌≡◌, refl, sym, ap, ap₂, ◌∙◌, subst}
use mathlib.Core.Bool.{Bool, true, false, ◌&&◌, true≢false}
use mathlib.Core.Option.{none}
use mathlib.Core.List.{List, [], ◌∷◌}
use Rattle.std.specs.Prelude.{is_some, unwrap_or}
use native.Mathlib.Omega.{arith}
use lib.Dec.{eqb, leb, ltb}
use lib.ListN.{length}
use borrow.Author.Tests.{eq-eqb, ne_eqb, eqb-true, eqb-false, le-leb, lt-leb, leb-true, lt-ltb, le-ltb, ltb-true, ltb-false}
use Rattle.rules.specs.Answer.{Answer, ok, refused, when◌then◌else◌}
use Rattle.rules.specs.Catalogue.{categories}
use Rattle.rules.proofs.AnswerLaws.{both_left, both_right, Octets}
use Rattle.measuring.specs.declared.record.Measured.{Measured}
use Rattle.measuring.specs.Measure.{end_of, time_in, sized, measure_by, measure_in, measure_of}
use Rattle.items.specs.Answers.{profile_in}
use Rattle.sets.specs.Sets.{set_at}
use Rattle.walking.specs.declared.Cursor.{Cursor}
use Rattle.walking.specs.Walk.{part, open_at, block_at}
use Rattle.walking.specs.Walk as walk
use Rattle.walking.proofs.StepLaws.{length_part, opens, opens_stands}
use Rattle.merging.specs.declared.heads.Standing.{Standing}
use Rattle.merging.specs.Heads.{in_log, end_cursor, end_at, found_in, cursor_at, stood_by, stood_at, stand_of, is_head, behind_of, head_of, heads_up_to, heads_left, left_of, Stands}

-- ---- where a walk stands

pub record InLog (n : ℕ) (c : Cursor) : Type 0 where
  pub low : c.block ≤ c.place
  pub within : c.place ≤ c.end
  pub high : c.end ≤ n

pub in_log_lem : (n : ℕ) (c : Cursor) → in_log n c ≡ true → InLog n c
unfolding in_log
in_log_lem n c h =
    let b : Bool = leb c.place c.end && leb c.end n in
    let p : b ≡ true = both_right (leb c.block c.place) b h in
    record {
      low = leb-true _ _ (both_left (leb c.block c.place) b h);
      within = leb-true _ _ (both_left (leb c.place c.end) (leb c.end n) p);
      high = leb-true _ _ (both_right (leb c.place c.end) (leb c.end n) p);
    }

pub log_in_lem : (n : ℕ) (c : Cursor) → InLog n c → in_log n c ≡ true
unfolding in_log
log_in_lem n c i = rw (le-leb c.block c.place i.low, le-leb c.place c.end i.within, le-leb c.end n i.high)

module _ (n : ℕ) (c : Cursor) where
  pub out_low : c.place < c.block → false ≡ in_log n c
  unfolding in_log
  out_low h = rw (lt-leb c.block c.place h)

  pub out_past : c.block ≤ c.place → c.end < c.place → false ≡ in_log n c
  unfolding in_log
  out_past l h = rw (le-leb c.block c.place l, lt-leb c.place c.end h)

  pub in_high : c.block ≤ c.place → c.place ≤ c.end → leb c.end n ≡ in_log n c
  unfolding in_log
  in_high l w = rw (le-leb c.block c.place l, le-leb c.place c.end w)

-- ---- whether there is a record

module _ (n : ℕ) (s : Standing) where
  -- it stands in the log, and has an octet that its block has
  inside_by : Bool
  inside_by = ltb 0 s.size && leb s.size (s.at.end - s.at.place)

  head_test : in_log n s.at && inside_by ≡ is_head n s
  unfolding is_head in_log inside_by
  head_test = go (leb s.at.block s.at.place) (leb s.at.place s.at.end) (leb s.at.end n)
    where
      go : (a b c : Bool) → (a && (b && c)) && (ltb 0 s.size && leb s.size (s.at.end - s.at.place)) ≡ (a && (b && (c && (ltb 0 s.size && leb s.size (s.at.end - s.at.place)))))
      go false b c = refl
      go true false c = refl
      go true true c = refl

  pub head_out : in_log n s.at ≡ false → false ≡ is_head n s
  head_out h = ap (λ t. t && inside_by) (sym h) ∙ head_test

  module _ (i : in_log n s.at ≡ true) where
    pub head_empty : s.size ≡ 0 → false ≡ is_head n s
    unfolding inside_by
    head_empty h = ap₂ (λ t u. t && (u && leb s.size (s.at.end - s.at.place))) (sym i) (sym (le-ltb 0 s.size (omega arith))) ∙ head_test

    pub head_sized : (s.size ≡ 0 → ⊥) → leb s.size (s.at.end - s.at.place) ≡ is_head n s
    unfolding inside_by
    head_sized h = ap₂ (λ t u. t && (u && leb s.size (s.at.end - s.at.place))) (sym i) (sym (lt-ltb 0 s.size (omega arith))) ∙ head_test

  -- what it says
  pub record IsHead : Type 0 where
    pub low : s.at.block ≤ s.at.place
    pub within : s.at.place ≤ s.at.end
    pub high : s.at.end ≤ n
    pub some_octet : 0 < s.size
    pub inside : s.size ≤ s.at.end - s.at.place

  pub head_is : is_head n s ≡ true → IsHead
  unfolding is_head
  head_is h =
      let d : Bool = ltb 0 s.size && leb s.size (s.at.end - s.at.place) in
      let b : Bool = leb s.at.end n && d in
      let a : Bool = leb s.at.place s.at.end && b in
      let p : a ≡ true = both_right (leb s.at.block s.at.place) a h in
      let q : b ≡ true = both_right (leb s.at.place s.at.end) b p in
      let r : d ≡ true = both_right (leb s.at.end n) d q in
      record {
        low = leb-true _ _ (both_left (leb s.at.block s.at.place) a h);
        within = leb-true _ _ (both_left (leb s.at.place s.at.end) b p);
        high = leb-true _ _ (both_left (leb s.at.end n) d q);
        some_octet = ltb-true _ _ (both_left (ltb 0 s.size) (leb s.size (s.at.end - s.at.place)) r);
        inside = leb-true _ _ (both_right (ltb 0 s.size) (leb s.size (s.at.end - s.at.place)) r);
      }

  pub head_yes : IsHead → is_head n s ≡ true
  head_yes m = sym (head_sized (log_in_lem n s.at (record { low = m.low; within = m.within; high = m.high })) (λ z. omega (arith, z, m.some_octet))) ∙ le-leb _ _ m.inside

  -- its octets lie in the log
  pub head_fits : is_head n s ≡ true → s.at.place + s.size ≤ n
  head_fits h = let m : IsHead = head_is h in omega (arith, m.within, m.high, m.inside)

  -- behind it the walk is in the log
  pub head_behind : is_head n s ≡ true → in_log n (behind_of s) ≡ true
  head_behind h =
      let m : IsHead = head_is h in
      log_in_lem n (behind_of s) (record { low = omega (arith, m.low); within = omega (arith, m.within, m.inside); high = m.high })

-- the end is no record
pub end_none : (n m : ℕ) → is_head n (end_at m) ≡ false
end_none n m = go (is_head n (end_at m)) refl
  where
    go : (t : Bool) → is_head n (end_at m) ≡ t → t ≡ false
    go true e = absurd (omega (arith, (head_is n (end_at m) e).some_octet))
    go false e = refl

-- ---- the record that a walk comes to

-- what is measured lies in the octets
pub measured_fits : (cat : ℕ) (bs : List ℕ) → (measure_of cat bs).size ≤ length bs
unfolding measure_of measure_in when◌then◌else◌
measured_fits cat bs = by (set_at (profile_in cat categories) bs)
  where
    go : (i bits used : ℕ) (t : Bool) → leb (end_of i bits bs used) (length bs) ≡ t
        → (when t then sized (end_of i bits bs used) (time_in i bits bs used) else sized 0 none).size ≤ length bs
    go i bits used true e = leb-true _ _ e
    go i bits used false e = omega arith

    by : (a : Answer (ℕ × ℕ)) → (measure_by (profile_in cat categories) bs a).size ≤ length bs
    by (refused n p) = omega arith
    by (ok (bits, used)) = go (profile_in cat categories) bits used (leb (end_of (profile_in cat categories) bits bs used) (length bs)) refl

-- by what was measured
module _ (n : ℕ) (d : Cursor) (m : Measured) where
  pub by_none : m.size ≡ 0 → end_at n ≡ stood_by n d m
  unfolding when◌then◌else◌
  by_none h = rw (eq-eqb m.size 0 h)

  pub by_some : (m.size ≡ 0 → ⊥) → record { at = d; size = m.size; timed = is_some m.time; time = unwrap_or m.time 0 } ≡ stood_by n d m
  unfolding when◌then◌else◌
  by_some h = rw (ne_eqb m.size 0 h)

module _ (bs : List ℕ) where
  -- the block that it lies in
  pub at_here : (c : Cursor) → c.place < c.end → c ≡ cursor_at bs c
  unfolding cursor_at block_at when◌then◌else◌
  at_here c h = rw (lt-ltb c.place c.end h)

  module _ (c : Cursor) (h : c.end ≤ c.place) where
    pub at_open : (d : Cursor) → open_at bs c.end ≡ ok d → d ≡ cursor_at bs c
    unfolding cursor_at block_at when◌then◌else◌
    at_open d e = rw (le-ltb c.place c.end h, e)

    pub at_none : (n p : ℕ) → open_at bs c.end ≡ refused n p → end_cursor (length bs) ≡ cursor_at bs c
    unfolding cursor_at block_at when◌then◌else◌
    at_none n p e = rw (le-ltb c.place c.end h, e)

  -- the record in it
  module _ (d : Cursor) where
    pub stood_is : (m : Measured) → m ≡ measure_of d.category (part bs d.place d.end) → stood_by (length bs) d m ≡ stood_at bs d
    unfolding stood_at
    stood_is m e = ap (stood_by (length bs) d) e

    pub stood_none : (measure_of d.category (part bs d.place d.end)).size ≡ 0 → end_at (length bs) ≡ stood_at bs d
    stood_none h = by_none (length bs) d _ h ∙ stood_is _ refl

    pub stood_some : (m : Measured) → m ≡ measure_of d.category (part bs d.place d.end) → (m.size ≡ 0 → ⊥)
        → record { at = d; size = m.size; timed = is_some m.time; time = unwrap_or m.time 0 } ≡ stood_at bs d
    stood_some m e h = by_some (length bs) d m h ∙ stood_is m e

  module _ (c : Cursor) where
    pub stand_out : in_log (length bs) c ≡ false → end_at (length bs) ≡ stand_of bs c
    unfolding stand_of when◌then◌else◌
    stand_out h = rw h

    pub stand_in : in_log (length bs) c ≡ true → stood_at bs (cursor_at bs c) ≡ stand_of bs c
    unfolding stand_of when◌then◌else◌
    stand_in h = rw h

  pub cursor_found : (c : Cursor) (a : Answer Cursor) → a ≡ block_at bs c → found_in (length bs) a ≡ cursor_at bs c
  unfolding cursor_at
  cursor_found c a e = ap (found_in (length bs)) e

  -- it is in the log, not before the cursor
  pub record Comes (c d : Cursor) : Type 0 where
    pub inside : InLog (length bs) d
    pub on : c.place ≤ d.place

  pub comes : (c : Cursor) → Octets bs → InLog (length bs) c → Comes c (cursor_at bs c)
  comes c o i = by_place (ltb c.place c.end) refl
    where
      by_open : (a : Answer Cursor) → open_at bs c.end ≡ a → c.end ≤ c.place → Comes c (cursor_at bs c)
      by_open (ok d) e l =
          let s : walk.Stands (length bs) d = opens_stands bs c.end d o e in
          let p : c.end + 3 ≡ d.place = ap (λ z. z.place) (opens bs c.end d e).cursor_is in
          subst (Comes c) (at_open c l d e)
          (record { inside = record { low = s.low; within = omega (arith, s.before); high = s.high }; on = omega (arith, i.within) })
      by_open (refused n p) e l =
          subst (Comes c) (at_none c l n p e)
          (record { inside = record { low = omega arith; within = omega arith; high = omega arith }; on = omega (arith, i.within, i.high) })

      by_place : (t : Bool) → ltb c.place c.end ≡ t → Comes c (cursor_at bs c)
      by_place true e = subst (Comes c) (at_here c (ltb-true _ _ e)) (record { inside = i; on = omega arith })
      by_place false e = by_open (open_at bs c.end) refl (ltb-false _ _ e)

  pub comes_in : (c d : Cursor) → Octets bs → in_log (length bs) c ≡ true → d ≡ cursor_at bs c → InLog (length bs) d
  comes_in c d o i e = subst (InLog (length bs)) (sym e) (comes c o (in_log_lem (length bs) c i)).inside

  -- what is found from a cursor on: nothing, and then the log's end; or a record of the log
  pub data Outcome (c : Cursor) (s : Standing) : Type 0 where
    nothing : s ≡ end_at (length bs) → Outcome c s
    there : IsHead (length bs) s → c.place ≤ s.at.place → Outcome c s

  stood_outcome : (c d : Cursor) → Comes c d → Outcome c (stood_at bs d)
  stood_outcome c d k = by (measure_of d.category (part bs d.place d.end)) refl (eqb (measure_of d.category (part bs d.place d.end)).size 0) refl
    where
      by : (m : Measured) → m ≡ measure_of d.category (part bs d.place d.end) → (t : Bool) → eqb (measure_of d.category (part bs d.place d.end)).size 0 ≡ t
          → Outcome c (stood_at bs d)
      by m x true e = nothing (sym (stood_none d (eqb-true _ _ e)))
      by m x false e =
          let z : (m.size ≡ 0 → ⊥) = λ y. eqb-false _ _ e (ap (λ w. w.size) (sym x) ∙ y) in
          let f : m.size ≤ length (part bs d.place d.end) = rw x (measured_fits d.category (part bs d.place d.end)) in
          let l : length (part bs d.place d.end) ≡ d.end - d.place = length_part bs d.place d.end k.inside.high in
          subst (Outcome c) (stood_some d m x z)
          (there
          (record { some_octet = omega (arith, z); low = k.inside.low; within = k.inside.within; high = k.inside.high; inside = omega (arith, f, l) })
          k.on)

  module _ (o : Octets bs) where
    pub outcome : (c : Cursor) → Outcome c (stand_of bs c)
    outcome c = by (in_log (length bs) c) refl
      where
        by : (t : Bool) → in_log (length bs) c ≡ t → Outcome c (stand_of bs c)
        by true e = subst (Outcome c) (stand_in c e) (stood_outcome c (cursor_at bs c) (comes c o (in_log_lem (length bs) c e)))
        by false e = nothing (sym (stand_out c e))

    -- a record is there where it has an octet
    pub stand_there : (c : Cursor) → ltb 0 (stand_of bs c).size ≡ is_head (length bs) (stand_of bs c)
    stand_there c = by (outcome c)
      where
        by : Outcome c (stand_of bs c) → ltb 0 (stand_of bs c).size ≡ is_head (length bs) (stand_of bs c)
        by (nothing e) = ap (λ s. ltb 0 s.size) e ∙ sym (end_none (length bs) (length bs)) ∙ ap (is_head (length bs)) (sym e)
        by (there h on) = lt-ltb 0 (stand_of bs c).size h.some_octet ∙ sym (head_yes (length bs) (stand_of bs c) h)

    -- ---- all that come

    -- as many steps as there are octets are enough
    enough_by : (f g : ℕ) (c : Cursor) → Outcome c (stand_of bs c) → length bs - c.place < suc f → length bs - c.place < suc g
        → ((d : Cursor) → length bs - d.place < f → length bs - d.place < g → heads_up_to f bs d ≡ heads_up_to g bs d)
        → heads_up_to (suc f) bs c ≡ heads_up_to (suc g) bs c
    unfolding heads_up_to when◌then◌else◌
    enough_by f g c (nothing e) p q ih = rw (e, end_none (length bs) (length bs))
    enough_by f g c (there h on) p q ih =
        let s : Standing = stand_of bs c in
        rw (head_yes (length bs) s h)
        (ap (λ z. head_of s ∷ z) (ih (behind_of s) (omega (arith, h.some_octet, h.within, h.high, h.inside, on)) (omega (arith, h.some_octet, h.within, h.high, h.inside, on))))

    enough : (f g : ℕ) (c : Cursor) → length bs - c.place < f → length bs - c.place < g → heads_up_to f bs c ≡ heads_up_to g bs c
    enough zero g c p q = absurd (omega arith)
    enough (suc f) zero c p q = absurd (omega arith)
    enough (suc f) (suc g) c p q = enough_by f g c (outcome c) p q (λ d u v. enough f g d u v)

-- ---- the records from a standing on

pub left_none : (bs : List ℕ) (s : Standing) → is_head (length bs) s ≡ false → left_of bs s ≡ []
unfolding left_of when◌then◌else◌
left_none bs s e = rw e

pub left_head : (bs : List ℕ) (s : Standing) → is_head (length bs) s ≡ true → left_of bs s ≡ head_of s ∷ heads_left bs (behind_of s)
unfolding left_of when◌then◌else◌
left_head bs s e = rw e

-- what `stand` answers stands for all that still come
pub stands : (bs : List ℕ) → Octets bs → (c : Cursor) → Stands bs (stand_of bs c) (heads_left bs c)
unfolding heads_left heads_up_to when◌then◌else◌
stands bs o c = by (outcome bs o c)
  where
    by : Outcome bs c (stand_of bs c) → Stands bs (stand_of bs c) (heads_left bs c)
    by (nothing e) =
        let n : is_head (length bs) (stand_of bs c) ≡ false = ap (is_head (length bs)) e ∙ end_none (length bs) (length bs) in
        record { is = left_none bs (stand_of bs c) n ∙ rw n; ended = λ z. ap (λ y. y.at.place) e }
    by (there h on) =
        let n : is_head (length bs) (stand_of bs c) ≡ true = head_yes (length bs) (stand_of bs c) h in
        record {
          is =
              left_head bs (stand_of bs c) n
              ∙ ap (λ z. head_of (stand_of bs c) ∷ z)
              (enough bs o (suc (length bs - (behind_of (stand_of bs c)).place)) (length bs - c.place) (behind_of (stand_of bs c)) (omega arith)
              (omega (arith, h.some_octet, h.within, h.high, h.inside, on)))
              ∙ rw n;
          ended = λ z. absurd (true≢false (sym n ∙ z));
        }
