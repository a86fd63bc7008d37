-- So many steps at once, turn by turn: the numbers that are stored, and what is still to come. Assumes nothing.
use Prim.Native.Nat.{ℕ, zero, suc, ◌+◌, ◌*◌, ◌-◌, ◌<◌, ◌≤◌}
use mathlib.Core.Path.{◌≡◌, refl, sym, ap, ap₂, ◌∙◌, subst}
use mathlib.Core.Bool.{true, false}
use mathlib.Core.Option.{Option, none, some}
use mathlib.Core.List.{List, [], ◌∷◌, ◌++◌, append-nil, append_assoc}
use native.Mathlib.Omega.{arith}
use lib.Dec.{ltb}
use lib.ListN.{length, set, get_or, take, drop, length-append, length-set}
use lib.Seq.{sets, length-sets, drop-drop}
use borrow.Rule.Slice.PartMut.{put_mid}
use Rattle.std.proofs.lemmas.List.Edits.{sets-eq}
use borrow.Author.Tests.{lt-ltb, le-ltb}
use Rattle.rules.specs.Answer.{when◌then◌else◌}
use Rattle.rules.specs.Entry.{over}
use Rattle.rules.proofs.AnswerLaws.{Octets}
use Rattle.layouts.proofs.Stores.{sets_append, sets_over}
use Rattle.merging.specs.declared.run.Merge.{Merge}
use Rattle.merging.specs.declared.run.Side.{Side}
use Rattle.merging.specs.declared.many.Ran.{Ran}
use Rattle.rules.specs.Merge.{Log, log_a, log_b, choose, next}
use Rattle.walking.specs.declared.Cursor.{Cursor}
use Rattle.merging.specs.declared.heads.Standing.{Standing}
use Rattle.merging.specs.Heads.{end_at, in_log, is_head, behind_of, stand_of}
use Rattle.merging.specs.declared.run.Log as code
use Rattle.merging.specs.declared.run.Log.TheVariants as log
use Rattle.merging.specs.Run.{log_is, digit, digit_of, time_of, side_of, which_by, which_of, with_head, Move, moved_by, move_of}
use Rattle.merging.specs.Many.{log_number, numbers_of, Many, nothing, and_then, many_of, ran_of}
use Rattle.merging.proofs.HeadLaws.{head_fits, head_behind, stand_there}
use Rattle.merging.proofs.WhichLaws.{which_by_lem, which_head}

-- ---- so many numbers in place of as many

pub six_stored : (l : List ℕ) (p : ℕ) (ns ys : List ℕ) → length ns ≡ 6 → p + 6 ≤ length l → ys ≡ ns → put_mid p (p + 6 - p) l ys ≡ sets l p ns
six_stored l p ns ys six room e =
    let k : p + (p + 6 - p) ≡ p + length ns = omega (arith, six) in
    ap₂ (λ x y. take p l ++ (x ++ y)) e (drop-drop (p + 6 - p) p l ∙ ap (λ y. drop y l) k) ∙ sym (append_assoc (take p l) ns (drop (p + length ns) l)) ∙ sym (sets-eq ns l p (omega (arith, six)))

-- ---- a record comes, or none

module _ (as' bs : List ℕ) (m : Merge) where
  abbrev Goes : Option Log → Type 0
  Goes o = o ≡ which_of m.turn (length as') m.a (length bs) m.b

  goes_is : (o : Option Log) → Goes o → moved_by as' bs m o ≡ move_of as' bs m
  unfolding move_of
  goes_is o e = ap (moved_by as' bs m) e

  record Went (l : Log) : Type 0 where
    told : next l ≡ (move_of as' bs m).told
    size : (choose l m.a m.b).size ≡ (move_of as' bs m).size
    at : (choose l m.a m.b).at ≡ (move_of as' bs m).at
    fits : (k : ℕ) → length as' < k → length bs < k → (choose l m.a m.b).at.place + (choose l m.a m.b).size < k
    within : in_log (length (choose l as' bs)) (behind_of (choose l m.a m.b)) ≡ true
    after : with_head l (stand_of (choose l as' bs) (behind_of (choose l m.a m.b))) m ≡ (move_of as' bs m).merge

  went : (l : Log) → Goes (some l) → Went l
  went log_a e =
      let h : is_head (length as') m.a ≡ true = which_head m.turn (length as') m.a (length bs) m.b log_a (sym e) in
      let g : moved_by as' bs m (some log_a) ≡ move_of as' bs m = goes_is (some log_a) e in
      record {
        told = ap (λ x. x.told) g;
        size = ap (λ x. x.size) g;
        at = ap (λ x. x.at) g;
        fits = λ k p q. omega (arith, head_fits (length as') m.a h, p);
        within = head_behind (length as') m.a h;
        after = ap (λ x. x.merge) g;
      }
  went log_b e =
      let h : is_head (length bs) m.b ≡ true = which_head m.turn (length as') m.a (length bs) m.b log_b (sym e) in
      let g : moved_by as' bs m (some log_b) ≡ move_of as' bs m = goes_is (some log_b) e in
      record {
        told = ap (λ x. x.told) g;
        size = ap (λ x. x.size) g;
        at = ap (λ x. x.at) g;
        fits = λ k p q. omega (arith, head_fits (length bs) m.b h, q);
        within = head_behind (length bs) m.b h;
        after = ap (λ x. x.merge) g;
      }

digit_few : (l : Log) → digit l < 2
digit_few log_a = omega arith
digit_few log_b = omega arith

-- ---- a step more, or none

module _ (k : ℕ) (as' bs : List ℕ) (m : Merge) where
  abbrev pub stepped : Many
  stepped = and_then (numbers_of (log_number (move_of as' bs m).told) (move_of as' bs m).size (move_of as' bs m).at) (many_of k as' bs (move_of as' bs m).merge)

  many_on : log_number (move_of as' bs m).told < 2 → many_of (suc k) as' bs m ≡ stepped
  unfolding many_of when◌then◌else◌
  many_on h = rw (lt-ltb (log_number (move_of as' bs m).told) 2 h)

  many_off : 2 ≤ log_number (move_of as' bs m).told → many_of (suc k) as' bs m ≡ nothing m
  unfolding many_of when◌then◌else◌
  many_off h = rw (le-ltb (log_number (move_of as' bs m).told) 2 h)

-- ---- the turns: what is stored and what is still to come make the whole

pub record Running (as' bs : List ℕ) (m : Merge) (old : List ℕ) (room n : ℕ) (at : Merge) (out : List ℕ) : Type 0 where
  pub few : n ≤ room
  pub done : List ℕ
  pub long : length done ≡ 6 * n
  pub kept : out ≡ sets old 0 done
  pub numbers : (many_of room as' bs m).numbers ≡ done ++ (many_of (room - n) as' bs at).numbers
  pub count : (many_of room as' bs m).count ≡ n + (many_of (room - n) as' bs at).count
  pub merge : (many_of room as' bs m).merge ≡ (many_of (room - n) as' bs at).merge

module _ (as' bs : List ℕ) (m : Merge) (old : List ℕ) (room : ℕ) where
  pub running_first : Running as' bs m old room 0 m old
  running_first =
      let z : room - 0 ≡ room = omega arith in
      record { few = omega arith; done = []; long = refl; kept = refl; numbers = rw z; count = rw z (omega arith); merge = rw z }

  module _ (n : ℕ) (at : Merge) (out : List ℕ) (r : Running as' bs m old room n at out) where
    pub running_long : length out ≡ length old
    running_long = ap length r.kept ∙ length-sets old 0 r.done

    -- what an answer says, and what is left in the output
    abbrev pub Ends : Many → Type 0
    Ends x = (◌≡◌ {A = Ran} (record { count = n; merge = at }) (ran_of x)) × (out ≡ over x.numbers old)

    ends_by : many_of (room - n) as' bs at ≡ nothing at → Ends (many_of room as' bs m)
    ends_by e =
        let c : n ≡ (many_of room as' bs m).count = let z : (many_of (room - n) as' bs at).count ≡ 0 = ap (λ y. y.count) e in omega (arith, r.count) in
        let g : at ≡ (many_of room as' bs m).merge = sym (r.merge ∙ ap (λ y. y.merge) e) in
        let d : r.done ≡ (many_of room as' bs m).numbers = sym (r.numbers ∙ ap (λ y. r.done ++ y.numbers) e ∙ append-nil r.done) in
        (ap₂ (λ y z. record { count = y; merge = z }) c g, r.kept ∙ ap (sets old 0) d ∙ sets_over (many_of room as' bs m).numbers old)

    -- no room is left
    pub running_full : n ≡ room → (◌≡◌ {A = Ran} (record { count = room; merge = at }) (ran_of (many_of room as' bs m))) × (out ≡ over (many_of room as' bs m).numbers old)
    unfolding many_of
    running_full h =
        let z : room - n ≡ 0 = omega arith in
        let e : Ends (many_of room as' bs m) = ends_by (ap (λ k. many_of k as' bs at) z) in
        (ap (λ k. record { count = k; merge = at }) (sym h) ∙ e.0, e.1)

    module _ (more : n < room) where
      left_is : room - n ≡ suc (room - (n + 1))
      left_is = omega arith

      -- nothing comes
      pub running_none : none ≡ which_of at.turn (length as') at.a (length bs) at.b → Ends (many_of room as' bs m)
      running_none e =
          let d : 2 ≤ log_number (move_of as' bs at).told = subst (λ y. 2 ≤ log_number y.told) (goes_is as' bs at none e) (omega arith) in
          ends_by (ap (λ k. many_of k as' bs at) left_is ∙ many_off (room - (n + 1)) as' bs at d)

      -- a record comes
      pub running_on : (x : Move) → x ≡ move_of as' bs at → log_number x.told < 2
          → Running as' bs m old room (n + 1) x.merge (sets out (6 * n) (numbers_of (log_number x.told) x.size x.at))
      running_on x e h =
          let ns : List ℕ = numbers_of (log_number x.told) x.size x.at in
          let w : Many = many_of (room - (n + 1)) as' bs x.merge in
          let q : 6 * n ≡ 0 + length r.done = omega (arith, r.long) in
          let y : many_of (room - n) as' bs at ≡ and_then ns w =
          ap (λ k. many_of k as' bs at) left_is
          ∙ many_on (room - (n + 1)) as' bs at (subst (λ z. log_number z.told < 2) e h)
          ∙ ap (λ z. and_then (numbers_of (log_number z.told) z.size z.at) (many_of (room - (n + 1)) as' bs z.merge)) (sym e) in
          record {
            few = omega arith;
            done = r.done ++ ns;
            long = length-append r.done ns ∙ omega (arith, r.long);
            kept = ap₂ (λ z k. sets z k ns) r.kept q ∙ sym (sets_append r.done ns old 0);
            numbers = r.numbers ∙ ap (λ z. r.done ++ z.numbers) y ∙ sym (append_assoc r.done ns w.numbers);
            count = r.count ∙ ap (λ z. n + z.count) y ∙ omega arith;
            merge = r.merge ∙ ap (λ z. z.merge) y;
          }

      module _ (l : Log) (e : some l ≡ which_of at.turn (length as') at.a (length bs) at.b) where
        abbrev x : Move
        x = move_of as' bs at

        u : Went as' bs at l
        u = went as' bs at l e

        pub running_fits : (s : Standing) → s ≡ choose l at.a at.b → (k : ℕ) → length as' < k → length bs < k → s.at.place + s.size < k
        running_fits s p k g h = subst (λ t. t.at.place + t.size < k) (sym p) (u.fits k g h)

        pub running_within : (s : Standing) → s ≡ choose l at.a at.b → (g : List ℕ) → g ≡ choose l as' bs → (c : Cursor) → c ≡ behind_of s → in_log (length g) c ≡ true
        running_within s p g q c j = ap₂ (λ t v. in_log (length t) v) q (j ∙ ap behind_of p) ∙ u.within

        -- and as it is stored
        module _ (s : Standing) (p : s ≡ choose l at.a at.b) (y : List ℕ) (z : y ≡ sets out (6 * n) (numbers_of (digit l) s.size s.at)) where
          stored : y ≡ sets out (6 * n) (numbers_of (log_number x.told) x.size x.at)
          stored =
              z
              ∙ ap (λ t. sets out (6 * n) (numbers_of (log_number t) s.size s.at)) u.told
              ∙ ap₂ (λ t v. sets out (6 * n) (numbers_of (log_number x.told) t v)) (ap (λ t. t.size) p ∙ u.size) (ap (λ t. t.at) p ∙ u.at)

          pub running_next : (g : List ℕ) → g ≡ choose l as' bs → (c : Cursor) → c ≡ behind_of s → (d : Standing) → d ≡ stand_of g c
              → Running as' bs m old room (n + 1) (with_head l d at) y
          running_next g q c j d i =
              let h : with_head l d at ≡ x.merge = ap (λ t. with_head l t at) (i ∙ ap₂ stand_of q (j ∙ ap behind_of p)) ∙ u.after in
              subst (λ t. Running as' bs m old room (n + 1) t y) (sym h)
              (subst (Running as' bs m old room (n + 1) x.merge) (sym stored) (running_on x refl (subst (λ t. log_number t < 2) u.told (digit_few l))))

-- ---- the logs' next records, in an array

abbrev pub blank : Side
blank = record { head = end_at 0; there = false }

abbrev pub side_at : List Side → ℕ → Side
side_at hs k = get_or hs k blank

abbrev pub state_of : List Side → ℕ → Merge
state_of hs turn = record { a = (side_at hs 0).head; b = (side_at hs 1).head; turn = turn }

set_a : (hs : List Side) (d : Side) → length hs ≡ 2 → (side_at (set hs 0 d) 0 ≡ d) × (side_at (set hs 0 d) 1 ≡ side_at hs 1)
set_a [] d e = absurd (omega (arith, e))
set_a (x ∷ []) d e = absurd (omega (arith, e))
set_a (x ∷ y ∷ zs) d e = (refl, refl)

set_b : (hs : List Side) (d : Side) → length hs ≡ 2 → (side_at (set hs 1 d) 0 ≡ side_at hs 0) × (side_at (set hs 1 d) 1 ≡ d)
set_b [] d e = absurd (omega (arith, e))
set_b (x ∷ []) d e = absurd (omega (arith, e))
set_b (x ∷ y ∷ zs) d e = (refl, refl)

-- the record that goes, by the number of its log
pub side_head : (hs : List Side) (l : code.Log) (k : ℕ) → k ≡ digit_of l → (side_at hs k).head ≡ choose (log_is l) (side_at hs 0).head (side_at hs 1).head
side_head hs log.A k e = ap (λ j. (side_at hs j).head) e
side_head hs log.B k e = ap (λ j. (side_at hs j).head) e

-- with whether each is there
pub record Held (as' bs : List ℕ) (m : Merge) (old : List ℕ) (room n : ℕ) (hs : List Side) (turn : ℕ) (out : List ℕ) : Type 0 where
  pub two : length hs ≡ 2
  pub in_a : (side_at hs 0).there ≡ is_head (length as') (side_at hs 0).head
  pub in_b : (side_at hs 1).there ≡ is_head (length bs) (side_at hs 1).head
  pub run : Running as' bs m old room n (state_of hs turn) out

module _ (as' bs : List ℕ) (m : Merge) (old : List ℕ) (room : ℕ) where
  pub held_first : {p q : Side} → p ≡ side_of (length as') m.a → q ≡ side_of (length bs) m.b → Held as' bs m old room 0 (p ∷ q ∷ []) m.turn old
  held_first {q = q} ea eb =
      subst (λ z. Held as' bs m old room 0 (z ∷ q ∷ []) m.turn old) (sym ea)
      (subst (λ z. Held as' bs m old room 0 (side_of (length as') m.a ∷ z ∷ []) m.turn old) (sym eb)
      (record { two = refl; in_a = refl; in_b = refl; run = running_first as' bs m old room }))

module _ (as' bs : List ℕ) (m : Merge) (old : List ℕ) (room n : ℕ) (hs : List Side) (turn : ℕ) (out : List ℕ)
    (r : Held as' bs m old room n hs turn out) (o : Option Log)
    (w : o ≡ which_by turn (side_at hs 0).there (side_at hs 1).there (time_of (side_at hs 0).head) (time_of (side_at hs 1).head)) where
  pub held_which : o ≡ which_of turn (length as') (side_at hs 0).head (length bs) (side_at hs 1).head
  held_which = w ∙ which_by_lem turn (length as') (side_at hs 0).head (length bs) (side_at hs 1).head _ _ (sym r.in_a) (sym r.in_b)

  pub held_on : n < room → Octets as' → Octets bs → (l : code.Log) → o ≡ some (log_is l) → (k : ℕ) → k ≡ digit_of l
      → (y : List ℕ) → y ≡ sets out (6 * n) (numbers_of (digit_of l) (side_at hs k).head.size (side_at hs k).head.at)
      → (g : List ℕ) → g ≡ choose (log_is l) as' bs → (c : Cursor) → c ≡ behind_of (side_at hs k).head → (d : Standing) → d ≡ stand_of g c
      → Held as' bs m old room (n + 1) (set hs k (record { head = d; there = ltb 0 d.size })) turn y
  held_on more oa ob log.A s (suc k) f y z g q c j d i = absurd (omega (arith, f))
  held_on more oa ob log.A s zero f y z g q c j d i =
      let t : Side = record { head = d; there = ltb 0 d.size } in
      let v = set_a hs t r.two in
      let e : d ≡ stand_of as' c = i ∙ ap (λ x. stand_of x c) q in
      let u : ltb 0 d.size ≡ is_head (length as') d = ap (λ x. ltb 0 x.size) e ∙ stand_there as' oa c ∙ ap (is_head (length as')) (sym e) in
      record {
        two = length-set hs 0 t ∙ r.two;
        in_a = ap (λ x. x.there) v.0 ∙ u ∙ ap (λ x. is_head (length as') x.head) (sym v.0);
        in_b = ap (λ x. x.there) v.1 ∙ r.in_b ∙ ap (λ x. is_head (length bs) x.head) (sym v.1);
        run =
            subst (λ x. Running as' bs m old room (n + 1) x y) (ap₂ (λ a b. record { a = a.head; b = b.head; turn = turn }) (sym v.0) (sym v.1))
            (running_next as' bs m old room n (state_of hs turn) out r.run more log_a (sym s ∙ held_which) (side_at hs 0).head refl y z g q c j d i);
      }
  held_on more oa ob log.B s zero f y z g q c j d i = absurd (omega (arith, f))
  held_on more oa ob log.B s (suc (suc k)) f y z g q c j d i = absurd (omega (arith, f))
  held_on more oa ob log.B s (suc zero) f y z g q c j d i =
      let t : Side = record { head = d; there = ltb 0 d.size } in
      let v = set_b hs t r.two in
      let e : d ≡ stand_of bs c = i ∙ ap (λ x. stand_of x c) q in
      let u : ltb 0 d.size ≡ is_head (length bs) d = ap (λ x. ltb 0 x.size) e ∙ stand_there bs ob c ∙ ap (is_head (length bs)) (sym e) in
      record {
        two = length-set hs 1 t ∙ r.two;
        in_a = ap (λ x. x.there) v.0 ∙ r.in_a ∙ ap (λ x. is_head (length as') x.head) (sym v.0);
        in_b = ap (λ x. x.there) v.1 ∙ u ∙ ap (λ x. is_head (length bs) x.head) (sym v.1);
        run =
            subst (λ x. Running as' bs m old room (n + 1) x y) (ap₂ (λ a b. record { a = a.head; b = b.head; turn = turn }) (sym v.0) (sym v.1))
            (running_next as' bs m old room n (state_of hs turn) out r.run more log_b (sym s ∙ held_which) (side_at hs 1).head refl y z g q c j d i);
      }
