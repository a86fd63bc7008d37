-- What holds of changed sheets: each is read back with the marks that it should have. Assumes nothing.
--
-- In order: the order of marks; inserting and removing, each undone by the other; the round trips; one set of marks has one sheet; adding, removing,
-- emptying; adding and removing are inverse; marks that are lent; from one form to a later one.
use Prim.Native.Nat.{ℕ, suc, ◌+◌, ◌*◌, ◌/◌, ◌%◌, ◌≤◌, ◌<◌}
use mathlib.Core.Path.{◌≡◌, refl, sym, ap, ap₂, ◌∙◌, subst}
use mathlib.Core.Logic.{⊎_elim, ◌⊎◌, inl, inr, ◌↔◌}
use mathlib.Core.Bool.{Bool, true, false, ◌||◌, not, true≢false}
use mathlib.Core.List.{List, [], ◌∷◌, append-nil}
use native.Mathlib.Omega.{arith}
use lib.Dec.{T, leb, ltb, eqb, leb→le, le→leb, ltb→lt, lt→ltb, eqb_refl}
use borrow.Author.Tests.{le-leb, lt-ltb, le-ltb, eq-eqb, eqb-true, ltb-true, ltb-false}
use lib.ListN.{length}
use lib.IntN.{ℤ}
use Rattle.rules.specs.Answer.{Answer, ok, refused, ◌>>=◌, need◌or◌then◌, when◌then◌else◌}
use Rattle.rules.specs.declared.Mark.{Mark}
use Rattle.rules.specs.declared.Shape.TheVariants.{Whole}
use Rattle.rules.specs.Mark.{key, marks_bytes, marks_in, rising}
use Rattle.rules.specs.declared.Edition.{Edition}
use Rattle.rules.specs.SheetForm.{Form}
use Rattle.rules.specs.Merge.{in_range}
use Rattle.rules.specs.Sheet.{edition_of, Sheet, sheet_bytes, told_edition, write_sheet, read_sheet}
use Rattle.rules.specs.SheetChange.{or_else, back_of, with_marks, is_at, has, insert, without, sheet_add, sheet_remove, sheet_empty, at_start, write_marks}
use Rattle.rules.proofs.AnswerLaws.{ok_inj, bind_in, bind_elim, need_in, need_elim, both_left, both_right, T_true, Octets}
use Rattle.rules.proofs.Codec.{and_inv, and_in, is_true, decide}
use Rattle.rules.proofs.MarkLaws.{Legal, legal, ok_mark_lem, Rises, rises, rising_in, rising_nil, marks_length, marks_back}
use Rattle.rules.proofs.SplitLaws.{lower}
use Rattle.rules.proofs.SheetLaws.{edition_forth, Known, known, Fits, Came, sheet_back, sheet_forth}

-- ---- the order of marks
-- a log and a place have one key, and a key one log and place
key_inj : (a b : Mark) → Legal a → Legal b → key a ≡ key b → (a.log ≡ b.log) × (a.place ≡ b.place)
key_inj a b p q e = (omega (arith, p.place, q.place), omega (arith, p.place, q.place, p.log, q.log))

abbrev pub In : Mark → List Mark → Type 0
In m [] = ⊥
In m (x ∷ ms) = (m ≡ x) ⊎ In m ms

in_above : (least : ℕ) (ms : List Mark) (m : Mark) → T (rising Whole least ms) → In m ms → least ≤ key m
in_above least [] m r i = absurd i
in_above least (x ∷ ms) m r i =
    let s : Rises Whole least x ms = rises Whole least x ms r in
    ⊎_elim (λ (e : m ≡ x). omega (arith, ap key e, s.above)) (λ (j : In m ms). omega (arith, in_above (suc (key x)) ms m s.more j, s.above)) i

same_marks : (least least' : ℕ) (xs ys : List Mark) → T (rising Whole least xs) → T (rising Whole least' ys) → ((m : Mark) → In m xs → In m ys) → ((m : Mark) → In m ys → In m xs) → xs ≡ ys
same_marks least least' [] [] r t f g = refl
same_marks least least' [] (y ∷ ys) r t f g = absurd (g y (inl refl))
same_marks least least' (x ∷ xs) [] r t f g = absurd (f x (inl refl))
same_marks least least' (x ∷ xs) (y ∷ ys) r t f g =
    let s : Rises Whole least x xs = rises Whole least x xs r in
    let u : Rises Whole least' y ys = rises Whole least' y ys t in
    let le : (m : Mark) → In m (y ∷ ys) → key y ≤ key m = λ m i. ⊎_elim (λ (e : m ≡ y). omega (arith, ap key e)) (λ (j : In m ys). omega (arith, in_above (suc (key y)) ys m u.more j)) i in
    let ge : (m : Mark) → In m (x ∷ xs) → key x ≤ key m = λ m i. ⊎_elim (λ (e : m ≡ x). omega (arith, ap key e)) (λ (j : In m xs). omega (arith, in_above (suc (key x)) xs m s.more j)) i in
    let e : x ≡ y =
    ⊎_elim (λ (e : x ≡ y). e) (λ (j : In x ys). absurd (omega (arith, in_above (suc (key y)) ys x u.more j, ge y (g y (inl refl))))) (f x (inl refl)) in
    ap₂ (λ a b. a ∷ b) e
    (same_marks (suc (key x)) (suc (key y)) xs ys s.more u.more
    (λ m i. ⊎_elim (λ (q : m ≡ y). absurd (omega (arith, in_above (suc (key x)) xs m s.more i, ap key q, ap key e))) (λ (j : In m ys). j) (f m (inr i)))
    (λ m i. ⊎_elim (λ (q : m ≡ x). absurd (omega (arith, in_above (suc (key y)) ys m u.more i, ap key q, ap key e))) (λ (j : In m xs). j) (g m (inr i))))

-- ---- inserting and removing
or_false : (a b : Bool) → T (not (a || b)) → (a ≡ false) × T (not b)
or_false true b h = absurd h
or_false false b h = (refl, h)

not_at : (l p : ℕ) (x : Mark) → is_at l p x ≡ false → x.log ≡ l → x.place ≡ p → ⊥
not_at l p x h a b =
    true≢false
    (sym (is_true (is_at l p x) (and_in (eqb x.log l) _ (subst (λ z. T (eqb x.log z)) a (eqb_refl x.log)) (subst (λ z. T (eqb x.place z)) b (eqb_refl x.place)))) ∙ h)

insert_low : (m x : Mark) (ms : List Mark) → key x < key m → insert m (x ∷ ms) ≡ x ∷ insert m ms
unfolding insert
insert_low m x ms h = rw (lt-ltb (key x) (key m) h)

insert_here : (m x : Mark) (ms : List Mark) → key m ≤ key x → insert m (x ∷ ms) ≡ m ∷ x ∷ ms
unfolding insert
insert_here m x ms h = rw (le-ltb (key x) (key m) h)

insert_nil : (m : Mark) → insert m [] ≡ m ∷ []
unfolding insert
insert_nil m = refl

pub insert_length : (m : Mark) (ms : List Mark) → length (insert m ms) ≡ suc (length ms)
insert_length m [] = rw (insert_nil m)
insert_length m (x ∷ ms) =
    ⊎_elim (λ e. rw (insert_low m x ms (ltb-true _ _ e)) (ap suc (insert_length m ms))) (λ e. rw (insert_here m x ms (ltb-false _ _ e))) (decide (ltb (key x) (key m)))

pub insert_rising : (least : ℕ) (m : Mark) (ms : List Mark) → Legal m → least ≤ key m → T (not (has m.log m.place ms)) → T (rising Whole least ms) → T (rising Whole least (insert m ms))
unfolding has
insert_rising least m [] l h n r = rw (insert_nil m) (rising_in Whole least m [] (record { legal = l; shape = tt; above = h; more = rising_nil Whole (suc (key m)) }))
insert_rising least m (x ∷ ms) l h n r =
    let s : Rises Whole least x ms = rises Whole least x ms r in
    let (a, b) = or_false (is_at m.log m.place x) _ n in
    ⊎_elim
    (λ (e : ltb (key x) (key m) ≡ true).
    let k : key x < key m = ltb-true (key x) (key m) e in
    rw (insert_low m x ms k) (rising_in Whole least x (insert m ms)
    (record { legal = s.legal; shape = tt; above = s.above; more = insert_rising (suc (key x)) m ms l k b s.more })))
    (λ (e : ltb (key x) (key m) ≡ false).
    let k : key m ≤ key x = ltb-false (key x) (key m) e in
    let d : key x ≡ key m → ⊥ = λ q. let (u, v) = key_inj x m s.legal l q in not_at m.log m.place x a u v in
    let c : key m < key x = strict (key m) (key x) k d in
    rw (insert_here m x ms k) (rising_in Whole least m (x ∷ ms)
    (record { legal = l; shape = tt; above = h; more = rising_in Whole (suc (key m)) x ms (record { legal = s.legal; shape = tt; above = c; more = s.more }) })))
    (decide (ltb (key x) (key m)))
  where
    strict : (a b : ℕ) → a ≤ b → (b ≡ a → ⊥) → a < b
    strict a b h n = omega arith

pub insert_in : (m : Mark) (ms : List Mark) (x : Mark) → In x (insert m ms) ↔ ((x ≡ m) ⊎ In x ms)
insert_in m [] x = rw (insert_nil m) (λ i. i, λ i. i)
insert_in m (y ∷ ms) x =
    ⊎_elim
    (λ (e : ltb (key y) (key m) ≡ true).
    rw (insert_low m y ms (ltb-true _ _ e)) (
      λ i. ⊎_elim (λ (q : x ≡ y). inr (inl q)) (λ j. ⊎_elim (λ (q : x ≡ m). inl q) (λ k. inr (inr k)) ((insert_in m ms x).0 j)) i,
      λ i. ⊎_elim (λ (q : x ≡ m). inr ((insert_in m ms x).1 (inl q))) (λ j. ⊎_elim (λ (q : x ≡ y). inl q) (λ k. inr ((insert_in m ms x).1 (inr k))) j) i,
    ))
    (λ (e : ltb (key y) (key m) ≡ false). rw (insert_here m y ms (ltb-false _ _ e)) (λ i. i, λ i. i))
    (decide (ltb (key y) (key m)))

without_here : (l p : ℕ) (x : Mark) (ms : List Mark) → is_at l p x ≡ true → without l p (x ∷ ms) ≡ ms
unfolding without
without_here l p x ms e = rw e

without_later : (l p : ℕ) (x : Mark) (ms : List Mark) → is_at l p x ≡ false → without l p (x ∷ ms) ≡ x ∷ without l p ms
unfolding without
without_later l p x ms e = rw e

without_nil : (l p : ℕ) → without l p [] ≡ []
unfolding without
without_nil l p = refl

pub without_rising : (least l p : ℕ) (ms : List Mark) → T (rising Whole least ms) → T (rising Whole least (without l p ms))
without_rising least l p [] r = rw (without_nil l p) (rising_nil Whole least)
without_rising least l p (x ∷ ms) r =
    let s : Rises Whole least x ms = rises Whole least x ms r in
    ⊎_elim
    (λ (e : is_at l p x ≡ true). rw (without_here l p x ms e) (lower Whole (suc (key x)) least ms (omega (arith, s.above)) s.more))
    (λ (e : is_at l p x ≡ false). rw (without_later l p x ms e) (rising_in Whole least x (without l p ms)
    (record { legal = s.legal; shape = tt; above = s.above; more = without_rising (suc (key x)) l p ms s.more })))
    (decide (is_at l p x))

pub without_length : (l p : ℕ) (ms : List Mark) → length (without l p ms) ≤ length ms
without_length l p [] = rw (without_nil l p) (omega arith)
without_length l p (x ∷ ms) =
    ⊎_elim (λ (e : is_at l p x ≡ true). rw (without_here l p x ms e) (omega arith)) (λ (e : is_at l p x ≡ false). rw (without_later l p x ms e) (omega (arith, without_length l p ms))) (decide (is_at l p x))

-- ---- inserting, then removing; removing, then inserting
at_own : (m : Mark) → is_at m.log m.place m ≡ true
at_own m = rw (eq-eqb m.log m.log refl, eq-eqb m.place m.place refl)

at_inv : (l p : ℕ) (x : Mark) → is_at l p x ≡ true → (x.log ≡ l) × (x.place ≡ p)
at_inv l p x h = (eqb-true x.log l (both_left (eqb x.log l) (eqb x.place p) h), eqb-true x.place p (both_right (eqb x.log l) (eqb x.place p) h))

or_true : (a b : Bool) → b ≡ true → (a || b) ≡ true
or_true true b h = refl
or_true false b h = h

has_insert : (m : Mark) (ms : List Mark) → has m.log m.place (insert m ms) ≡ true
unfolding has
has_insert m [] = rw (insert_nil m, at_own m)
has_insert m (x ∷ ms) =
    ⊎_elim
    (λ e. rw (insert_low m x ms (ltb-true _ _ e)) (or_true (is_at m.log m.place x) _ (has_insert m ms)))
    (λ e. rw (insert_here m x ms (ltb-false _ _ e), at_own m))
    (decide (ltb (key x) (key m)))

without_insert : (m : Mark) (ms : List Mark) → T (not (has m.log m.place ms)) → without m.log m.place (insert m ms) ≡ ms
unfolding has
without_insert m [] n = rw (insert_nil m) (without_here m.log m.place m [] (at_own m))
without_insert m (x ∷ ms) n =
    let (a, b) = or_false (is_at m.log m.place x) _ n in
    ⊎_elim
    (λ e. rw (insert_low m x ms (ltb-true _ _ e)) (without_later m.log m.place x (insert m ms) a ∙ ap (λ y. x ∷ y) (without_insert m ms b)))
    (λ e. rw (insert_here m x ms (ltb-false _ _ e)) (without_here m.log m.place m (x ∷ ms) (at_own m)))
    (decide (ltb (key x) (key m)))

in_legal : (least : ℕ) (ms : List Mark) (m : Mark) → T (rising Whole least ms) → In m ms → Legal m
in_legal least [] m r i = absurd i
in_legal least (x ∷ ms) m r i =
    let s : Rises Whole least x ms = rises Whole least x ms r in
    ⊎_elim (λ (e : m ≡ x). subst Legal (sym e) s.legal) (λ (j : In m ms). in_legal (suc (key x)) ms m s.more j) i

none_above : (l p least : ℕ) (ms : List Mark) → l * 4294967296 + p < least → T (rising Whole least ms) → has l p ms ≡ false
unfolding has
none_above l p least [] h r = refl
none_above l p least (x ∷ ms) h r =
    let s : Rises Whole least x ms = rises Whole least x ms r in
    ⊎_elim
    (λ (e : is_at l p x ≡ true). let (a, b) = at_inv l p x e in absurd (omega (arith, s.above)))
    (λ (e : is_at l p x ≡ false). rw e (none_above l p (suc (key x)) ms (omega (arith, s.above)) s.more))
    (decide (is_at l p x))

without_none : (l p least : ℕ) (ms : List Mark) → T (rising Whole least ms) → has l p (without l p ms) ≡ false
unfolding has
without_none l p least [] r = rw (without_nil l p)
without_none l p least (x ∷ ms) r =
    let s : Rises Whole least x ms = rises Whole least x ms r in
    ⊎_elim
    (λ (e : is_at l p x ≡ true). let (a, b) = at_inv l p x e in rw (without_here l p x ms e) (none_above l p (suc (key x)) ms (omega arith) s.more))
    (λ (e : is_at l p x ≡ false). rw (without_later l p x ms e, e) (without_none l p (suc (key x)) ms s.more))
    (decide (is_at l p x))

-- a mark further on is at another log and place
not_first : (m x : Mark) (ms : List Mark) → T (rising Whole (suc (key x)) ms) → In m ms → is_at m.log m.place x ≡ false
not_first m x ms r i =
    ⊎_elim
    (λ (e : is_at m.log m.place x ≡ true). let (a, b) = at_inv m.log m.place x e in absurd (omega (arith, in_above (suc (key x)) ms m r i)))
    (λ (e : is_at m.log m.place x ≡ false). e)
    (decide (is_at m.log m.place x))

insert_first : (m : Mark) (least : ℕ) (ms : List Mark) → key m < least → T (rising Whole least ms) → insert m ms ≡ m ∷ ms
insert_first m least [] h r = insert_nil m
insert_first m least (y ∷ ms) h r = let s : Rises Whole least y ms = rises Whole least y ms r in insert_here m y ms (omega (arith, s.above))

insert_without : (m : Mark) (least : ℕ) (ms : List Mark) → T (rising Whole least ms) → In m ms → insert m (without m.log m.place ms) ≡ ms
insert_without m least [] r i = absurd i
insert_without m least (x ∷ ms) r i =
    let s : Rises Whole least x ms = rises Whole least x ms r in
    ⊎_elim
    (λ (e : m ≡ x).
    rw (without_here m.log m.place x ms (subst (λ y. is_at m.log m.place y ≡ true) e (at_own m))) (insert_first m (suc (key x)) ms (omega (arith, ap key e)) s.more ∙ ap (λ y. y ∷ ms) e))
    (λ (j : In m ms).
    rw (without_later m.log m.place x ms (not_first m x ms s.more j))
    (insert_low m x (without m.log m.place ms) (omega (arith, in_above (suc (key x)) ms m s.more j)) ∙ ap (λ y. x ∷ y) (insert_without m (suc (key x)) ms s.more j)))
    i

without_fewer : (m : Mark) (ms : List Mark) (least : ℕ) → T (rising Whole least ms) → In m ms → suc (length (without m.log m.place ms)) ≡ length ms
without_fewer m ms least r i = sym (insert_length m (without m.log m.place ms)) ∙ ap length (insert_without m least ms r i)

-- ---- the theorems, over any form whose limit is no more than a field can hold
pub record Changed (f : Form) (bs cs : List ℕ) (g : List Mark → List Mark) : Type 0 where
  pub old : Sheet
  pub reads : read_sheet f bs ≡ ok old
  pub back : read_sheet f cs ≡ ok (with_marks f old (g old.marks))

-- the same test twice
twice_asked : {A : Type 0} (t : Bool) (n : ℕ) (x : Answer A) → (need t or n then (need t or n then x)) ≡ (need t or n then x)
unfolding need◌or◌then◌
twice_asked true n x = refl
twice_asked false n x = refl

-- what is told is known
pub told_known : (f : Form) (n : ℕ) (e : Edition) → told_edition f n ≡ ok e → (Known f.editions e) × (e.byte ≡ n)
unfolding told_edition
told_known f n e h =
    bind_elim _ _ h λ x p h₁.
    need_elim _ _ _ h₁ λ q h₂.
    subst (λ y. (Known f.editions y) × (y.byte ≡ n)) (ok_inj h₂) (known f.editions n x p, edition_forth f.editions n x p)

-- what a sheet is written back as is known
back_known : (f : Form) (e : Edition) → Known f.editions e → Known f.editions (back_of f e)
unfolding back_of when◌then◌else◌
back_known f e k = go (leb f.least e.byte)
  where
    other : (a : Answer Edition) → edition_of f.editions f.least ≡ a → Known f.editions (or_else a e)
    other (ok x) q = known f.editions f.least x q
    other (refused n p) q = k

    go : (t : Bool) → Known f.editions (when t then e else or_else (edition_of f.editions f.least) e)
    go true = k
    go false = other (edition_of f.editions f.least) refl

module _ (f : Form) (small : f.limit ≤ 8191) where
  -- what was written is read back
  pub read_write : (n : ℕ) (o : ℤ) (ms : List Mark) (bs : List ℕ) → write_sheet f n o ms ≡ ok bs
      → (e : Edition) × (told_edition f n ≡ ok e) × (read_sheet f bs ≡ ok (record { edition = e; offset = o; marks = ms }))
  unfolding write_sheet
  read_write n o ms bs h =
      need_elim _ _ _ h λ p h₁.
      bind_elim _ _ h₁ λ e k h₂.
      need_elim _ _ _ h₂ λ q h₃.
      let (a, b) = and_inv (in_range o) _ q in
      (e, k, ap (read_sheet f) (sym (ok_inj h₃)) ∙ sheet_back f small (record { edition = e; offset = o; marks = ms }) (record { edition = (told_known f n e k).0; offset = a; marks = record { rise = b; few = leb→le _ _ p } }))

  -- what was read is written again, but for an edition that is no longer written
  pub write_read : (n : ℕ) (s : Sheet) (bs : List ℕ) → Octets bs → read_sheet f bs ≡ ok s → told_edition f n ≡ ok s.edition → write_sheet f n s.offset s.marks ≡ ok bs
  unfolding write_sheet
  write_read n s bs b h e =
      let c : Came f small bs s = sheet_forth f small bs s b h in
      need_in _ _ (le→leb _ _ c.good.marks.few)
      (bind_in _ e (need_in _ _ (and_in (in_range s.offset) _ c.good.offset c.good.marks.rise) (ap ok (sym c.is))))

  -- one set of marks and offset has one sheet of an edition
  pub one_sheet : (bs cs : List ℕ) (s t : Sheet) → Octets bs → Octets cs → read_sheet f bs ≡ ok s → read_sheet f cs ≡ ok t
      → s.edition ≡ t.edition → s.offset ≡ t.offset → ((m : Mark) → In m s.marks → In m t.marks) → ((m : Mark) → In m t.marks → In m s.marks) → bs ≡ cs
  one_sheet bs cs s t b c h k e o g i =
      let x : Came f small bs s = sheet_forth f small bs s b h in
      let y : Came f small cs t = sheet_forth f small cs t c k in
      let m : s.marks ≡ t.marks = same_marks 0 0 s.marks t.marks x.good.marks.rise y.good.marks.rise g i in
      let st : s ≡ t =
      ap₂ (λ e o. record { edition = e; offset = o; marks = s.marks }) e o ∙ ap (λ m. record { edition = t.edition; offset = t.offset; marks = m }) m in
      x.is ∙ ap sheet_bytes st ∙ sym y.is

  -- a changed sheet is accepted, so its marks rise and its totals are a fresh count; and it has the marks that it should have
  changed_back : (bs cs : List ℕ) (s : Sheet) (ms : List Mark) → Octets bs → read_sheet f bs ≡ ok s → Fits Whole f.limit ms → sheet_bytes (with_marks f s ms) ≡ cs → read_sheet f cs ≡ ok (with_marks f s ms)
  changed_back bs cs s ms b p g e =
      let c : Came f small bs s = sheet_forth f small bs s b p in
      ap (read_sheet f) (sym e) ∙ sheet_back f small (with_marks f s ms) (record { edition = back_known f s.edition c.good.edition; offset = c.good.offset; marks = g })

  pub add_reads : (m : Mark) (bs cs : List ℕ) → Octets bs → sheet_add f m bs ≡ ok cs → Changed f bs cs (insert m)
  unfolding sheet_add
  add_reads m bs cs b h =
      bind_elim _ _ h λ s p h₁.
      need_elim _ _ _ h₁ λ q h₂.
      need_elim _ _ _ h₂ λ n h₃.
      need_elim _ _ _ h₃ λ l h₄.
      let c : Came f small bs s = sheet_forth f small bs s b p in
      record {
        old = s;
        reads = p;
        back = changed_back bs cs s (insert m s.marks) b p
            (record {
              rise = insert_rising 0 m s.marks (legal m q) (omega arith) n c.good.marks.rise;
              few = omega (arith, insert_length m s.marks, ltb→lt (length s.marks) f.limit l);
            }) (ok_inj h₄);
      }

  pub remove_reads : (l p : ℕ) (bs cs : List ℕ) → Octets bs → sheet_remove f l p bs ≡ ok cs → Changed f bs cs (without l p)
  unfolding sheet_remove
  remove_reads l p bs cs b h =
      bind_elim _ _ h λ s q h₁.
      need_elim _ _ _ h₁ λ n h₂.
      let c : Came f small bs s = sheet_forth f small bs s b q in
      record {
        old = s;
        reads = q;
        back = changed_back bs cs s (without l p s.marks) b q
            (record { rise = without_rising 0 l p s.marks c.good.marks.rise; few = omega (arith, without_length l p s.marks, c.good.marks.few) }) (ok_inj h₂);
      }

  pub empty_reads : (bs cs : List ℕ) → Octets bs → sheet_empty f bs ≡ ok cs → Changed f bs cs (λ ms. [])
  unfolding sheet_empty
  empty_reads bs cs b h =
      bind_elim _ _ h λ s q h₁.
      record { old = s; reads = q; back = changed_back bs cs s [] b q (record { rise = rising_nil Whole 0; few = omega arith }) (ok_inj h₁) }

  -- ADDING AND REMOVING ARE INVERSE, of a sheet of an edition that is written
  written_again : (bs : List ℕ) (s : Sheet) (ms : List Mark) → Octets bs → read_sheet f bs ≡ ok s → back_of f s.edition ≡ s.edition → ms ≡ s.marks
      → sheet_bytes (with_marks f (with_marks f s s.marks) ms) ≡ bs
  written_again bs s ms b h e g =
      let c : Came f small bs s = sheet_forth f small bs s b h in
      ap₂ (λ x y. sheet_bytes (record { edition = x; offset = s.offset; marks = y })) (ap (back_of f) e ∙ e) g ∙ sym c.is

  pub add_remove : (m : Mark) (bs cs : List ℕ) (s : Sheet) → Octets bs → read_sheet f bs ≡ ok s → back_of f s.edition ≡ s.edition
      → sheet_add f m bs ≡ ok cs → sheet_remove f m.log m.place cs ≡ ok bs
  unfolding sheet_add sheet_remove
  add_remove m bs cs s b r e h =
      bind_elim _ _ h λ t p h₁.
      need_elim _ _ _ h₁ λ q h₂.
      need_elim _ _ _ h₂ λ n h₃.
      let ts : t ≡ s = ok_inj (sym p ∙ r) in
      let c : Changed f bs cs (insert m) = add_reads m bs cs b h in
      let os : c.old ≡ s = ok_inj (sym c.reads ∙ r) in
      let back : read_sheet f cs ≡ ok (with_marks f s (insert m s.marks)) = c.back ∙ ap (λ x. ok (with_marks f x (insert m x.marks))) os in
      let none : T (not (has m.log m.place s.marks)) = subst (λ x. T (not (has m.log m.place x.marks))) ts n in
      bind_in _ back (need_in _ _ (T_true (has_insert m s.marks)) (ap ok (written_again bs s _ b r e (without_insert m s.marks none))))

  pub remove_add : (m : Mark) (bs cs : List ℕ) (s : Sheet) → Octets bs → read_sheet f bs ≡ ok s → back_of f s.edition ≡ s.edition → In m s.marks
      → sheet_remove f m.log m.place bs ≡ ok cs → sheet_add f m cs ≡ ok bs
  unfolding sheet_add
  remove_add m bs cs s b r e i h =
      let c : Changed f bs cs (without m.log m.place) = remove_reads m.log m.place bs cs b h in
      let os : c.old ≡ s = ok_inj (sym c.reads ∙ r) in
      let back : read_sheet f cs ≡ ok (with_marks f s (without m.log m.place s.marks)) = c.back ∙ ap (λ x. ok (with_marks f x (without m.log m.place x.marks))) os in
      let g : Came f small bs s = sheet_forth f small bs s b r in
      let rise : T (rising Whole 0 s.marks) = g.good.marks.rise in
      let l : length (without m.log m.place s.marks) < f.limit = omega (arith, without_fewer m s.marks 0 rise i, g.good.marks.few) in
      bind_in _ back
      (need_in _ _ (ok_mark_lem m (in_legal 0 s.marks m rise i))
      (need_in _ _ (T_true (ap not (without_none m.log m.place 0 s.marks rise)))
      (need_in _ _ (lt→ltb _ _ l) (ap ok (written_again bs s _ b r e (insert_without m 0 s.marks rise i))))))

  -- marks that are lent, rising and legal, are written as any marks
  pub lent_marks : (n : ℕ) (o : ℤ) (ms : List Mark) → T (rising Whole 0 ms) → write_marks f n o (marks_bytes Whole ms) ≡ write_sheet f n o ms
  unfolding write_marks write_sheet at_start ◌>>=◌ need◌or◌then◌
  lent_marks n o ms r =
      let l : length (marks_bytes Whole ms) ≡ length ms * 8 = marks_length Whole ms in
      let q : length ms * 8 / 8 ≡ length ms = omega arith in
      let z : length ms * 8 % 8 ≡ 0 = omega arith in
      let k : marks_in Whole 0 (length ms) (marks_bytes Whole ms) ≡ ok ms = ap (marks_in Whole 0 (length ms)) (sym (append-nil (marks_bytes Whole ms))) ∙ marks_back Whole 0 ms [] r in
      rw (l, q, z, k) (twice_asked (leb (length ms) f.limit) 34 _)

-- ---- from one form to a later one: what was accepted still is, and means the same
pub record Later (f g : Form) : Type 0 where
  pub more : f.limit ≤ g.limit
  pub known : (e : Edition) → Known f.editions e → Known g.editions e

pub still_read : (f g : Form) → Later f g → g.limit ≤ 8191 → (bs : List ℕ) (s : Sheet) → Octets bs → read_sheet f bs ≡ ok s → read_sheet g bs ≡ ok s
still_read f g l small bs s b h =
    let c : Came f (omega (arith, l.more)) bs s = sheet_forth f (omega (arith, l.more)) bs s b h in
    ap (read_sheet g) c.is ∙ sheet_back g small s
    (record { edition = l.known s.edition c.good.edition; offset = c.good.offset; marks = record { rise = c.good.marks.rise; few = omega (arith, c.good.marks.few, l.more) } })

-- a higher limit and nothing else (W-209): what could be written is, with the same bytes
pub same_bytes : (f g : Form) → f.limit ≤ g.limit → f.least ≡ g.least → f.editions ≡ g.editions → (n : ℕ) (o : ℤ) (ms : List Mark) → length ms ≤ f.limit → write_sheet f n o ms ≡ write_sheet g n o ms
unfolding write_sheet told_edition need◌or◌then◌
same_bytes f g l e d n o ms h = rw (le-leb (length ms) f.limit h, le-leb (length ms) g.limit (omega arith), e, d)
