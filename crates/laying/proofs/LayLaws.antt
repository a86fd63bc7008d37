-- What the code meets: a changed sheet, laid whole into the lent output. Assumes nothing.
--
-- In order: the lists; the whole sheet, or no room for it; the totals, where there are any.
use Prim.Native.Nat.{ℕ, ◌+◌, ◌-◌, ◌*◌, ◌≤◌, ◌<◌}
use mathlib.Core.Path.{◌≡◌, refl, sym, ap, ap₂, ◌∙◌}
use mathlib.Core.Bool.{Bool, true, false}
use mathlib.Core.List.{List, [], ◌∷◌, ◌++◌}
use native.Mathlib.Omega.{arith}
use lib.Dec.{leb}
use borrow.Author.Tests.{le-leb, lt-leb}
use lib.ListN.{length, drop, length-append}
use lib.Seq.{sets, sets-eq, length-sets}
use Rattle.rules.specs.Answer.{ok, ◌>>=◌, need◌or◌then◌}
use Rattle.rules.specs.Entry.{over}
use Rattle.rules.proofs.EntryLaws.{over_is}
use Rattle.rules.specs.declared.Shape.{Shape}
use Rattle.rules.specs.declared.Shape.TheVariants.{Whole, InLog}
use Rattle.rules.specs.declared.Edition.{Edition}
use Rattle.rules.specs.declared.Mark.{Mark}
use Rattle.rules.specs.Mark.{size, bytes4, marks_bytes, totals}
use Rattle.rules.specs.Sheet.{field_bytes}
use Rattle.rules.proofs.SheetSteps.{totals_fields}
use Rattle.rules.specs.SheetChange.{fitted}
use Rattle.rules.proofs.MarkLaws.{marks_length}
use Rattle.rules.proofs.SheetLaws.{totals_length}
use Rattle.marks.specs.Lists.{span}
use Rattle.marks.proofs.NumberLaws.{span_length}
use Rattle.viewing.specs.Read.{totals_size}
use Rattle.viewing.proofs.ListLaws.{field_size}
use Rattle.std.specs.Prelude.{Ok, Err}
use Rattle.rules.specs.declared.faults.Fault.TheVariants.{NoRoom}
use Rattle.rules.specs.declared.faults.Refusal.{Refusal}
use Rattle.laying.specs.Lay.{lists_size, lists_bytes, new_bytes, Wrote}
use Rattle.laying.proofs.PutLaws.{sets_append}

module _ (nth : ℕ → Mark) where
  list_size : (t a n : ℕ) (f : Shape) → length (field_bytes t (marks_bytes f (span nth a n))) ≡ 3 + n * size f
  list_size t a n f = field_size t (marks_bytes f (span nth a n)) ∙ ap (λ k. 3 + k) (marks_length f (span nth a n) ∙ ap (λ k. k * size f) (span_length nth a n))

  pub split_put : (t : Bool) (n k first p r : ℕ) (l x y : List ℕ) → t ≡ true → n ≡ k → first ≤ k
      → (p ≡ 11 + 3 + (first - 0) * 7) × (x ≡ sets l 11 (field_bytes 5 (marks_bytes (InLog 0) (span nth 0 (first - 0)))))
      → (r ≡ p + 3 + (n - first) * 7) × (y ≡ sets x p (field_bytes 6 (marks_bytes (InLog 1) (span nth first (n - first)))))
      → (r ≡ 11 + lists_size t k) × (y ≡ sets l 11 (lists_bytes t nth k first))
  unfolding lists_bytes
  split_put t n k first p r l x y g e h (a, b) (d, f) =
      rw g (
        omega arith,
        f ∙ ap (λ m. sets x p (field_bytes 6 (marks_bytes (InLog 1) (span nth first (m - first))))) e
            ∙ ap₂ (λ u m. sets u m (field_bytes 6 (marks_bytes (InLog 1) (span nth first (k - first))))) b (a ∙ (omega (arith, list_size 5 0 (first - 0) (InLog 0))))
            ∙ sym (sets_append (field_bytes 5 (marks_bytes (InLog 0) (span nth 0 (first - 0)))) (field_bytes 6 (marks_bytes (InLog 1) (span nth first (k - first)))) l 11),
      )

  pub whole_put : (t : Bool) (n k first r : ℕ) (l y : List ℕ) → t ≡ false → n ≡ k
      → (r ≡ 11 + 3 + (n - 0) * 8) × (y ≡ sets l 11 (field_bytes 3 (marks_bytes Whole (span nth 0 (n - 0)))))
      → (r ≡ 11 + lists_size t k) × (y ≡ sets l 11 (lists_bytes t nth k first))
  unfolding lists_bytes
  whole_put t n k first r l y g e (a, b) = rw g (omega arith, b ∙ ap (λ m. sets l 11 (field_bytes 3 (marks_bytes Whole (span nth 0 (m - 0))))) e)

  lists_length : (t : Bool) (n first : ℕ) → first ≤ n → length (lists_bytes t nth n first) ≡ lists_size t n
  unfolding lists_bytes
  lists_length true n first h =
      length-append (field_bytes 5 (marks_bytes (InLog 0) (span nth 0 (first - 0)))) (field_bytes 6 (marks_bytes (InLog 1) (span nth first (n - first))))
      ∙ omega (arith, list_size 5 0 (first - 0) (InLog 0), list_size 6 first (n - first) (InLog 1))
  lists_length false n first h = omega (arith, list_size 3 0 (n - 0) Whole)

  start_size : (k code : ℕ) → length (field_bytes 1 (k ∷ []) ++ field_bytes 2 (bytes4 code)) ≡ 11
  unfolding field_bytes bytes4
  start_size k code = refl

  totals_size_lem : (ms : List Mark) → length (field_bytes 4 (totals ms)) ≡ 15
  totals_size_lem ms = field_size 4 (totals ms) ∙ ap (λ k. 3 + k) (totals_length ms)

  last_size : (u : Bool) (ms : List Mark) → length (totals_fields u ms) ≡ totals_size u
  unfolding totals_fields
  last_size true ms = totals_size_lem ms
  last_size false ms = refl

  new_size : (e : Edition) (code n first : ℕ) → first ≤ n → length (new_bytes e code nth n first) ≡ 11 + lists_size e.split n + totals_size e.totals
  unfolding new_bytes
  new_size e code n first h =
      omega (
        arith,
        length-append (field_bytes 1 (e.byte ∷ []) ++ field_bytes 2 (bytes4 code)) (lists_bytes e.split nth n first ++ totals_fields e.totals (span nth 0 n)),
        length-append (lists_bytes e.split nth n first) (totals_fields e.totals (span nth 0 n)),
        start_size e.byte code,
        lists_length e.split n first h,
        last_size e.totals (span nth 0 n),
      )

  pub no_room : (e : Edition) (code n first z y : ℕ) (old : List ℕ) → first ≤ n → z ≡ lists_size e.split n → y ≡ totals_size e.totals → length old < 11 + z + y
      → (r : Refusal) → r.fault ≡ NoRoom → r.place ≡ 0
      → Wrote (Err r) (fitted (length old) (ok (new_bytes e code nth n first))) old old
  unfolding fitted ◌>>=◌ need◌or◌then◌
  no_room e code n first z y old h g k l r q v =
      let f : leb (length (new_bytes e code nth n first)) (length old) ≡ false = lt-leb (length (new_bytes e code nth n first)) (length old) (omega (arith, new_size e code n first h)) in
      (rw (f, q, v), rw f)

  put_all : (e : Edition) (code n first p : ℕ) (old x y new : List ℕ) → first ≤ n → x ≡ sets old 0 (field_bytes 1 (e.byte ∷ []) ++ field_bytes 2 (bytes4 code))
      → p ≡ 11 + lists_size e.split n → y ≡ sets x 11 (lists_bytes e.split nth n first) → new ≡ sets y p (totals_fields e.totals (span nth 0 n)) → new ≡ sets old 0 (new_bytes e code nth n first)
  unfolding new_bytes
  put_all e code n first p old x y new h d a b q =
      let p' : p ≡ 11 + length (lists_bytes e.split nth n first) = a ∙ ap (λ u. 11 + u) (sym (lists_length e.split n first h)) in
      let z : 0 + length (field_bytes 1 (e.byte ∷ []) ++ field_bytes 2 (bytes4 code)) ≡ 11 = omega (arith, start_size e.byte code) in
      q ∙ ap₂ (λ u v. sets u v (totals_fields e.totals (span nth 0 n))) b p'
      ∙ sym (sets_append (lists_bytes e.split nth n first) (totals_fields e.totals (span nth 0 n)) x 11)
      ∙ ap₂ (λ u v. sets u v (lists_bytes e.split nth n first ++ totals_fields e.totals (span nth 0 n))) d (sym z)
      ∙ sym (sets_append (field_bytes 1 (e.byte ∷ []) ++ field_bytes 2 (bytes4 code)) (lists_bytes e.split nth n first ++ totals_fields e.totals (span nth 0 n)) old 0)

  pub all_written : (e : Edition) (code n first z w p : ℕ) (old x y new : List ℕ) → first ≤ n → z ≡ lists_size e.split n → w ≡ totals_size e.totals → 11 + z + w ≤ length old
      → x ≡ sets old 0 (field_bytes 1 (e.byte ∷ []) ++ field_bytes 2 (bytes4 code))
      → (p ≡ 11 + lists_size e.split n) × (y ≡ sets x 11 (lists_bytes e.split nth n first))
      → new ≡ sets y p (totals_fields e.totals (span nth 0 n))
      → Wrote (Ok (11 + z + w)) (fitted (length old) (ok (new_bytes e code nth n first))) old new
  unfolding fitted ◌>>=◌ need◌or◌then◌
  all_written e code n first z w p old x y new h g k l d (a, b) q =
      let size' : length (new_bytes e code nth n first) ≡ 11 + z + w = new_size e code n first h ∙ ap₂ (λ u v. 11 + u + v) (sym g) (sym k) in
      let f : leb (length (new_bytes e code nth n first)) (length old) ≡ true = le-leb (length (new_bytes e code nth n first)) (length old) (omega arith) in
      let i : new ≡ sets old 0 (new_bytes e code nth n first) = put_all e code n first p old x y new h d a b q in
      let v : 0 + length (new_bytes e code nth n first) ≡ length (new_bytes e code nth n first) = omega arith in
      let o : new ≡ over (new_bytes e code nth n first) old =
      i ∙ sets-eq (new_bytes e code nth n first) old 0 (omega arith) ∙ ap (λ u. new_bytes e code nth n first ++ drop u old) v ∙ sym (over_is (new_bytes e code nth n first) old (omega arith)) in
      (rw f (ap ok (sym size')), rw f o)

pub after_bytes : (l x bs : List ℕ) (at : ℕ) → x ≡ sets l at bs → length x ≡ length l
after_bytes l x bs at h = ap length h ∙ length-sets l at bs

pub last_put : (t : Bool) (ms : List Mark) (at : ℕ) (l x : List ℕ) → t ≡ true → x ≡ sets l at (field_bytes 4 (totals ms)) → x ≡ sets l at (totals_fields t ms)
unfolding totals_fields
last_put t ms at l x h e = rw h e

pub last_none : (t : Bool) (ms : List Mark) (at : ℕ) (l : List ℕ) → t ≡ false → l ≡ sets l at (totals_fields t ms)
unfolding totals_fields
last_none t ms at l h = rw h
