-- The rules of a sheet step by step, as the code goes: the marks, in one list or in two, and then the totals; and that they are the rules of `Sheet`, which
-- go by the list of an edition's fields.
--
-- In order: the steps; that they write the same; that a reading rule leaves no more than it was given; that they read the same. Assumes nothing.
use Prim.Native.Nat.{ℕ, ◌+◌, ◌-◌, ◌≤◌}
use mathlib.Core.Path.{◌≡◌, refl, sym, ap, ◌∙◌}
use mathlib.Core.Bool.{Bool, true, false}
use mathlib.Core.List.{List, [], ◌∷◌, ◌++◌, append_assoc, append-nil}
use native.Mathlib.Omega.{arith}
use lib.Dec.{eqb}
use lib.IntN.{ℤ}
use lib.ListN.{length, drop, length-drop}
use Rattle.rules.specs.Answer.{Answer, ok, refused, ◌>>=◌, need◌or◌then◌, later, Read}
use Rattle.rules.specs.declared.Edition.{Edition}
use Rattle.rules.specs.declared.Mark.{Mark}
use Rattle.rules.specs.declared.Shape.{Shape}
use Rattle.rules.specs.declared.Shape.TheVariants.{Whole, InLog}
use Rattle.rules.specs.Mark.{bytes4, marks_bytes, totals, of_log}
use Rattle.rules.specs.SheetForm.{Form, mark_fields, total_fields}
use Rattle.rules.specs.Sheet.{Sheet, offset_code, field_bytes, held_bytes, fields_bytes, sheet_bytes, read_field, read_edition, read_offset, read_list, read_total, read_held, read_fields, read_sheet}
use Rattle.rules.proofs.AnswerLaws.{ok_inj, bind_elim, bind_same, need_elim, later_inv}

-- ---- the steps

-- tag 3; or tags 5 and 6, where the marks are split by log
unfoldable pub marks_fields : Bool → List Mark → List ℕ
marks_fields false ms = field_bytes 3 (marks_bytes Whole ms)
marks_fields true ms = field_bytes 5 (marks_bytes (InLog 0) (of_log 0 ms)) ++ field_bytes 6 (marks_bytes (InLog 1) (of_log 1 ms))

-- tag 4, where there is one
unfoldable pub totals_fields : Bool → List Mark → List ℕ
totals_fields false ms = []
totals_fields true ms = field_bytes 4 (totals ms)

unfoldable pub step_bytes : Sheet → List ℕ
step_bytes s =
    field_bytes 1 (s.edition.byte ∷ [])
    ++ (field_bytes 2 (bytes4 (offset_code s.offset))
    ++ (marks_fields s.edition.split s.marks ++ totals_fields s.edition.totals s.marks))

unfoldable pub read_marks : Bool → ℕ → Read (List Mark)
read_marks false limit bs = read_list 3 Whole limit bs
read_marks true limit bs = do
  (as', bs₁) ← read_list 5 (InLog 0) limit bs
  (cs, bs₂) ← later (length bs - length bs₁) (read_list 6 (InLog 1) (limit - length as') bs₁)
  ok (as' ++ cs, bs₂)

unfoldable pub read_totals : Bool → List Mark → Read Unit
read_totals false ms bs = ok (tt, bs)
read_totals true ms bs = read_total 4 ms bs

unfoldable pub read_steps : Form → List ℕ → Answer Sheet
read_steps f bs = do
  (e, bs₁) ← read_edition f.editions bs
  (o, bs₂) ← later (length bs - length bs₁) (read_offset bs₁)
  (ms, bs₃) ← later (length bs - length bs₂) (read_marks e.split f.limit bs₂)
  (u, bs₄) ← later (length bs - length bs₃) (read_totals e.totals ms bs₃)
  later (length bs - length bs₄) (need eqb (length bs₄) 0 or 31 then ok (record { edition = e; offset = o; marks = ms }))

-- ---- the bytes are the same

fields_are : (t u : Bool) (ms : List Mark) → fields_bytes (mark_fields t ++ total_fields u) ms ≡ marks_fields t ms ++ totals_fields u ms
unfolding fields_bytes held_bytes marks_fields totals_fields
fields_are false false ms = refl
fields_are false true ms = ap (λ y. field_bytes 3 (marks_bytes Whole ms) ++ y) (append-nil (field_bytes 4 (totals ms)))
fields_are true false ms = sym (append_assoc (field_bytes 5 (marks_bytes (InLog 0) (of_log 0 ms))) (field_bytes 6 (marks_bytes (InLog 1) (of_log 1 ms))) [])
fields_are true true ms =
    ap (λ y. field_bytes 5 (marks_bytes (InLog 0) (of_log 0 ms)) ++ (field_bytes 6 (marks_bytes (InLog 1) (of_log 1 ms)) ++ y)) (append-nil (field_bytes 4 (totals ms)))
    ∙ sym (append_assoc (field_bytes 5 (marks_bytes (InLog 0) (of_log 0 ms))) (field_bytes 6 (marks_bytes (InLog 1) (of_log 1 ms))) (field_bytes 4 (totals ms)))

pub bytes_are : (s : Sheet) → sheet_bytes s ≡ step_bytes s
unfolding sheet_bytes step_bytes
bytes_are s = ap (λ y. field_bytes 1 (s.edition.byte ∷ []) ++ (field_bytes 2 (bytes4 (offset_code s.offset)) ++ y)) (fields_are s.edition.split s.edition.totals s.marks)

-- ---- what is left is no more than was given

field_leaves : (t : ℕ) (bs b rest : List ℕ) → read_field t bs ≡ ok (b, rest) → length rest ≤ length bs
unfolding read_field
field_leaves t bs b rest h =
    bind_elim _ _ h λ n p q.
    let e : drop (3 + n) bs ≡ rest = ap (λ x. x.1) (ok_inj q) in
    omega (arith, length-drop (3 + n) bs, ap length e)

edition_leaves : (es : List Edition) (bs : List ℕ) (e : Edition) (rest : List ℕ) → read_edition es bs ≡ ok (e, rest) → length rest ≤ length bs
unfolding read_edition
edition_leaves es bs e rest h =
    bind_elim _ _ h λ x p h₁.
    need_elim _ _ _ h₁ λ q h₂.
    bind_elim _ _ h₂ λ k r h₃.
    omega (arith, field_leaves 1 bs x.0 x.1 p, ap (λ y. length y.1) (ok_inj h₃))

offset_leaves : (bs rest : List ℕ) (o : ℤ) → read_offset bs ≡ ok (o, rest) → length rest ≤ length bs
unfolding read_offset
offset_leaves bs rest o h =
    bind_elim _ _ h λ x p h₁.
    need_elim _ _ _ h₁ λ q h₂.
    need_elim _ _ _ h₂ λ r h₃.
    omega (arith, field_leaves 2 bs x.0 x.1 p, ap (λ y. length y.1) (ok_inj h₃))

list_leaves : (t : ℕ) (f : Shape) (limit : ℕ) (bs : List ℕ) (ms : List Mark) (rest : List ℕ) → read_list t f limit bs ≡ ok (ms, rest) → length rest ≤ length bs
unfolding read_list
list_leaves t f limit bs ms rest h =
    bind_elim _ _ h λ x p h₁.
    need_elim _ _ _ h₁ λ q h₂.
    need_elim _ _ _ h₂ λ r h₃.
    bind_elim _ _ h₃ λ us k h₄.
    omega (arith, field_leaves t bs x.0 x.1 p, ap (λ y. length y.1) (ok_inj h₄))

-- ---- what is read is the same

-- the marks so far, and what is left
abbrev Part : Type 0
Part = List Mark × List ℕ

abbrev kept : Part → Answer Part
kept x = ok (x.0, x.1)

abbrev joined : List Mark → Part → Answer Part
joined ms x = ok (ms ++ x.0, x.1)

abbrev ended : List Mark → Unit {0} × List ℕ → Answer Part
ended ms y = ok (ms, y.1)

module _ (have limit : ℕ) where
  -- the totals, and what follows
  abbrev Ends : Bool → Part → Answer Part
  Ends u x = later (have - length x.1) (read_totals u x.0 x.1) >>= ended x.0

  abbrev rest : Bool → Part → Answer Part
  rest u x = read_fields have limit (total_fields u) x.0 x.1

  totals_read : (u : Bool) (x : Part) → rest u x ≡ Ends u x
  unfolding read_fields read_held read_totals later ◌>>=◌
  totals_read false x = refl
  totals_read true x = go (read_total 4 x.0 x.1)
    where
      go : (m : Answer (Unit {0} × List ℕ)) → (later (have - length x.1) (m >>= ended x.0) >>= kept) ≡ (later (have - length x.1) m >>= ended x.0)
      go (ok y) = refl
      go (refused n p) = refl

  one_list_lem : (u : Bool) (k : ℕ) (m : Answer Part) → (later k (m >>= kept) >>= rest u) ≡ (later k m >>= Ends u)
  unfolding later ◌>>=◌
  one_list_lem u k (ok x) = totals_read u x
  one_list_lem u k (refused n p) = refl

  -- the second list of two, after what was read
  second_list : (u : Bool) (bs : List ℕ) (x : Part) (m : Answer Part) → length x.1 ≤ length bs → length bs ≤ have
      → (later (have - length x.1) (m >>= joined x.0) >>= rest u) ≡ (later (have - length bs) (later (length bs - length x.1) m >>= joined x.0) >>= Ends u)
  unfolding later ◌>>=◌
  second_list u bs x (ok y) l h = totals_read u (x.0 ++ y.0, y.1)
  second_list u bs x (refused n p) l h = let e : have - length x.1 + p ≡ have - length bs + (length bs - length x.1 + p) = omega arith in ap (refused n) e

  abbrev log_1 : Part → Answer Part
  log_1 x = read_list 6 (InLog 1) (limit - length x.0) x.1

  two_lists : (u : Bool) (bs : List ℕ) (m : Answer Part) → ((x : Part) → m ≡ ok x → length x.1 ≤ length bs) → length bs ≤ have
      → (later (have - length bs) (m >>= kept) >>= (λ x. later (have - length x.1) (log_1 x >>= joined x.0) >>= rest u))
      ≡ (later (have - length bs) (m >>= (λ x. later (length bs - length x.1) (log_1 x) >>= joined x.0)) >>= Ends u)
  unfolding later ◌>>=◌
  two_lists u bs (ok x) l h = second_list u bs x (log_1 x) (l x refl) h
  two_lists u bs (refused n p) l h = refl

  marks_read : (t u : Bool) (bs : List ℕ) → length bs ≤ have → read_fields have limit (mark_fields t ++ total_fields u) [] bs ≡ (later (have - length bs) (read_marks t limit bs) >>= Ends u)
  unfolding read_fields read_held read_marks
  marks_read false u bs h =
      let z : limit - 0 ≡ limit = omega arith in
      ap (λ y. later (have - length bs) (read_list 3 Whole y bs >>= kept) >>= rest u) z ∙ one_list_lem u (have - length bs) (read_list 3 Whole limit bs)
  marks_read true u bs h =
      let z : limit - 0 ≡ limit = omega arith in
      ap (λ y. later (have - length bs) (read_list 5 (InLog 0) y bs >>= kept) >>= (λ x. later (have - length x.1) (log_1 x >>= joined x.0) >>= rest u)) z
      ∙ two_lists u bs (read_list 5 (InLog 0) limit bs) (λ x e. list_leaves 5 (InLog 0) limit bs x.0 x.1 e) h

-- what follows the totals may follow each step
third : (m : Answer (Unit {0} × List ℕ)) (ms : List Mark) (k : Part → Answer Sheet) → ((m >>= ended ms) >>= k) ≡ (m >>= (λ v. k (ms, v.1)))
unfolding ◌>>=◌
third (ok v) ms k = refl
third (refused n p) ms k = refl

second : (m : Answer Part) (t : Part → Answer (Unit {0} × List ℕ)) (k : Part → Answer Sheet)
    → ((m >>= (λ x. t x >>= ended x.0)) >>= k) ≡ (m >>= (λ x. t x >>= (λ v. k (x.0, v.1))))
unfolding ◌>>=◌
second (ok x) t k = third (t x) x.0 k
second (refused n p) t k = refl

pub read_is : (f : Form) (bs : List ℕ) → read_sheet f bs ≡ read_steps f bs
unfolding read_sheet read_steps
read_is f bs =
    bind_same (read_edition f.editions bs) _ _ (λ x p.
    bind_same (later (length bs - length x.1) (read_offset x.1)) _ _ (λ y q.
    let l : length y.1 ≤ length bs = omega (arith, edition_leaves f.editions bs x.0 x.1 p, offset_leaves x.1 y.1 y.0 (later_inv _ _ q)) in
    let k : Part → Answer Sheet = λ z. later (length bs - length z.1) (need eqb (length z.1) 0 or 31 then ok (record { edition = x.0; offset = y.0; marks = z.0 })) in
    ap (λ m. m >>= k) (marks_read (length bs) f.limit x.0.split x.0.totals y.1 l)
    ∙ second (later (length bs - length y.1) (read_marks x.0.split f.limit y.1)) (λ z. later (length bs - length z.1) (read_totals x.0.totals z.0 z.1)) k))
