-- What the code meets: a sheet that was read and is changed, and marks that are lent and written. Assumes nothing.
--
-- In order: editions; what is known of a sheet that was read; its new bytes, whatever the change; emptying; adding; removing; reading.
use Prim.Native.Nat.{ℕ, ◌+◌, ◌-◌, ◌*◌, ◌≤◌, ◌<◌}
use mathlib.Core.Path.{◌≡◌, refl, sym, ap, ap₂, ◌∙◌, subst}
use mathlib.Core.Logic.{⊎_elim}
use mathlib.Core.Bool.{Bool, true, false}
use mathlib.Core.List.{List, [], ◌∷◌, ◌++◌, append_assoc}
use native.Mathlib.Omega.{arith}
use lib.Dec.{T, eqb}
use borrow.Author.Tests.{le-leb, lt-leb, lt-ltb, le-ltb}
use lib.ListN.{length, take, drop, length-append}
use lib.Seq.{drop-drop, drop_at, take_at}
use lib.IntN.{ℤ}
use Rattle.rules.specs.Answer.{Answer, ok, refused, ◌>>=◌, need◌or◌then◌, when◌then◌else◌}
use Rattle.rules.proofs.AnswerLaws.{Octets}
use Rattle.rules.specs.declared.Shape.TheVariants.{Whole, InLog}
use Rattle.rules.specs.declared.Edition.{Edition}
use Rattle.rules.specs.declared.Mark.{Mark}
use Rattle.rules.specs.SheetForm.{Form, form}
use Rattle.rules.specs.Mark.{key, ok_mark, bytes4, number4, marks_bytes, rising, plus, of_log}
use Rattle.rules.specs.Sheet.{Sheet, edition_of, offset_code, field_bytes, sheet_bytes, told_edition, read_sheet}
use Rattle.rules.proofs.SheetSteps.{marks_fields, totals_fields, step_bytes, bytes_are}
use Rattle.rules.specs.SheetChange.{back_of, with_marks, has, insert, without, sheet_add, sheet_remove, sheet_empty, fitted}
use Rattle.rules.proofs.Codec.{true_is, decide}
use Rattle.rules.proofs.MarkLaws.{Legal, legal, number4_bytes4}
use Rattle.rules.proofs.SplitLaws.{split}
use Rattle.rules.proofs.SheetLaws.{Came, sheet_forth, offset_code_lem}
use Rattle.rules.proofs.SheetChangeLaws.{insert_rising, without_rising}
use Rattle.rules.proofs.SheetForms.{small}
use Rattle.marks.specs.declared.Change.TheVariants.{Insert, Skip, Clear}
use Rattle.marks.specs.declared.Tally.{Tally}
use Rattle.marks.specs.Lists.{lists_of, end_of, Held, span, marks_of, below, has_key, tally, changed, new_at}
use Rattle.std.specs.Int.{from_bool}
use Rattle.marks.proofs.MarkSteps.{plus_bool, bool_few}
use Rattle.marks.proofs.NumberLaws.{count_is, base_is, marks_are, span_append, span_length}
use Rattle.marks.proofs.ChangedLaws.{inserted, skipped, insert_at, has_key_lem, skip_at, less_first, more_first, of_few, below_few}
use Rattle.viewing.specs.declared.View.{View}
use Rattle.viewing.specs.Read.{begun, fmap, view_of}
use Rattle.viewing.proofs.ListLaws.{fmap_ok, fmap_refused}
use Rattle.viewing.proofs.SheetSteps.{edition_size, offset_size, marks_size}
use Rattle.std.specs.Prelude.{Result, Ok, Err}
use Rattle.std.specs.Result.{result_unwrap_or}
use Rattle.rules.specs.declared.faults.Fault.{Fault}
use Rattle.rules.specs.declared.faults.Refusal.{Refusal}
use Rattle.rules.specs.Told.{number_of, told}
use Rattle.laying.specs.Lay.{lists_bytes, new_bytes, Wrote}
use Rattle.sheets.specs.declared.SheetRead.{SheetRead}
use Rattle.sheets.specs.Answers.{sheet_read}

-- ---- editions

pub back_same : (f : Form) (e : Edition) → f.least ≤ e.byte → e ≡ back_of f e
unfolding back_of when◌then◌else◌
back_same f e h = rw (le-leb f.least e.byte h)

pub back_found : (f : Form) (e x : Edition) → e.byte < f.least → ok x ≡ edition_of f.editions f.least → x ≡ back_of f e
unfolding back_of when◌then◌else◌
back_found f e x h g = rw (lt-leb f.least e.byte h, ← g)

pub back_none : (f : Form) (e : Edition) (k p : ℕ) → e.byte < f.least → refused k p ≡ edition_of f.editions f.least → e ≡ back_of f e
unfolding back_of when◌then◌else◌
back_none f e k p h g = rw (lt-leb f.least e.byte h, ← g)

pub back_else : (f : Form) (e : Edition) (x : Result Edition Fault) → e.byte < f.least → begun x ≡ edition_of f.editions f.least → result_unwrap_or x e ≡ back_of f e
back_else f e (Ok r) h g = back_found f e r h g
back_else f e (Err d) h g = back_none f e (number_of d) 0 h g

-- no byte is refused but by 33 at 0
only_33 : (es : List Edition) (n : ℕ) → ◌≡◌ {A = Answer Edition} (edition_of es n >>= (λ e. refused 33 0)) (refused 33 0)
unfolding edition_of when◌then◌else◌ ◌>>=◌
only_33 [] n = refl
only_33 (x ∷ es) n = ⊎_elim (λ (t : eqb n x.byte ≡ true). rw t) (λ (t : eqb n x.byte ≡ false). rw t (only_33 es n)) (decide (eqb n x.byte))

pub told_low : (f : Form) (n : ℕ) → n < f.least → refused 33 0 ≡ told_edition f n
unfolding told_edition need◌or◌then◌
told_low f n h = rw (lt-leb f.least n h) (sym (only_33 f.editions n))

same_again : (r : Answer Edition) → (r >>= (λ e. ok e)) ≡ r
unfolding ◌>>=◌
same_again (ok e) = refl
same_again (refused k p) = refl

pub told_high : (f : Form) (n : ℕ) (r : Answer Edition) → f.least ≤ n → r ≡ edition_of f.editions n → r ≡ told_edition f n
unfolding told_edition need◌or◌then◌
told_high f n r h e = rw (le-leb f.least n h) (e ∙ sym (same_again (edition_of f.editions n)))

-- ---- what is known of a sheet that was read

pub record Seen (s : List ℕ) (k : ℕ) (v : View) : Type 0 where
  pub sheet : Sheet
  pub reads : read_sheet form s ≡ ok sheet
  pub view : v ≡ view_of k sheet
  pub tells : v.tally ≡ tally k sheet.marks
  pub held : Held v.lists s
  pub are : marks_of v.lists s ≡ sheet.marks
  pub rise : T (rising Whole 0 sheet.marks)
  pub many : v.lists.count ≡ length sheet.marks
  pub few : v.lists.count ≤ form.limit
  pub code : number4 (take 4 (drop 7 s)) ≡ offset_code sheet.offset
  pub room : 11 ≤ length s

code_at : (o : ℤ) (s x rest : List ℕ) → length x ≡ 4 → offset_code o < 4294967296 → s ≡ x ++ (field_bytes 2 (bytes4 (offset_code o)) ++ rest) → number4 (take 4 (drop 7 s)) ≡ offset_code o
unfolding field_bytes bytes4
code_at o s x rest l h e =
    let d : drop 4 s ≡ field_bytes 2 (bytes4 (offset_code o)) ++ rest = ap (drop 4) e ∙ drop_at x (field_bytes 2 (bytes4 (offset_code o)) ++ rest) 4 l in
    let d₇ : drop 7 s ≡ bytes4 (offset_code o) ++ rest = sym (drop-drop 3 4 s) ∙ ap (drop 3) d in
    ap (λ y. number4 (take 4 y)) d₇ ∙ number4_bytes4 (offset_code o) [] h

after_offset : (o : ℤ) (s x rest : List ℕ) → length x ≡ 4 → s ≡ x ++ (field_bytes 2 (bytes4 (offset_code o)) ++ rest) → drop 11 s ≡ rest
after_offset o s x rest l e =
    let d : drop 4 s ≡ field_bytes 2 (bytes4 (offset_code o)) ++ rest = ap (drop 4) e ∙ drop_at x (field_bytes 2 (bytes4 (offset_code o)) ++ rest) 4 l in
    sym (drop-drop 7 4 s) ∙ ap (drop 7) d ∙ drop_at (field_bytes 2 (bytes4 (offset_code o))) rest 7 (offset_size o)

pub seen : (s : List ℕ) (k : ℕ) (v : View) → Octets s → ok v ≡ fmap (view_of k) (read_sheet form s) → Seen s k v
unfolding step_bytes
seen s k v b h =
    let (sh, r, q) = fmap_ok (view_of k) (read_sheet form s) v h in
    let c : Came form small s sh = sheet_forth form small s sh b r in
    let is : s ≡ step_bytes sh = c.is ∙ bytes_are sh in
    let d : drop 11 s ≡ marks_fields sh.edition.split sh.marks ++ totals_fields sh.edition.totals sh.marks =
    after_offset sh.offset s (field_bytes 1 (sh.edition.byte ∷ [])) (marks_fields sh.edition.split sh.marks ++ totals_fields sh.edition.totals sh.marks) (edition_size sh.edition) is in
    let z : 11 + length (marks_fields sh.edition.split sh.marks) ≡ end_of (lists_of sh.edition.split 14 sh.marks) = marks_size sh.edition.split sh.marks c.good.marks.rise in
    let l : length s ≡ 4 + (7 + length (marks_fields sh.edition.split sh.marks ++ totals_fields sh.edition.totals sh.marks)) =
    ap length is ∙ length-append (field_bytes 1 (sh.edition.byte ∷ [])) _ ∙ ap₂ (λ u v. u + v) (edition_size sh.edition) (length-append (field_bytes 2 (bytes4 (offset_code sh.offset))) _ ∙ ap (λ u. u + length (marks_fields sh.edition.split sh.marks ++ totals_fields sh.edition.totals sh.marks)) (offset_size sh.offset)) in
    let he : Held (lists_of sh.edition.split 14 sh.marks) s =
    record {
      few = omega (arith, count_is sh.edition.split 14 sh.marks, c.good.marks.few);
      low = omega (arith, (base_is sh.edition.split 14 sh.marks).0);
      room = omega (arith, l, z, length-append (marks_fields sh.edition.split sh.marks) (totals_fields sh.edition.totals sh.marks));
    } in
    let m : v.lists.count ≡ length sh.marks = ap (λ (x : View). x.lists.count) q ∙ count_is sh.edition.split 14 sh.marks in
    record {
      sheet = sh;
      reads = r;
      view = q;
      tells = ap (λ (x : View). x.tally) q;
      held = subst (λ (x : View). Held x.lists s) (sym q) he;
      are = ap (λ (x : View). marks_of x.lists s) q ∙ marks_are sh.edition.split s sh.marks (totals_fields sh.edition.totals sh.marks) c.good.marks.rise d;
      rise = c.good.marks.rise;
      many = m;
      few = omega (arith, m, c.good.marks.few);
      code = code_at sh.offset s (field_bytes 1 (sh.edition.byte ∷ [])) (marks_fields sh.edition.split sh.marks ++ totals_fields sh.edition.totals sh.marks) (edition_size sh.edition) (offset_code_lem sh.offset c.good.offset).0 is;
      room = omega (arith, l);
    }

-- a rule that reads the sheet first, and a sheet that is refused
pub read_stops : (f : Sheet → Answer (List ℕ)) (s old : List ℕ) (j k p : ℕ) (x : Result ℕ Refusal) → told x ≡ refused k p → refused k p ≡ fmap (view_of j) (read_sheet form s) → Wrote x (fitted (length old) (read_sheet form s >>= f)) old old
unfolding fitted ◌>>=◌
read_stops f s old j k p x e h =
    let r : read_sheet form s ≡ refused k p = fmap_refused (view_of j) (read_sheet form s) k p h in
    (rw (r, e), rw r)

-- any refusal
pub refused_by_lem : (k p : ℕ) (x : Result ℕ Refusal) (m : Answer (List ℕ)) (old : List ℕ) → told x ≡ refused k p → m ≡ refused k p → Wrote x (fitted (length old) m) old old
unfolding fitted ◌>>=◌
refused_by_lem k p x m old g e = (rw (e, g), rw e)

-- what was laid is what the rule makes
pub laid_by_lem : (m : Answer (List ℕ)) (bs old new : List ℕ) (r : Result ℕ Refusal) → m ≡ ok bs → Wrote r (fitted (length old) (ok bs)) old new → Wrote r (fitted (length old) m) old new
laid_by_lem m bs old new r e w = subst (λ x. Wrote r (fitted (length old) x) old new) (sym e) w

-- ---- the bytes of a sheet from marks by their numbers

lists_are : (t : Bool) (nth : ℕ → Mark) (n first : ℕ) (ms : List Mark) → span nth 0 n ≡ ms → T (rising Whole 0 ms) → first ≡ length (of_log 0 ms) → first ≤ n → lists_bytes t nth n first ≡ marks_fields t ms
unfolding lists_bytes marks_fields
lists_are false nth n first ms g r f h = let z : n - 0 ≡ n = omega arith in ap (λ k. field_bytes 3 (marks_bytes Whole (span nth 0 k))) z ∙ ap (λ x. field_bytes 3 (marks_bytes Whole x)) g
lists_are true nth n first ms g r f h =
    let z : first - 0 ≡ first = omega arith in
    let y : n ≡ first + (n - first) = omega arith in
    let u : 0 + first ≡ first = omega arith in
    let j : ms ≡ span nth 0 first ++ span nth first (n - first) =
    sym g ∙ ap (span nth 0) y ∙ span_append nth 0 first (n - first) ∙ ap (λ k. span nth 0 first ++ span nth k (n - first)) u in
    let q : of_log 0 ms ++ of_log 1 ms ≡ span nth 0 first ++ span nth first (n - first) = split 0 ms r ∙ j in
    let a : of_log 0 ms ≡ span nth 0 first =
    sym (take_at (of_log 0 ms) (of_log 1 ms) first (sym f)) ∙ ap (take first) q ∙ take_at (span nth 0 first) (span nth first (n - first)) first (span_length nth 0 first) in
    let b : of_log 1 ms ≡ span nth first (n - first) =
    sym (drop_at (of_log 0 ms) (of_log 1 ms) first (sym f)) ∙ ap (drop first) q ∙ drop_at (span nth 0 first) (span nth first (n - first)) first (span_length nth 0 first) in
    ap₂ (λ x w. field_bytes 5 (marks_bytes (InLog 0) x) ++ field_bytes 6 (marks_bytes (InLog 1) w)) (ap (span nth 0) z ∙ sym a) (sym b)

pub new_bytes_lem : (e : Edition) (code : ℕ) (o : ℤ) (nth : ℕ → Mark) (n first : ℕ) (ms : List Mark) → code ≡ offset_code o → span nth 0 n ≡ ms → T (rising Whole 0 ms) → first ≡ length (of_log 0 ms) → first ≤ n
    → new_bytes e code nth n first ≡ sheet_bytes (record { edition = e; offset = o; marks = ms })
unfolding new_bytes step_bytes
new_bytes_lem e code o nth n first ms k g r f h =
    ap (λ c. (field_bytes 1 (e.byte ∷ []) ++ field_bytes 2 (bytes4 c)) ++ (lists_bytes e.split nth n first ++ totals_fields e.totals (span nth 0 n))) k
    ∙ append_assoc (field_bytes 1 (e.byte ∷ [])) (field_bytes 2 (bytes4 (offset_code o))) _
    ∙ ap₂ (λ x y. field_bytes 1 (e.byte ∷ []) ++ (field_bytes 2 (bytes4 (offset_code o)) ++ (x ++ totals_fields e.totals y))) (lists_are e.split nth n first ms g r f h) g
    ∙ sym (bytes_are (record { edition = e; offset = o; marks = ms }))

no_marks : (nth : ℕ → Mark) → span nth 0 0 ≡ []
unfolding span
no_marks nth = refl

none_rise : T (rising Whole 0 [])
unfolding rising
none_rise = tt

none_first : 0 ≡ length (of_log 0 [])
unfolding of_log
none_first = refl

-- ---- the changes of a sheet that was read

module _ (s : List ℕ) (j : ℕ) (v : View) (w : Seen s j v) where
  back_is : (e : Edition) → e ≡ back_of form v.edition → e ≡ back_of form w.sheet.edition
  back_is e g = g ∙ ap (λ (x : View). back_of form x.edition) w.view

  -- how many marks are log 0's, how many are below the key, and whether one is at it
  first_is : v.tally.first ≡ length (of_log 0 w.sheet.marks)
  first_is = ap (λ (x : Tally). x.first) w.tells

  pub first_few : v.tally.first ≤ v.lists.count
  first_few = omega (arith, first_is, of_few w.sheet.marks, w.many)

  below_is : v.tally.below ≡ below j w.sheet.marks
  below_is = ap (λ (x : Tally). x.below) w.tells

  pub below_fits : v.tally.below ≤ v.lists.count
  below_fits = omega (arith, below_is, below_few j w.sheet.marks, w.many)

  there : (l p : ℕ) → p < 4294967296 → j ≡ l * 4294967296 + p → has l p w.sheet.marks ≡ v.tally.found
  there l p h g = has_key_lem l p h 0 w.sheet.marks w.rise ∙ ap (λ x. has_key x w.sheet.marks) (sym g) ∙ sym (ap (λ (x : Tally). x.found) w.tells)

  -- emptying
  pub empty_done : (old new : List ℕ) (r : Result ℕ Refusal) (e : Edition) (code : ℕ) → e ≡ back_of form v.edition → code ≡ number4 (take 4 (drop 7 s))
      → Wrote r (fitted (length old) (ok (new_bytes e code (new_at Clear v.lists s) 0 0))) old new → Wrote r (fitted (length old) (sheet_empty form s)) old new
  unfolding sheet_empty ◌>>=◌
  empty_done old new r e code g h q =
      laid_by_lem (sheet_empty form s) _ old new r
      (rw w.reads (ap ok (sym (new_bytes_lem e code w.sheet.offset (new_at Clear v.lists s) 0 0 [] (h ∙ w.code) (no_marks _) none_rise none_first (omega arith)
      ∙ ap (λ x. sheet_bytes (record { edition = x; offset = w.sheet.offset; marks = [] })) (back_is e g))))) q

  -- adding
  module _ (m : Mark) (g : j ≡ key m) where
    pub add_barred : ok_mark m ≡ false → sheet_add form m s ≡ refused 33 0
    unfolding sheet_add ◌>>=◌ need◌or◌then◌
    add_barred o = rw (w.reads, o)

    there_is : ok_mark m ≡ true → has m.log m.place w.sheet.marks ≡ v.tally.found
    there_is o = there m.log m.place (legal m (true_is (ok_mark m) o)).place g

    pub add_twice : ok_mark m ≡ true → v.tally.found ≡ true → sheet_add form m s ≡ refused 35 0
    unfolding sheet_add ◌>>=◌ need◌or◌then◌
    add_twice o h = rw (w.reads, o, there_is o ∙ h)

    pub add_full : ok_mark m ≡ true → v.tally.found ≡ false → form.limit ≤ v.lists.count → sheet_add form m s ≡ refused 34 0
    unfolding sheet_add ◌>>=◌ need◌or◌then◌
    add_full o h l = rw (w.reads, o, there_is o ∙ h, le-ltb (length w.sheet.marks) form.limit (omega (arith, w.many)))

    add_goes : ok_mark m ≡ true → v.tally.found ≡ false → v.lists.count < form.limit → sheet_add form m s ≡ ok (sheet_bytes (with_marks form w.sheet (insert m w.sheet.marks)))
    unfolding sheet_add ◌>>=◌ need◌or◌then◌
    add_goes o h l = rw (w.reads, o, there_is o ∙ h, lt-ltb (length w.sheet.marks) form.limit (omega (arith, w.many)))

    pub add_done : (old new : List ℕ) (r : Result ℕ Refusal) (e : Edition) (code o : ℕ) → ok_mark m ≡ true → v.tally.found ≡ false → v.lists.count < form.limit
        → e ≡ back_of form v.edition → code ≡ number4 (take 4 (drop 7 s)) → o ≡ from_bool (eqb m.log 0)
        → Wrote r (fitted (length old) (ok (new_bytes e code (new_at (Insert v.tally.below m) v.lists s) (v.lists.count + 1) (v.tally.first + o)))) old new
        → Wrote r (fitted (length old) (sheet_add form m s)) old new
    add_done old new r e code o oke h l x c b q =
        let ob : o ≡ plus (eqb m.log 0) 0 = b ∙ plus_bool (eqb m.log 0) in
        let lm : Legal m = legal m (true_is (ok_mark m) oke) in
        let k : ℕ = v.tally.below in
        let nf : span (new_at (Insert k m) v.lists s) 0 (v.lists.count + 1) ≡ insert m w.sheet.marks =
        inserted v.lists s k m below_fits ∙ ap₂ (λ a x. changed (Insert a m) x) (below_is ∙ ap (λ z. below z w.sheet.marks) g) w.are ∙ insert_at 0 m w.sheet.marks w.rise in
        let ri : T (rising Whole 0 (insert m w.sheet.marks)) = insert_rising 0 m w.sheet.marks lm (omega arith) (rw (there_is oke ∙ h) tt) w.rise in
        let fe : v.tally.first + o ≡ length (of_log 0 (insert m w.sheet.marks)) = ap₂ (λ a d. a + d) first_is ob ∙ sym (more_first m w.sheet.marks) in
        laid_by_lem (sheet_add form m s) _ old new r
        (add_goes oke h l ∙ ap ok (sym (new_bytes_lem e code w.sheet.offset (new_at (Insert k m) v.lists s) (v.lists.count + 1) (v.tally.first + o) (insert m w.sheet.marks) (c ∙ w.code) nf ri fe (omega (arith, first_few, b, bool_few (eqb m.log 0)))
        ∙ ap (λ x. sheet_bytes (record { edition = x; offset = w.sheet.offset; marks = insert m w.sheet.marks })) (back_is e x)))) q

  -- removing
  module _ (l p : ℕ) (small-place : p < 4294967296) (g : j ≡ l * 4294967296 + p) where
    pub remove_none : v.tally.found ≡ false → sheet_remove form l p s ≡ refused 36 0
    unfolding sheet_remove ◌>>=◌ need◌or◌then◌
    remove_none h = rw (w.reads, there l p small-place g ∙ h)

    remove_goes : v.tally.found ≡ true → sheet_remove form l p s ≡ ok (sheet_bytes (with_marks form w.sheet (without l p w.sheet.marks)))
    unfolding sheet_remove ◌>>=◌ need◌or◌then◌
    remove_goes h = rw (w.reads, there l p small-place g ∙ h)

    -- the number of the mark that is there is one of the list
    pub there_fits : v.tally.found ≡ true → v.tally.below < v.lists.count
    there_fits h =
        let hm : has_key (l * 4294967296 + p) w.sheet.marks ≡ true = ap (λ x. has_key x w.sheet.marks) (sym g) ∙ sym (ap (λ (x : Tally). x.found) w.tells) ∙ h in
        let (a, b) = skip_at l p small-place 0 w.sheet.marks w.rise hm in
        let ks : v.tally.below ≡ below (l * 4294967296 + p) w.sheet.marks = below_is ∙ ap (λ z. below z w.sheet.marks) g in
        omega (arith, w.many)

    pub record Found (o : ℕ) : Type 0 where
      pub less : o ≤ v.tally.first
      pub marks : span (new_at (Skip v.tally.below) v.lists s) 0 (v.lists.count - 1) ≡ without l p w.sheet.marks
      pub first : v.tally.first - o ≡ length (of_log 0 (without l p w.sheet.marks))
      pub fewer : v.tally.first - o ≤ v.lists.count - 1

    pub found : (o : ℕ) → v.tally.found ≡ true → o ≡ from_bool (eqb l 0) → Found o
    found o h ob₀ =
        let ob : o ≡ plus (eqb l 0) 0 = ob₀ ∙ plus_bool (eqb l 0) in
        let hm : has_key (l * 4294967296 + p) w.sheet.marks ≡ true = ap (λ x. has_key x w.sheet.marks) (sym g) ∙ sym (ap (λ (x : Tally). x.found) w.tells) ∙ h in
        let (a, b) = skip_at l p small-place 0 w.sheet.marks w.rise hm in
        let ks : v.tally.below ≡ below (l * 4294967296 + p) w.sheet.marks = below_is ∙ ap (λ z. below z w.sheet.marks) g in
        let kc : v.tally.below < v.lists.count = there_fits h in
        let lf : length (of_log 0 w.sheet.marks) ≡ length (of_log 0 (without l p w.sheet.marks)) + plus (eqb l 0) 0 = less_first l p small-place 0 w.sheet.marks w.rise hm in
        let ms : span (new_at (Skip v.tally.below) v.lists s) 0 (v.lists.count - 1) ≡ without l p w.sheet.marks = skipped v.lists s v.tally.below kc ∙ ap₂ (λ y x. changed (Skip y) x) ks w.are ∙ a in
        let fs : v.tally.first - o ≡ length (of_log 0 (without l p w.sheet.marks)) = omega (arith, first_is) in
        record {
          less = omega (arith, first_is);
          marks = ms;
          first = fs;
          fewer = omega (arith, fs, of_few (without l p w.sheet.marks), ap length ms, span_length (new_at (Skip v.tally.below) v.lists s) 0 (v.lists.count - 1));
        }

    pub remove_done : (old new : List ℕ) (r : Result ℕ Refusal) (e : Edition) (code o : ℕ) → v.tally.found ≡ true → e ≡ back_of form v.edition → code ≡ number4 (take 4 (drop 7 s)) → Found o
        → Wrote r (fitted (length old) (ok (new_bytes e code (new_at (Skip v.tally.below) v.lists s) (v.lists.count - 1) (v.tally.first - o)))) old new
        → Wrote r (fitted (length old) (sheet_remove form l p s)) old new
    remove_done old new r e code o h x c u q =
        laid_by_lem (sheet_remove form l p s) _ old new r
        (remove_goes h ∙ ap ok (sym (new_bytes_lem e code w.sheet.offset (new_at (Skip v.tally.below) v.lists s) (v.lists.count - 1) (v.tally.first - o) (without l p w.sheet.marks) (c ∙ w.code) u.marks (without_rising 0 l p w.sheet.marks w.rise) u.first u.fewer
        ∙ ap (λ x. sheet_bytes (record { edition = x; offset = w.sheet.offset; marks = without l p w.sheet.marks })) (back_is e x)))) q

pub add_stops : (m : Mark) (s old : List ℕ) (j k p : ℕ) (x : Result ℕ Refusal) → told x ≡ refused k p → refused k p ≡ fmap (view_of j) (read_sheet form s) → Wrote x (fitted (length old) (sheet_add form m s)) old old
unfolding sheet_add
add_stops m s old j k p x e h = read_stops _ s old j k p x e h

pub remove_stops : (l q : ℕ) (s old : List ℕ) (j k p : ℕ) (x : Result ℕ Refusal) → told x ≡ refused k p → refused k p ≡ fmap (view_of j) (read_sheet form s) → Wrote x (fitted (length old) (sheet_remove form l q s)) old old
unfolding sheet_remove
remove_stops l q s old j k p x e h = read_stops _ s old j k p x e h

pub empty_stops : (s old : List ℕ) (j k p : ℕ) (x : Result ℕ Refusal) → told x ≡ refused k p → refused k p ≡ fmap (view_of j) (read_sheet form s) → Wrote x (fitted (length old) (sheet_empty form s)) old old
unfolding sheet_empty
empty_stops s old j k p x e h = read_stops _ s old j k p x e h

-- ---- reading
abbrev pub read_by : View → ℤ → Answer SheetRead
read_by v z = ok (record { edition = v.edition.byte; offset = z; marks = v.lists })

pub read_told : (s : List ℕ) (k : ℕ) (v : View) → ok v ≡ fmap (view_of k) (read_sheet form s) → read_by v v.offset ≡ sheet_read (read_sheet form s)
unfolding sheet_read
read_told s k v h =
    let (sh, r, q) = fmap_ok (view_of k) (read_sheet form s) v h in
    ap (λ (x : View). read_by x x.offset) q ∙ ap sheet_read (sym r)

pub read_refused : (s : List ℕ) (j k p : ℕ) → refused k p ≡ fmap (view_of j) (read_sheet form s) → refused k p ≡ sheet_read (read_sheet form s)
unfolding sheet_read
read_refused s j k p h = ap sheet_read (sym (fmap_refused (view_of j) (read_sheet form s) k p h))
