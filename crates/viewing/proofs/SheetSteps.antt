-- What the code meets: a whole sheet, field by field, of any form. Assumes nothing.
use Prim.Native.Nat.{ℕ, suc, ◌+◌, ◌-◌, ◌≤◌, ◌<◌}
use mathlib.Core.Path.{◌≡◌, refl, sym, ap, ap₂, ◌∙◌}
use mathlib.Core.Logic.{⊎_elim}
use mathlib.Core.Bool.{Bool, true, false}
use mathlib.Core.List.{List, [], ◌∷◌}
use native.Mathlib.Omega.{arith}
use lib.Dec.{T, eqb}
use borrow.Author.Tests.{eq-eqb, ne_eqb}
use lib.IntN.{ℤ}
use Rattle.rules.specs.Answer.{Answer, ok, refused, ◌>>=◌, need◌or◌then◌, later, Read}
use Rattle.rules.specs.declared.Shape.TheVariants.{Whole, InLog}
use Rattle.rules.specs.declared.Edition.{Edition}
use Rattle.rules.specs.declared.Mark.{Mark}
use Rattle.rules.specs.SheetForm.{Form}
use lib.ListN.{length, take, drop, length-drop, length-append, take-append-drop}
use lib.Seq.{drop_at, drop-drop}
use Rattle.rules.specs.Mark.{bytes4, marks_bytes, rising, of_log}
use Rattle.rules.specs.Sheet.{offset_code, field_bytes, read_field, read_edition, read_offset, read_total, read_sheet}
use Rattle.rules.proofs.SheetSteps.{marks_fields, totals_fields, read_marks, read_totals, read_steps, read_is}
use Rattle.rules.proofs.AnswerLaws.{Octets}
use Rattle.rules.proofs.Codec.{Codec, after}
use Rattle.rules.proofs.MarkLaws.{marks_length}
use Rattle.rules.proofs.SplitLaws.{split}
use Rattle.rules.proofs.SheetLaws.{list_codec, edition_codec, offset_codec, marks_codec, totals_codec, totals_length}
use Rattle.marks.specs.declared.Lists.{Lists}
use Rattle.marks.specs.declared.Change.TheVariants.{Keep}
use Rattle.marks.specs.Lists.{lists_of, end_of, Held, marks_of, new_marks}
use Rattle.marks.proofs.ChangedLaws.{kept}
use Rattle.marks.proofs.MarkSteps.{tail, tail_is}
use Rattle.marks.proofs.NumberLaws.{count_is, base_is, marks_are}
use Rattle.viewing.specs.declared.Marked.{Marked}
use Rattle.viewing.specs.declared.View.{View}
use Rattle.viewing.specs.Read.{fmap, value, totals_size, marked_of, view_of}
use Rattle.viewing.proofs.ListLaws.{fmap_ok, fmap_refused, fmap_is, fmap_no, field_size, bind_refused, need_refused, later_refused, ok_not_refused, field_place, list_place_in, gone}

codec_rest : {A : Type 0} {Good : A → Type 0} {bytes : A → List ℕ} {r : Read A} → Codec Good bytes r → (a : A) (bs rest : List ℕ) → Octets bs → r bs ≡ ok (a, rest)
    → (rest ≡ drop (length (bytes a)) bs) × (length (bytes a) ≤ length bs)
codec_rest {bytes = bytes} c a bs rest b h =
    let (g, j) = c.forth a bs rest b h in
    (sym (ap (drop (length (bytes a))) j ∙ drop_at (bytes a) rest (length (bytes a)) refl), omega (arith, ap length j, length-append (bytes a) rest))

pub bytes_drop : (n : ℕ) (bs : List ℕ) → Octets bs → Octets (drop n bs)
bytes_drop n bs b = after bs (take n bs) (drop n bs) (sym (take-append-drop n bs)) b

pub edition_size : (e : Edition) → length (field_bytes 1 (e.byte ∷ [])) ≡ 4
unfolding field_bytes
edition_size e = refl

pub offset_size : (o : ℤ) → length (field_bytes 2 (bytes4 (offset_code o))) ≡ 7
unfolding field_bytes bytes4
offset_size o = refl

pub marks_size : (t : Bool) (ms : List Mark) → T (rising Whole 0 ms) → 11 + length (marks_fields t ms) ≡ end_of (lists_of t 14 ms)
unfolding marks_fields
marks_size false ms r = omega (arith, field_size 3 (marks_bytes Whole ms), marks_length Whole ms)
marks_size true ms r =
    omega (
      arith,
      length-append (field_bytes 5 (marks_bytes (InLog 0) (of_log 0 ms))) (field_bytes 6 (marks_bytes (InLog 1) (of_log 1 ms))),
      field_size 5 (marks_bytes (InLog 0) (of_log 0 ms)),
      field_size 6 (marks_bytes (InLog 1) (of_log 1 ms)),
      marks_length (InLog 0) (of_log 0 ms),
      marks_length (InLog 1) (of_log 1 ms),
      length-append (of_log 0 ms) (of_log 1 ms),
      ap length (split 0 ms r),
    )

pub totals_field : (t : Bool) (ms : List Mark) → length (totals_fields t ms) ≡ totals_size t
unfolding totals_fields field_bytes
totals_field false ms = refl
totals_field true ms = ap (λ n. suc (suc (suc n))) (totals_length ms)

-- ---- a refusal's place
zero_field : {A : Type 0} (t : ℕ) (bs : List ℕ) (f : List ℕ × List ℕ → Answer A) (k p : ℕ) → ((x : List ℕ × List ℕ) (q : ℕ) → f x ≡ refused k q → q ≡ 0) → (read_field t bs >>= f) ≡ refused k p → p ≡ 0
unfolding read_field
zero_field t bs f k p g h =
    ⊎_elim (λ h₁. ⊎_elim (λ h₂. field_place t bs k p h₂) (λ (a, e, h₃). ok_not_refused h₃) (bind_refused _ _ k p h₁)) (λ (x, e, h₁). g x p h₁) (bind_refused _ _ k p h)

offset_place : (bs : List ℕ) (k p : ℕ) → read_offset bs ≡ refused k p → p ≡ 0
unfolding read_offset
offset_place bs k p h =
    zero_field 2 bs _ k p (λ x q h₁. ⊎_elim (λ e. e) (λ h₂. ⊎_elim (λ e. e) (λ h₃. ok_not_refused h₃) (need_refused _ _ _ k q h₂)) (need_refused _ _ _ k q h₁)) h

total_place : (ms : List Mark) (bs : List ℕ) (k p : ℕ) → read_total 4 ms bs ≡ refused k p → p ≡ 0
unfolding read_total
total_place ms bs k p h =
    zero_field 4 bs _ k p (λ x q h₁. ⊎_elim (λ e. e) (λ h₂. ⊎_elim (λ e. e) (λ h₃. ok_not_refused h₃) (need_refused _ _ _ k q h₂)) (need_refused _ _ _ k q h₁)) h

pub totals_place : (t : Bool) (ms : List Mark) (bs : List ℕ) (k p : ℕ) → read_totals t ms bs ≡ refused k p → p ≡ 0
unfolding read_totals
totals_place false ms bs k p h = ok_not_refused h
totals_place true ms bs k p h = total_place ms bs k p h

pub marks_place_in : (t : Bool) (limit : ℕ) (bs : List ℕ) (k p : ℕ) → limit ≤ 8191 → Octets bs → read_marks t limit bs ≡ refused k p → p ≤ length bs
unfolding read_marks
marks_place_in false limit bs k p small b h = list_place_in 3 Whole limit bs k p h
marks_place_in true limit bs k p small b h =
    ⊎_elim
    (λ h₁. list_place_in 5 (InLog 0) limit bs k p h₁)
    (λ (x, h₁, h₂).
    ⊎_elim
    (λ h₃.
    let (q, e, g) = later_refused (length bs - length x.1) _ k p h₃ in
    let (d, l) = codec_rest (list_codec 5 (InLog 0) limit small) x.0 bs x.1 b h₁ in
    omega (arith, g, list_place_in 6 (InLog 1) (limit - length x.0) x.1 k q e, ap length d, length-drop (length (field_bytes 5 (marks_bytes (InLog 0) x.0))) bs))
    (λ (y, e, h₃). ok_not_refused h₃)
    (bind_refused _ _ k p h₂))
    (bind_refused _ _ k p h)

-- ---- the sheet, field by field
module _ (φ : Form) (small : φ.limit ≤ 8191) (s : List ℕ) (b : Octets s) (key : ℕ) where
  abbrev Says : Answer View → Type 0
  Says r = r ≡ fmap (view_of key) (read_sheet φ s)

  -- what the steps say, the rule says
  by_steps : {r : Answer View} → r ≡ fmap (view_of key) (read_steps φ s) → Says r
  by_steps h = h ∙ ap (fmap (view_of key)) (sym (read_is φ s))

  pub edition_stops : (k p : ℕ) → refused k p ≡ value (read_edition φ.editions s) → Says (refused k p)
  unfolding read_steps ◌>>=◌
  edition_stops k p h = by_steps (sym (fmap_no (view_of key) (rw (fmap_refused _ _ k p h))))

  pub record Edited (e : Edition) : Type 0 where
    pub reads : read_edition φ.editions s ≡ ok (e, drop 4 s)
    pub room : 4 ≤ length s

  pub edition_goes : (e : Edition) → ok e ≡ value (read_edition φ.editions s) → Edited e
  edition_goes e h =
      let (x, r, q) = fmap_ok (λ (x : Edition × List ℕ). x.0) (read_edition φ.editions s) e h in
      let (d, l) = codec_rest (edition_codec φ.editions) x.0 s x.1 b r in
      let z : length (field_bytes 1 (x.0.byte ∷ [])) ≡ 4 = edition_size x.0 in
      record { reads = r ∙ ap₂ (λ u v. ok (u, v)) (sym q) (d ∙ ap (λ n. drop n s) z); room = omega (arith, l, z) }

  pub record Offset (e : Edition) (o : ℤ) : Type 0 where
    pub first : Edited e
    pub reads : read_offset (drop 4 s) ≡ ok (o, drop 11 s)
    pub room : 11 ≤ length s

  pub offset_goes : (e : Edition) (o : ℤ) → Edited e → ok o ≡ value (read_offset (tail 4 s)) → Offset e o
  offset_goes e o f h =
      let (x, r, q) = fmap_ok (λ (x : ℤ × List ℕ). x.0) (read_offset (drop 4 s)) o (h ∙ ap (λ l. value (read_offset l)) (tail_is 4 s)) in
      let (d, l) = codec_rest offset_codec x.0 (drop 4 s) x.1 (bytes_drop 4 s b) r in
      let z : length (field_bytes 2 (bytes4 (offset_code x.0))) ≡ 7 = offset_size x.0 in
      record {
        first = f;
        reads = r ∙ ap₂ (λ u v. ok (u, v)) (sym q) (d ∙ ap (λ n. drop n (drop 4 s)) z ∙ drop-drop 7 4 s);
        room = omega (arith, l, z, length-drop 4 s, f.room);
      }

  pub offset_stops : (e : Edition) (k p : ℕ) → Edited e → refused k p ≡ value (read_offset (tail 4 s)) → Says (refused k (4 + p)) × (p ≡ 0)
  unfolding read_steps ◌>>=◌ later
  offset_stops e k p f h =
      let r : read_offset (drop 4 s) ≡ refused k p = fmap_refused _ _ k p (h ∙ ap (λ l. value (read_offset l)) (tail_is 4 s)) in
      (by_steps (sym (fmap_no (view_of key) (rw (f.reads, r, gone 4 s f.room)))), offset_place (drop 4 s) k p r)

  pub record Passed (e : Edition) (o : ℤ) (m : Marked) : Type 0 where
    pub second : Offset e o
    pub marks : List Mark
    pub tells : m ≡ marked_of key e.split marks
    pub reads : read_marks e.split φ.limit (drop 11 s) ≡ ok (marks, drop (end_of m.lists) s)
    pub held : Held m.lists s
    pub are : marks_of m.lists s ≡ marks

  pub marks_goes : (e : Edition) (o : ℤ) (m : Marked) → Offset e o → ok m ≡ fmap (λ x. marked_of key e.split x.0) (read_marks e.split φ.limit (tail 11 s)) → Passed e o m
  marks_goes e o m f h =
      let (x, r, q) = fmap_ok (λ (x : List Mark × List ℕ). marked_of key e.split x.0) (read_marks e.split φ.limit (drop 11 s)) m (h ∙ ap (λ l. fmap (λ x. marked_of key e.split x.0) (read_marks e.split φ.limit l)) (tail_is 11 s)) in
      let ql : m.lists ≡ lists_of e.split 14 x.0 = ap (λ (y : Marked). y.lists) q in
      let b₁ : Octets (drop 11 s) = bytes_drop 11 s b in
      let (d, l) = codec_rest (marks_codec e.split φ.limit small) x.0 (drop 11 s) x.1 b₁ r in
      let (g, j) = (marks_codec e.split φ.limit small).forth x.0 (drop 11 s) x.1 b₁ r in
      let z : 11 + length (marks_fields e.split x.0) ≡ end_of m.lists = marks_size e.split x.0 g.rise ∙ ap end_of (sym ql) in
      record {
        second = f;
        marks = x.0;
        tells = q;
        reads = r ∙ ap (λ v. ok (x.0, v)) (d ∙ drop-drop (length (marks_fields e.split x.0)) 11 s ∙ ap (λ n. drop n s) z);
        held = record { low = omega (arith, ap (λ (y : Lists). y.base) ql, (base_is e.split 14 x.0).0); few = omega (arith, ap (λ (y : Lists). y.count) ql, count_is e.split 14 x.0, g.few); room = omega (arith, z, l, length-drop 11 s, f.room) };
        are = ap (λ y. marks_of y s) ql ∙ marks_are e.split s x.0 x.1 g.rise j;
      }

  pub marks_stops : (e : Edition) (o : ℤ) (k p : ℕ) → Offset e o → refused k p ≡ fmap (λ x. marked_of key e.split x.0) (read_marks e.split φ.limit (tail 11 s)) → Says (refused k (11 + p)) × (p ≤ length s)
  unfolding read_steps ◌>>=◌ later
  marks_stops e o k p f h =
      let r : read_marks e.split φ.limit (drop 11 s) ≡ refused k p = fmap_refused _ _ k p (h ∙ ap (λ l. fmap (λ x. marked_of key e.split x.0) (read_marks e.split φ.limit l)) (tail_is 11 s)) in
      (by_steps (sym (fmap_no (view_of key) (rw (f.first.reads, f.reads, r, gone 11 s f.room)))), omega (arith, marks_place_in e.split φ.limit (drop 11 s) k p small (bytes_drop 11 s b) r, length-drop 11 s))

  pub record Totalled (e : Edition) (o : ℤ) (m : Marked) : Type 0 where
    pub third : Passed e o m
    pub reads : read_totals e.totals third.marks (drop (end_of m.lists) s) ≡ ok (tt, drop (end_of m.lists + totals_size e.totals) s)
    pub room : end_of m.lists + totals_size e.totals ≤ length s

  same_part : (e : Edition) (o : ℤ) (m : Marked) (at : ℕ) (w : Passed e o m) → at ≡ end_of m.lists → value (read_totals e.totals (new_marks Keep m.lists s) (tail at s)) ≡ value (read_totals e.totals w.marks (drop (end_of m.lists) s))
  same_part e o m at w h = ap₂ (λ x y. value (read_totals e.totals x y)) (kept m.lists s ∙ w.are) (tail_is at s ∙ ap (λ n. drop n s) h)

  pub totals_goes : (e : Edition) (o : ℤ) (m : Marked) (at : ℕ) (u : Unit) → Passed e o m → at ≡ end_of m.lists → ok u ≡ value (read_totals e.totals (new_marks Keep m.lists s) (tail at s)) → Totalled e o m
  totals_goes e o m at u w g h =
      let (x, r, q) = fmap_ok (λ (x : Unit × List ℕ). x.0) (read_totals e.totals w.marks (drop (end_of m.lists) s)) u (h ∙ same_part e o m at w g) in
      let (d, l) = codec_rest (totals_codec e.totals w.marks) x.0 (drop (end_of m.lists) s) x.1 (bytes_drop (end_of m.lists) s b) r in
      let z : length (totals_fields e.totals w.marks) ≡ totals_size e.totals = totals_field e.totals w.marks in
      record {
        third = w;
        reads = r ∙ ap (λ v. ok (tt, v)) (d ∙ drop-drop (length (totals_fields e.totals w.marks)) (end_of m.lists) s ∙ ap (λ n. drop (end_of m.lists + n) s) z);
        room = omega (arith, z, l, length-drop (end_of m.lists) s, w.held.room);
      }

  pub totals_stops : (e : Edition) (o : ℤ) (m : Marked) (at k p : ℕ) → Passed e o m → at ≡ end_of m.lists → refused k p ≡ value (read_totals e.totals (new_marks Keep m.lists s) (tail at s)) → Says (refused k (at + p)) × (p ≡ 0)
  unfolding read_steps ◌>>=◌ later
  totals_stops e o m at k p w g h =
      let r : read_totals e.totals w.marks (drop (end_of m.lists) s) ≡ refused k p = fmap_refused _ _ k p (h ∙ same_part e o m at w g) in
      (by_steps (ap (λ y. refused k (y + p)) g ∙ sym (fmap_no (view_of key) (rw (w.second.first.reads, w.second.reads, w.reads, r, gone (end_of m.lists) s w.held.room)))), totals_place e.totals w.marks (drop (end_of m.lists) s) k p r)

  pub after_stops : (e : Edition) (o : ℤ) (m : Marked) (at z : ℕ) → Totalled e o m → at ≡ end_of m.lists → z ≡ totals_size e.totals → at + z < length s → Says (refused 31 (at + z))
  unfolding read_steps ◌>>=◌ later need◌or◌then◌
  after_stops e o m at z t g h l =
      let w : Passed e o m = t.third in
      let y : end_of m.lists + totals_size e.totals ≡ at + z = ap₂ (λ u v. u + v) (sym g) (sym h) in
      let n : eqb (length (drop (end_of m.lists + totals_size e.totals) s)) 0 ≡ false = ne_eqb (length (drop (end_of m.lists + totals_size e.totals) s)) 0 (λ q. omega (arith, length-drop (end_of m.lists + totals_size e.totals) s, y, q)) in
      let v : length s - length (drop (end_of m.lists + totals_size e.totals) s) + 0 ≡ at + z = omega (arith, gone (end_of m.lists + totals_size e.totals) s t.room, y) in
      by_steps (sym (fmap_no (view_of key) (rw (w.second.first.reads, w.second.reads, w.reads, t.reads, n) (ap (refused 31) v))))

  pub sheet_accepted : (e : Edition) (o : ℤ) (m : Marked) (at z : ℕ) → Totalled e o m → at ≡ end_of m.lists → z ≡ totals_size e.totals → length s ≤ at + z → Says (ok (record { edition = e; offset = o; lists = m.lists; tally = m.tally }))
  unfolding read_steps ◌>>=◌ later need◌or◌then◌
  sheet_accepted e o m at z t g h l =
      let w : Passed e o m = t.third in
      let y : end_of m.lists + totals_size e.totals ≡ at + z = ap₂ (λ u v. u + v) (sym g) (sym h) in
      let n : eqb (length (drop (end_of m.lists + totals_size e.totals) s)) 0 ≡ true = eq-eqb (length (drop (end_of m.lists + totals_size e.totals) s)) 0 (omega (arith, length-drop (end_of m.lists + totals_size e.totals) s, y)) in
      by_steps (sym (fmap_is (view_of key) (rw (w.second.first.reads, w.second.reads, w.reads, t.reads, n)) ∙ ap (λ (u : Marked). ok (record { edition = e; offset = o; lists = u.lists; tally = u.tally })) (sym w.tells)))
