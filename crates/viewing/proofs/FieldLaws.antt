-- What the code meets at each return, over plain values: the fields of a sheet. Assumes nothing.
--
-- In order: the length of a field's body; the edition; the offset; a field of marks.
use Prim.Native.Nat.{ℕ, suc, ◌+◌, ◌-◌, ◌*◌, ◌/◌, ◌%◌, ◌≤◌, ◌<◌}
use mathlib.Core.Path.{◌≡◌, refl, sym, ap, ap₂, ◌∙◌}
use mathlib.Core.Logic.{⊎_elim}
use mathlib.Core.Bool.{Bool, true, false}
use mathlib.Core.List.{List, [], ◌∷◌}
use native.Mathlib.Omega.{arith}
use lib.Dec.{leb, ltb, eqb, leb→le}
use borrow.Author.Tests.{le-leb, lt-leb, lt-ltb, eq-eqb, ne_eqb}
use lib.IntN.{ℤ, negsuc}
use mir.Val.{to_z}
use mir.Syntax.{w32}
use Rattle.std.specs.Int.{w16, from_be_bytes}
use Rattle.rules.specs.Answer.{Answer, ok, refused, ◌>>=◌, need◌or◌then◌, when◌then◌else◌, later}
use Rattle.rules.specs.declared.Shape.{Shape}
use Rattle.rules.specs.declared.Shape.TheVariants.{Whole, InLog}
use Rattle.rules.specs.declared.Edition.{Edition}
use lib.ListN.{length, take, drop, get_or, length-drop}
use lib.Seq.{length-take-le, get_or-take, get_or-drop, drop-cons}
use Rattle.rules.specs.Mark.{size, number4, marks_in}
use Rattle.rules.specs.Merge.{in_range}
use Rattle.rules.specs.Sheet.{edition_of, offset_of, body_length, field_length, read_field, read_edition, read_offset, read_list}
use Rattle.rules.proofs.AnswerLaws.{ok_inj, need_elim}
use Rattle.rules.proofs.Codec.{decide}
use Rattle.marks.specs.declared.Tally.{Tally}
use Rattle.marks.specs.Lists.{passing, tally}
use Rattle.marks.proofs.MarkSteps.{fault_in, marks_pass}
use Rattle.viewing.specs.Read.{fmap, value}

-- ---- the length of a field's body
pub field_number : (bs : List ℕ) → from_be_bytes w16 (get_or bs 1 0 ∷ get_or bs 2 0 ∷ []) ≡ body_length bs
field_number bs = omega arith

module _ (t : ℕ) (bs : List ℕ) where
  pub field_none : length bs ≡ 0 → refused 31 0 ≡ field_length t bs
  unfolding field_length need◌or◌then◌
  field_none h = rw (h)

  pub field_head : (length bs ≡ 0 → ⊥) → length bs < 3 → refused 30 0 ≡ field_length t bs
  unfolding field_length need◌or◌then◌
  field_head n h = rw (lt-ltb 0 (length bs) (omega arith), lt-leb 3 (length bs) h)

  pub field_cut : (n : ℕ) → 3 ≤ length bs → n ≡ body_length bs → length bs < 3 + n → refused 30 0 ≡ field_length t bs
  unfolding field_length need◌or◌then◌
  field_cut n l e h = rw (lt-ltb 0 (length bs) (omega arith), le-leb 3 (length bs) l, lt-leb (3 + body_length bs) (length bs) (omega arith))

  pub field_tag : (n : ℕ) → 3 ≤ length bs → n ≡ body_length bs → 3 + n ≤ length bs → (get_or bs 0 0 ≡ t → ⊥) → refused 31 0 ≡ field_length t bs
  unfolding field_length need◌or◌then◌
  field_tag n l e h d =
      rw (lt-ltb 0 (length bs) (omega arith), le-leb 3 (length bs) l, le-leb (3 + body_length bs) (length bs) (omega arith), ne_eqb (get_or bs 0 0) t d)

  pub field_whole : (n : ℕ) → 3 ≤ length bs → n ≡ body_length bs → 3 + n ≤ length bs → get_or bs 0 0 ≡ t → ok n ≡ field_length t bs
  unfolding field_length need◌or◌then◌
  field_whole n l e h d =
      rw (lt-ltb 0 (length bs) (omega arith), le-leb 3 (length bs) l, le-leb (3 + body_length bs) (length bs) (omega arith), eq-eqb (get_or bs 0 0) t d) (ap ok e)

  pub field_fits_lem : (n : ℕ) → field_length t bs ≡ ok n → 3 + n ≤ length bs
  unfolding field_length
  field_fits_lem n h =
      need_elim _ _ _ h λ p₁ h₁.
      need_elim _ _ _ h₁ λ p₂ h₂.
      need_elim _ _ _ h₂ λ p₃ h₃.
      need_elim _ _ _ h₃ λ p₄ h₄.
      let e : body_length bs ≡ n = ok_inj h₄ in
      omega (arith, leb→le (3 + body_length bs) (length bs) p₃)

  pub body_length_lem : (n : ℕ) → field_length t bs ≡ ok n → length (take n (drop 3 bs)) ≡ n
  body_length_lem n h = length-take-le n (drop 3 bs) (omega (arith, length-drop 3 bs, field_fits_lem n h))

pub field_refused : {A : Type 0} (t : ℕ) (bs : List ℕ) (k p : ℕ) (f : List ℕ × List ℕ → Answer A) → refused k p ≡ field_length t bs → (read_field t bs >>= f) ≡ refused k p
unfolding read_field ◌>>=◌
field_refused t bs k p f h = rw (← h)

pub field_read : {A : Type 0} (t : ℕ) (bs : List ℕ) (n : ℕ) (f : List ℕ × List ℕ → Answer A) → ok n ≡ field_length t bs → (read_field t bs >>= f) ≡ f (take n (drop 3 bs), drop (3 + n) bs)
unfolding read_field ◌>>=◌
field_read t bs n f h = rw (← h)

drop_rest : {A : Type 0} (m : Answer A) (r : List ℕ) → value (m >>= (λ e. ok (e, r))) ≡ m
unfolding fmap ◌>>=◌
drop_rest (ok a) r = refl
drop_rest (refused k p) r = refl

need_rest : (t : Bool) (z : ℤ) (r : List ℕ) → value (need t or 33 then ok (z, r)) ≡ (need t or 33 then ok z)
unfolding fmap need◌or◌then◌
need_rest true z r = refl
need_rest false z r = refl

-- ---- the edition
module _ (es : List Edition) (bs : List ℕ) where
  pub edition_refused : (k p : ℕ) → refused k p ≡ field_length 1 bs → refused k p ≡ value (read_edition es bs)
  unfolding read_edition fmap
  edition_refused k p h = rw (field_refused 1 bs k p _ h)

  pub edition_length : (n : ℕ) → ok n ≡ field_length 1 bs → (n ≡ 1 → ⊥) → refused 32 0 ≡ value (read_edition es bs)
  unfolding read_edition fmap need◌or◌then◌
  edition_length n h d = rw (field_read 1 bs n _ h, body_length_lem 1 bs n (sym h), ne_eqb n 1 d)

  pub edition_value : (n : ℕ) → ok n ≡ field_length 1 bs → n ≡ 1 → value (read_edition es bs) ≡ edition_of es (get_or bs 3 0)
  unfolding read_edition fmap need◌or◌then◌
  edition_value n h d =
      let g : get_or (take n (drop 3 bs)) 0 0 ≡ get_or bs 3 0 = get_or-take n (drop 3 bs) 0 0 (omega arith) ∙ get_or-drop 3 bs 0 0 in
      rw (field_read 1 bs n _ h, body_length_lem 1 bs n (sym h), eq-eqb n 1 d, g) (drop_rest (edition_of es (get_or bs 3 0)) (drop (3 + n) bs))

-- what stands in no row
abbrev pub no_edition : Edition
no_edition = record { byte = 0; split = false; totals = false }

-- the rows, one after another
pub record Searched (es : List Edition) (n i : ℕ) : Type 0 where
  pub within : i ≤ length es
  pub left : edition_of (drop i es) n ≡ edition_of es n

module _ (es : List Edition) (n i : ℕ) (e d : Edition) (w : Searched es n i) (l : i < length es) (r : e ≡ get_or es i d) where
  row_step : (when eqb n e.byte then ok e else edition_of (drop (suc i) es) n) ≡ edition_of es n
  unfolding edition_of
  row_step = ap (λ x. when eqb n x.byte then ok x else edition_of (drop (suc i) es) n) r ∙ ap (λ x. edition_of x n) (sym (drop-cons es i d l)) ∙ w.left

  pub searched_here : e.byte ≡ n → ok e ≡ edition_of es n
  unfolding when◌then◌else◌
  searched_here h = rw (eq-eqb n e.byte (sym h)) at row_step

  pub searched_more : (e.byte ≡ n → ⊥) → Searched es n (i + 1)
  unfolding when◌then◌else◌
  searched_more h =
      let y : suc i ≡ i + 1 = omega arith in
      record { within = omega arith; left = ap (λ k. edition_of (drop k es) n) (sym y) ∙ (rw (ne_eqb n e.byte (λ q. h (sym q))) at row_step) }

nil_of : (es : List Edition) (n : ℕ) → length es ≡ 0 → refused 33 0 ≡ edition_of es n
unfolding edition_of
nil_of [] n h = refl
nil_of (e ∷ es) n h = absurd (omega arith)

pub searched_all : (es : List Edition) (n i : ℕ) → Searched es n i → length es ≤ i → refused 33 0 ≡ edition_of es n
searched_all es n i w l = nil_of (drop i es) n (omega (arith, length-drop i es)) ∙ w.left

-- ---- the offset
module _ (bs : List ℕ) where
  pub offset_refused : (k p : ℕ) → refused k p ≡ field_length 2 bs → refused k p ≡ value (read_offset bs)
  unfolding read_offset fmap
  offset_refused k p h = rw (field_refused 2 bs k p _ h)

  pub offset_length : (n : ℕ) → ok n ≡ field_length 2 bs → (n ≡ 4 → ⊥) → refused 32 0 ≡ value (read_offset bs)
  unfolding read_offset fmap need◌or◌then◌
  offset_length n h d = rw (field_read 2 bs n _ h, body_length_lem 2 bs n (sym h), ne_eqb n 4 d)

  pub offset_value : (n c : ℕ) → ok n ≡ field_length 2 bs → n ≡ 4 → c ≡ number4 (take 4 (drop 3 bs)) → value (read_offset bs) ≡ (need in_range (offset_of c) or 33 then ok (offset_of c))
  unfolding read_offset fmap need◌or◌then◌
  offset_value n c h d e = rw (field_read 2 bs n _ h, body_length_lem 2 bs n (sym h), eq-eqb n 4 d, d, ← e) (need_rest (in_range (offset_of c)) (offset_of c) (drop (3 + 4) bs))

-- four bytes of two's complement, as the code has them, are the rule's
pub offset_signed : (c : ℕ) → c < 4294967296 → to_z w32 c ≡ offset_of c
offset_signed c h =
    ⊎_elim
    (λ (e : ltb c 2147483648 ≡ true). rw e)
    (λ (e : ltb c 2147483648 ≡ false). let z : 4294967296 - suc c ≡ 4294967295 - c = omega arith in rw e (ap negsuc z))
    (decide (ltb c 2147483648))

module _ (z : ℤ) (c : ℕ) (e : z ≡ offset_of c) where
  pub offset_not : in_range z ≡ false → (need in_range (offset_of c) or 33 then ok (offset_of c)) ≡ refused 33 0
  unfolding need◌or◌then◌
  offset_not h = rw (← e, h)

  pub offset_is : in_range z ≡ true → (need in_range (offset_of c) or 33 then ok (offset_of c)) ≡ ok z
  unfolding need◌or◌then◌
  offset_is h = rw (← e, h)

-- ---- a field of marks
body_end : (n : ℕ) → 3 + n - 3 ≡ n
body_end n = omega arith

pub parts_in : (f : Shape) (n i z : ℕ) → z ≡ size f → (n / z * size f ≤ n) × (i < n / z → i * z ≤ n)
parts_in Whole n i z e = rw e (omega arith, λ h. omega arith)
parts_in (InLog l) n i z e = rw e (omega arith, λ h. omega arith)

module _ (t : ℕ) (f : Shape) (limit : ℕ) (key : ℕ) (bs : List ℕ) where
  pub list_room : (n z : ℕ) → ok n ≡ field_length t bs → z ≡ size f → n / z * size f ≤ length (take (3 + n - 3) (drop 3 bs))
  list_room n z h e = rw (body_end n, body_length_lem t bs n (sym h)) (parts_in f n 0 z e).0

  pub list_place : (n z i : ℕ) → ok n ≡ field_length t bs → z ≡ size f → i < n / z → 3 + i * z ≤ length bs
  list_place n z i h e l = omega (arith, (parts_in f n i z e).1 l, field_fits_lem t bs n (sym h))

  abbrev Tells : Answer Tally → Type 0
  Tells r = r ≡ fmap (λ x. tally key x.0) (read_list t f limit bs)

  pub list_refused : (k p : ℕ) → refused k p ≡ field_length t bs → Tells (refused k p)
  unfolding read_list fmap
  list_refused k p h = rw (field_refused t bs k p _ h)

  pub list_length : (n z : ℕ) → ok n ≡ field_length t bs → z ≡ size f → (n % z ≡ 0 → ⊥) → Tells (refused 32 0)
  unfolding read_list fmap need◌or◌then◌
  list_length n z h e d = rw (field_read t bs n _ h, body_length_lem t bs n (sym h), ← e, ne_eqb (n % z) 0 d)

  pub list_many : (n z : ℕ) → ok n ≡ field_length t bs → z ≡ size f → n % z ≡ 0 → limit < n / z → Tells (refused 34 0)
  unfolding read_list fmap need◌or◌then◌
  list_many n z h e d l = rw (field_read t bs n _ h, body_length_lem t bs n (sym h), ← e, eq-eqb (n % z) 0 d, lt-leb (n / z) limit l)

  -- the pass over the body
  module _ (n z : ℕ) (a : Tally) (h : ok n ≡ field_length t bs) (e : z ≡ size f) (d : n % z ≡ 0) (l : n / z ≤ limit) (g : a ≡ tally key (passing f 0 (n / z) (take (3 + n - 3) (drop 3 bs)))) where
    passed : a ≡ tally key (passing f 0 (n / z) (take n (drop 3 bs)))
    passed = g ∙ ap (λ y. tally key (passing f 0 (n / z) (take y (drop 3 bs)))) (body_end n)

    many : a.count ≡ length (passing f 0 (n / z) (take n (drop 3 bs)))
    many = ap (λ (y : Tally). y.count) passed

    whole : eqb (n % size f) 0 ≡ true
    whole = ap (λ y. eqb (n % y) 0) (sym e) ∙ eq-eqb (n % z) 0 d

    few : leb (n / size f) limit ≡ true
    few = ap (λ y. leb (n / y) limit) (sym e) ∙ le-leb (n / z) limit l

    pub list_fault : a.count < n / z → Tells (refused 33 (3 + a.count * z))
    unfolding read_list fmap need◌or◌then◌ ◌>>=◌ later
    list_fault k =
        let x : marks_in f 0 (n / size f) (take n (drop 3 bs)) ≡ refused 33 (a.count * z) =
        ap (λ y. marks_in f 0 (n / y) (take n (drop 3 bs))) (sym e) ∙ fault_in f 0 (n / z) (take n (drop 3 bs)) (omega (arith, many)) ∙ ap₂ (λ u v. refused 33 (u * v)) (sym many) (sym e) in
        rw (field_read t bs n _ h, body_length_lem t bs n (sym h), whole, few, x)

    pub list_told : n / z ≤ a.count → Tells (ok a)
    unfolding read_list fmap need◌or◌then◌ ◌>>=◌ later
    list_told k =
        let (r, q) = marks_pass f 0 (n / z) (take n (drop 3 bs)) (omega (arith, many)) in
        let x : marks_in f 0 (n / size f) (take n (drop 3 bs)) ≡ ok (passing f 0 (n / z) (take n (drop 3 bs))) = ap (λ y. marks_in f 0 (n / y) (take n (drop 3 bs))) (sym e) ∙ r in
        rw (field_read t bs n _ h, body_length_lem t bs n (sym h), whole, few, x) (ap ok passed)
