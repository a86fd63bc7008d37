-- The bits of a value: what the tests of a field's row, least and greatest value, say of the rules' `put`.
--
-- In order: a kind's least and greatest value; a value below, above, and within them; the same by the row. Assumes nothing.
use Prim.Native.Nat.{ℕ, zero, suc, ◌+◌, ◌-◌, ◌*◌, ◌%◌, ◌^◌, ◌<◌, ◌≤◌}
use mathlib.Core.Path.{◌≡◌, refl, sym, ap, ◌∙◌}
use mathlib.Core.Bool.{Bool, true, false, true≢false, false≢true}
use mathlib.Core.List.{List}
use native.Mathlib.Nat.{not-suc-le-zero, one-mul, mod-eq_of_lt}
use native.Mathlib.Omega.{arith}
use borrow.Author.Tests.{lt-ltb, le-ltb, le-leb, lt-leb, ltb-true, ltb-false}
use lib.Dec.{ltb}
use lib.IntN.{ℤ, pos, negsuc}
use lib.ListN.{length, get_or, drop, drop_of_length-le}
use lib.Pow.{pow_pos, pow-lt}
use lib.Seq.{drop-cons}
use lib.Signed.{lt_z, mag}
use mir.Syntax.{w64}
use mir.Val.{to_z, of_z, SFits}
use mir.ValLaws.{to_z-of_z}
use Rattle.rules.specs.Answer.{Answer, ok, refused, ◌>>=◌, need◌or◌then◌}
use Rattle.rules.specs.Field.{Kind, unsigned, signed, Field, spare, value, half, put}
use Rattle.tables.specs.Tables.{field_count, field_row, field_at, minus}
use Rattle.tables.specs.declared.tables.FieldRow.{FieldRow}
use Rattle.layouts.proofs.FieldCodes.{twice}
use Rattle.writing.specs.Write.{field_in, width_of, kind_of, code_for}
use Rattle.writing.proofs.Sound.{SoundField, width_few}
use Rattle.writing.proofs.TableLaws.{field_row_lem, field_in_sound}

-- ---- a kind's least and greatest value

abbrev low_of : Kind → ℤ
low_of (unsigned lo hi) = pos lo
low_of (signed lo hi) = minus lo

abbrev high_of : Kind → ℤ
high_of (unsigned lo hi) = pos hi
high_of (signed lo hi) = pos hi

row_width : (f : Field) → (field_row f).bits ≡ width_of f
row_width (spare w) = refl
row_width (value w (unsigned lo hi)) = refl
row_width (value w (signed lo hi)) = refl

row_low : (f : Field) → (field_row f).least ≡ low_of (kind_of f)
row_low (spare w) = refl
row_low (value w (unsigned lo hi)) = refl
row_low (value w (signed lo hi)) = refl

row_high : (f : Field) → (field_row f).greatest ≡ high_of (kind_of f)
row_high (spare w) = refl
row_high (value w (unsigned lo hi)) = refl
row_high (value w (signed lo hi)) = refl

-- a kind that its bits hold; in two's complement there is a bit for the sign
abbrev Held : ℕ → Kind → Type 0
Held w (unsigned lo hi) = hi < 2 ^ w
Held w (signed lo hi) = (1 ≤ w) × ((lo ≤ half w) × (hi < half w))

held : (f : Field) → SoundField f → Held (width_of f) (kind_of f)
held (spare w) s = pow_pos w
held (value w (unsigned lo hi)) s = s.1
held (value w (signed lo hi)) s = (s.0.0, s.1)

-- ---- a value below, above, and within them

code_of : ℕ → Kind → ℤ → Answer ℕ
code_of w k v = put w k v >>= (λ c. need ltb c (2 ^ w) or 11 then ok c)

-- of two tests the first fails, the second fails, or both pass
first_no : {A B : Type 0} {a : Bool} (x : Answer A) (f : A → Answer B) → a ≡ false → ((need a or 11 then x) >>= f) ≡ refused 11 0
unfolding ◌>>=◌ need◌or◌then◌
first_no x f e = rw e

second_no : {A B : Type 0} (a : Bool) {b : Bool} (x : Answer A) (f : A → Answer B) → b ≡ false → ((need a or 11 then need b or 11 then x) >>= f) ≡ refused 11 0
unfolding ◌>>=◌ need◌or◌then◌
second_no true x f e = rw e
second_no false x f e = refl

both_yes : {A B : Type 0} {a b : Bool} (x : Answer A) (f : A → Answer B) → a ≡ true → b ≡ true → ((need a or 11 then need b or 11 then x) >>= f) ≡ (x >>= f)
unfolding ◌>>=◌ need◌or◌then◌
both_yes x f d e = rw (d, e)

code_below : (w : ℕ) (k : Kind) (v : ℤ) → lt_z v (low_of k) ≡ true → code_of w k v ≡ refused 11 0
unfolding code_of put ◌>>=◌
code_below w (unsigned lo hi) (pos n) h = first_no _ _ (lt-leb lo n (ltb-true n lo h))
code_below w (unsigned lo hi) (negsuc n) h = refl
code_below w (signed zero hi) (pos n) h = absurd (not-suc-le-zero (ltb-true n 0 h))
code_below w (signed (suc lo) hi) (pos n) h = absurd (false≢true h)
code_below w (signed zero hi) (negsuc n) h = second_no _ _ _ (le-ltb n 0 (omega arith))
code_below w (signed (suc lo) hi) (negsuc n) h = second_no _ _ _ (le-ltb n (suc lo) (omega (arith, ltb-true lo n h)))

code_above : (w : ℕ) (k : Kind) (v : ℤ) → lt_z (high_of k) v ≡ true → code_of w k v ≡ refused 11 0
unfolding code_of put ◌>>=◌
code_above w (unsigned lo hi) (pos n) h = second_no _ _ _ (lt-leb n hi (ltb-true hi n h))
code_above w (unsigned lo hi) (negsuc n) h = refl
code_above w (signed lo hi) (pos n) h = second_no _ _ _ (lt-leb n hi (ltb-true hi n h))
code_above w (signed lo hi) (negsuc n) h = absurd (false≢true h)

code_plain : (w : ℕ) (k : Kind) (v : ℤ) → Held w k → lt_z v (low_of k) ≡ false → lt_z (high_of k) v ≡ false → lt_z v (pos 0) ≡ false → code_of w k v ≡ ok (mag v)
unfolding code_of put ◌>>=◌ need◌or◌then◌
code_plain w (unsigned lo hi) (pos n) s l h z =
    let b : n ≤ hi = ltb-false hi n h in
    both_yes (ok n) (λ c. need ltb c (2 ^ w) or 11 then ok c) (le-leb lo n (ltb-false n lo l)) (le-leb n hi b)
    ∙ ap (λ t. need t or 11 then ok n) (lt-ltb n (2 ^ w) (omega arith))
code_plain w (signed lo hi) (pos n) s l h z =
    let b : n ≤ hi = ltb-false hi n h in
    let e = twice w s.0 in
    both_yes (ok n) (λ c. need ltb c (2 ^ w) or 11 then ok c) (lt-ltb n (half w) (omega (arith, s.1.1))) (le-leb n hi b)
    ∙ ap (λ t. need t or 11 then ok n) (lt-ltb n (2 ^ w) (omega (arith, s.1.1)))
code_plain w k (negsuc n) s l h z = absurd (true≢false z)

-- a negative value: its magnitude is within the bits too
code_minus : (w : ℕ) (k : Kind) (v : ℤ) → Held w k → lt_z v (low_of k) ≡ false → lt_z v (pos 0) ≡ true → (mag v < 2 ^ w) × (code_of w k v ≡ ok (2 ^ w - 1 - mag v))
unfolding code_of put ◌>>=◌ need◌or◌then◌
code_minus w k (pos n) s l z = absurd (not-suc-le-zero (ltb-true n 0 z))
code_minus w (unsigned lo hi) (negsuc n) s l z = absurd (true≢false l)
code_minus w (signed zero hi) (negsuc n) s l z = absurd (true≢false l)
code_minus w (signed (suc lo) hi) (negsuc n) s l z =
    let b : n ≤ lo = ltb-false lo n l in
    let e = twice w s.0 in
    let p : n < half w = omega (arith, s.1.0) in
    let d : half w + half w - suc n ≡ 2 ^ w - 1 - n = omega arith in
    let c : 2 ^ w - 1 - n < 2 ^ w = omega arith in (
      omega arith,
      both_yes (ok (half w + half w - suc n)) (λ c. need ltb c (2 ^ w) or 11 then ok c) (lt-ltb n (half w) p) (lt-ltb n (suc lo) (omega arith))
          ∙ ap (λ x. need ltb x (2 ^ w) or 11 then ok x) d
          ∙ ap (λ t. need t or 11 then ok (2 ^ w - 1 - n)) (lt-ltb (2 ^ w - 1 - n) (2 ^ w) c),
    )

-- ---- the same by the row, and by the numbers of 64 bits that a local holds

-- a signed number that a local holds is read again from its bits
abbrev again : ℤ → ℤ
again z = to_z w64 (of_z w64 z)

lt_again : (a b : ℤ) → SFits w64 a → SFits w64 b → lt_z (again a) (again b) ≡ lt_z a b
lt_again a b fa fb = ap (λ x. lt_z x (again b)) (to_z-of_z w64 a fa) ∙ ap (lt_z a) (to_z-of_z w64 b fb)

-- no value
pub code_none : (i : ℕ) (vs : List ℤ) (at : ℕ) → length vs ≤ at → refused 11 0 ≡ code_for (field_in i) (drop at vs)
unfolding code_for
code_none i vs at h = sym (ap (code_for (field_in i)) (drop_of_length-le vs h))

-- the value at a place, and the row of the field that it is for
pub record Taken (i : ℕ) (vs : List ℤ) (at : ℕ) (r : FieldRow) : Type 0 where
  pub row : r ≡ field_at i
  pub there : at < length vs
  pub fits : SFits w64 (get_or vs at (pos 0))

module _ {i : ℕ} {vs : List ℤ} {at : ℕ} {r : FieldRow} (t : Taken i vs at r) where
  code_is : code_for (field_in i) (drop at vs) ≡ code_of (width_of (field_in i)) (kind_of (field_in i)) (get_or vs at (pos 0))
  unfolding code_for code_of
  code_is = ap (code_for (field_in i)) (drop-cons vs at (pos 0) t.there)

  width_is : r.bits ≡ width_of (field_in i)
  width_is = ap (λ x. x.bits) (t.row ∙ field_row_lem i) ∙ row_width (field_in i)

  low_is : r.least ≡ low_of (kind_of (field_in i))
  low_is = ap (λ x. x.least) (t.row ∙ field_row_lem i) ∙ row_low (field_in i)

  high_is : r.greatest ≡ high_of (kind_of (field_in i))
  high_is = ap (λ x. x.greatest) (t.row ∙ field_row_lem i) ∙ row_high (field_in i)

  low_test : SFits w64 r.least → lt_z (get_or vs at (pos 0)) (low_of (kind_of (field_in i))) ≡ lt_z (again (get_or vs at (pos 0))) (again r.least)
  low_test fl = ap (lt_z (get_or vs at (pos 0))) (sym low_is) ∙ sym (lt_again (get_or vs at (pos 0)) r.least t.fits fl)

  high_test : SFits w64 r.greatest → lt_z (high_of (kind_of (field_in i))) (get_or vs at (pos 0)) ≡ lt_z (again r.greatest) (again (get_or vs at (pos 0)))
  high_test fh = ap (λ x. lt_z x (get_or vs at (pos 0))) (sym high_is) ∙ sym (lt_again r.greatest (get_or vs at (pos 0)) fh t.fits)

  zero_test : lt_z (get_or vs at (pos 0)) (pos 0) ≡ lt_z (again (get_or vs at (pos 0))) (pos 0)
  zero_test = ap (λ x. lt_z x (pos 0)) (sym (to_z-of_z w64 (get_or vs at (pos 0)) t.fits))

  pub code_low : SFits w64 r.least → lt_z (again (get_or vs at (pos 0))) (again r.least) ≡ true → refused 11 0 ≡ code_for (field_in i) (drop at vs)
  code_low fl e = sym (code_is ∙ code_below _ _ _ (low_test fl ∙ e))

  pub code_high : SFits w64 r.greatest → lt_z (again r.greatest) (again (get_or vs at (pos 0))) ≡ true → refused 11 0 ≡ code_for (field_in i) (drop at vs)
  code_high fh e = sym (code_is ∙ code_above _ _ _ (high_test fh ∙ e))

  module _ (s : i < field_count) (fl : SFits w64 r.least) (l : lt_z (again (get_or vs at (pos 0))) (again r.least) ≡ false) where
    pub bits_few : r.bits < 64
    bits_few = rw width_is (width_few (field_in i) (field_in_sound i s))

    -- the power of two that the code makes
    shifted : 1 * 2 ^ r.bits % 2 ^ 64 ≡ 2 ^ r.bits
    shifted = rw one-mul (mod-eq_of_lt (pow-lt bits_few))

    pub shift_some : 1 ≤ 1 * 2 ^ r.bits % 2 ^ 64
    shift_some = rw shifted (pow_pos r.bits)

    pub code_neg : {m : ℕ} → lt_z (again (get_or vs at (pos 0))) (pos 0) ≡ true → m ≡ mag (again (get_or vs at (pos 0)))
        → (m ≤ 1 * 2 ^ r.bits % 2 ^ 64 - 1) × (ok (1 * 2 ^ r.bits % 2 ^ 64 - 1 - m) ≡ code_for (field_in i) (drop at vs))
    code_neg {m} z em =
        let v = get_or vs at (pos 0) in
        let (a, b) = code_minus (width_of (field_in i)) (kind_of (field_in i)) v (held (field_in i) (field_in_sound i s)) (low_test fl ∙ l) (zero_test ∙ z) in
        let e : m ≡ mag v = em ∙ ap mag (to_z-of_z w64 v t.fits) in
        rw (shifted, width_is, e) (omega arith, sym (code_is ∙ b))

    pub code_pos : {m : ℕ} → SFits w64 r.greatest → lt_z (again r.greatest) (again (get_or vs at (pos 0))) ≡ false → lt_z (again (get_or vs at (pos 0))) (pos 0) ≡ false → m ≡ mag (again (get_or vs at (pos 0)))
        → ok m ≡ code_for (field_in i) (drop at vs)
    code_pos {m} fh u z em =
        let v = get_or vs at (pos 0) in
        let e : m ≡ mag v = em ∙ ap mag (to_z-of_z w64 v t.fits) in
        rw e (sym (code_is ∙ code_plain (width_of (field_in i)) (kind_of (field_in i)) v (held (field_in i) (field_in_sound i s)) (low_test fl ∙ l) (high_test fh ∙ u) (zero_test ∙ z)))
