-- What the code meets: the totals of a sheet. Assumes nothing.
use Prim.Native.Nat.{ℕ, suc, ◌+◌, ◌-◌, ◌*◌, ◌/◌, ◌%◌, ◌≤◌, ◌<◌}
use mathlib.Core.Path.{◌≡◌, refl, sym, ap, ap₂, ◌∙◌}
use mathlib.Core.Bool.{Bool, true, false, ◌&&◌}
use mathlib.Core.List.{List, [], ◌∷◌}
use native.Mathlib.Omega.{arith}
use lib.Dec.{eqb}
use borrow.Author.Tests.{eq-eqb, ne_eqb}
use Rattle.rules.specs.Answer.{Answer, ok, refused, need◌or◌then◌}
use Rattle.rules.specs.declared.Mark.{Mark}
use lib.ListN.{length, take, drop, get_or, length-drop}
use lib.Seq.{drop-cons}
use Rattle.rules.specs.Mark.{count, totals_from, totals}
use Rattle.rules.specs.Sheet.{field_length, same, read_total}
use Rattle.rules.proofs.SheetSteps.{read_totals}
use Rattle.viewing.specs.Read.{fmap, value}
use Rattle.viewing.proofs.FieldLaws.{field_refused, field_read, body_length_lem, field_fits_lem}

-- the totals of the stations before j agree
pub record Agreed (ms : List Mark) (body : List ℕ) (j : ℕ) : Type 0 where
  pub left : same (drop (j * 2) body) (totals_from j (6 - j) ms) ≡ same body (totals ms)

two_more : (body : List ℕ) (at : ℕ) → at + 1 < length body → drop at body ≡ get_or body at 0 ∷ get_or body (at + 1) 0 ∷ drop (at + 2) body
two_more body at h =
    let e : suc at ≡ at + 1 = omega arith in
    let g : suc (at + 1) ≡ at + 2 = omega arith in
    drop-cons body at 0 (omega arith) ∙ ap (λ l. get_or body at 0 ∷ l) (ap (λ k. drop k body) e ∙ drop-cons body (at + 1) 0 h ∙ ap (λ k. get_or body (at + 1) 0 ∷ drop k body) g)

total_step : (ms : List Mark) (j : ℕ) → j < 6 → totals_from j (6 - j) ms ≡ count j ms / 256 ∷ count j ms % 256 ∷ totals_from (j + 1) (6 - (j + 1)) ms
unfolding totals_from
total_step ms j h =
    let z : 6 - j ≡ suc (6 - (j + 1)) = omega arith in
    let y : suc j ≡ j + 1 = omega arith in
    ap (λ n. totals_from j n ms) z ∙ ap (λ k. count j ms / 256 ∷ count j ms % 256 ∷ totals_from k (6 - (j + 1)) ms) y

same_step : (a b c d : ℕ) (x y : List ℕ) → same (a ∷ b ∷ x) (c ∷ d ∷ y) ≡ (eqb a c && (eqb b d && same x y))
unfolding same
same_step a b c d x y = refl

module _ (ms : List Mark) (body : List ℕ) (j : ℕ) (l : length body ≡ 12) (p : Agreed ms body j) (h : j < 6) where
  agreed_step : (eqb (get_or body (j * 2) 0) (count j ms / 256) && (eqb (get_or body (j * 2 + 1) 0) (count j ms % 256) && same (drop (j * 2 + 2) body) (totals_from (j + 1) (6 - (j + 1)) ms))) ≡ same body (totals ms)
  agreed_step = sym (same_step _ _ _ _ _ _) ∙ ap₂ same (sym (two_more body (j * 2) (omega arith))) (sym (total_step ms j h)) ∙ p.left

  pub agreed_high : (n i v : ℕ) → n ≡ count j ms → i ≡ j → v ≡ get_or body (i * 2) 0 → (v ≡ n / 256 → ⊥) → false ≡ same body (totals ms)
  agreed_high n i v e g f d =
      let q : eqb (get_or body (j * 2) 0) (count j ms / 256) ≡ false = ne_eqb _ _ (λ y. d (f ∙ ap (λ k. get_or body (k * 2) 0) g ∙ y ∙ ap (λ x. x / 256) (sym e))) in
      rw q at agreed_step

  module _ (n i v u : ℕ) (e : n ≡ count j ms) (g : i ≡ j) (f : v ≡ get_or body (i * 2) 0) (d : v ≡ n / 256) (k : u ≡ get_or body (i * 2 + 1) 0) where
    high : eqb (get_or body (j * 2) 0) (count j ms / 256) ≡ true
    high = eq-eqb _ _ (ap (λ k. get_or body (k * 2) 0) (sym g) ∙ sym f ∙ d ∙ ap (λ x. x / 256) e)

    pub agreed_low : (u ≡ n % 256 → ⊥) → false ≡ same body (totals ms)
    agreed_low h =
        let r : eqb (get_or body (j * 2 + 1) 0) (count j ms % 256) ≡ false = ne_eqb _ _ (λ y. h (k ∙ ap (λ k. get_or body (k * 2 + 1) 0) g ∙ y ∙ ap (λ x. x % 256) (sym e))) in
        rw (high, r) at agreed_step

    pub agreed_more : u ≡ n % 256 → Agreed ms body (j + 1)
    agreed_more h =
        let r : eqb (get_or body (j * 2 + 1) 0) (count j ms % 256) ≡ true = eq-eqb _ _ (ap (λ k. get_or body (k * 2 + 1) 0) (sym g) ∙ sym k ∙ h ∙ ap (λ x. x % 256) e) in
        let z : j * 2 + 2 ≡ (j + 1) * 2 = omega arith in
        record { left = ap (λ i. same (drop i body) (totals_from (j + 1) (6 - (j + 1)) ms)) (sym z) ∙ (rw (high, r) at agreed_step) }

nil_of : (x : List ℕ) → length x ≡ 0 → x ≡ []
nil_of [] h = refl
nil_of (a ∷ x) h = absurd (omega arith)

same_nil : true ≡ same [] []
unfolding same
same_nil = refl

none_left : (ms : List Mark) → totals_from 6 0 ms ≡ []
unfolding totals_from
none_left ms = refl

pub agreed_all : (ms : List Mark) (body : List ℕ) (j : ℕ) → length body ≡ 12 → Agreed ms body j → 6 ≡ j → true ≡ same body (totals ms)
agreed_all ms body j l p h =
    let d : drop (j * 2) body ≡ [] = nil_of (drop (j * 2) body) (omega (arith, length-drop (j * 2) body)) in
    let t : totals_from j (6 - j) ms ≡ [] = ap (λ k. totals_from k (6 - k) ms) (sym h) ∙ none_left ms in
    same_nil ∙ ap₂ same (sym d) (sym t) ∙ p.left

-- ---- the field
module _ (ms : List Mark) (bs : List ℕ) where
  abbrev Says : Answer Unit → Type 0
  Says r = r ≡ value (read_total 4 ms bs)

  pub total_refused : (k p : ℕ) → refused k p ≡ field_length 4 bs → Says (refused k p)
  unfolding read_total fmap
  total_refused k p h = rw (field_refused 4 bs k p _ h)

  pub total_length : (n : ℕ) → ok n ≡ field_length 4 bs → (n ≡ 12 → ⊥) → Says (refused 32 0)
  unfolding read_total fmap need◌or◌then◌
  total_length n h d = rw (field_read 4 bs n _ h, body_length_lem 4 bs n (sym h), ne_eqb n 12 d)

  pub total_same : (n : ℕ) → ok n ≡ field_length 4 bs → n ≡ 12 → same (take 12 (drop 3 bs)) (totals ms) ≡ true → Says (ok tt)
  unfolding read_total fmap need◌or◌then◌
  total_same n h d e = rw (field_read 4 bs n _ h, body_length_lem 4 bs n (sym h), eq-eqb n 12 d, d, e)

  pub total_other : (n : ℕ) → ok n ≡ field_length 4 bs → n ≡ 12 → same (take 12 (drop 3 bs)) (totals ms) ≡ false → Says (refused 37 0)
  unfolding read_total fmap need◌or◌then◌
  total_other n h d e = rw (field_read 4 bs n _ h, body_length_lem 4 bs n (sym h), eq-eqb n 12 d, d, e)

  pub total_body : (n : ℕ) → ok n ≡ field_length 4 bs → n ≡ 12 → (length (take 12 (drop 3 bs)) ≡ 12) × (15 ≤ length bs)
  total_body n h d = (ap (λ k. length (take k (drop 3 bs))) (sym d) ∙ body_length_lem 4 bs n (sym h) ∙ d, omega (arith, field_fits_lem 4 bs n (sym h)))

pub totals_none : (t : Bool) (ms : List Mark) (bs : List ℕ) → t ≡ false → ◌≡◌ {A = Answer Unit} (ok tt) (value (read_totals t ms bs))
unfolding read_totals fmap
totals_none t ms bs h = rw h

pub totals_some : (t : Bool) (ms : List Mark) (bs : List ℕ) (r : Answer Unit) → t ≡ true → r ≡ value (read_total 4 ms bs) → r ≡ value (read_totals t ms bs)
unfolding read_totals
totals_some t ms bs r h k = rw h k
