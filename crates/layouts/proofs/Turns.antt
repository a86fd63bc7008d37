-- What a turn of a loop over the fields of a part does.
--
-- In order: the row of a field; a field cut off. Assumes nothing.
use Prim.Native.Nat.{ℕ, ◌+◌, ◌-◌, ◌/◌, ◌%◌, ◌<◌, ◌≤◌, ◌^◌}
use mathlib.Core.Path.{◌≡◌, sym, ap, ◌∙◌, subst}
use mathlib.Core.List.{List, [], ◌∷◌, map}
use native.Mathlib.Omega.{arith}
use native.Mathlib.Nat.{mod-lt}
use native.Mathlib.Numerals.{add-one}
use lib.ListN.{take, drop_of_length-le}
use lib.Seq.{slice-cons, length-take-le}
use lib.Pow.{pow_pos, shr_lt}
use Rattle.tables.specs.declared.tables.FieldRow.{FieldRow}
use Rattle.tables.specs.Tables.{field_count, fields, field_row, no_field_row, field_at}
use Rattle.tables.proofs.TableLaws.{field_few, field_wide, fields_long}
use Rattle.layouts.specs.Read.{rows, value_of, width, shown, takes, values, count}

-- ---- the row of a field

pub rows_cons : (a e : ℕ) → a < e → e ≤ field_count → rows a e ≡ field_at a ∷ rows (a + 1) e
unfolding rows field_at
rows_cons a e h k = rw add-one (slice-cons a e (map field_row fields) no_field_row h (subst (λ n. e ≤ n) (sym fields_long) k))

pub rows_nil : (a e : ℕ) → e ≤ a → e ≤ field_count → rows a e ≡ []
unfolding rows
rows_nil a e h k =
    drop_of_length-le (take e (map field_row fields)) (subst (λ n. n ≤ a) (sym (length-take-le e (map field_row fields) (subst (λ n. e ≤ n) (sym fields_long) k))) h)

-- ---- field i, f, is cut off the rest, of left bits

pub record Cut (i e rest left : ℕ) (f : FieldRow) : Type 0 where
  pub some : 1 ≤ f.bits
  pub small : f.bits ≤ 62
  pub fits : f.bits ≤ left
  pub next : left - f.bits ≡ width (rows (i + 1) e)
  pub less : left - f.bits < 64
  pub code : rest / 2 ^ (left - f.bits) < 2 ^ f.bits
  pub low : rest % 2 ^ (left - f.bits) < 2 ^ (left - f.bits)
  pub pow : 0 < 2 ^ (left - f.bits)
  pub vals : values (rows i e) rest ≡ shown f (value_of f (rest / 2 ^ (left - f.bits))) (values (rows (i + 1) e) (rest % 2 ^ (left - f.bits)))
  pub counts : count (rows i e) ≡ takes f + count (rows (i + 1) e)

pub cut : (i e rest left : ℕ) (f : FieldRow) → f ≡ field_at i → i < e → e ≤ field_count → left ≡ width (rows i e) → left ≤ 64 → rest < 2 ^ left → Cut i e rest left f
cut i e rest left f ef h k el few small =
    let fs : List FieldRow = rows (i + 1) e in
    let r : rows i e ≡ f ∷ fs = rows_cons i e h k ∙ ap (λ (x : FieldRow). x ∷ fs) (sym ef) in
    let w : width (rows i e) ≡ f.bits + width fs = ap width r in
    let n : left - f.bits ≡ width fs = omega arith in
    let t : i < field_count = omega arith in
    let s : left ≡ f.bits + (left - f.bits) = omega arith in
    let one : 1 ≤ f.bits = subst (λ x. 1 ≤ x.bits) (sym ef) (field_wide i t) in
    record {
      some = one;
      small = subst (λ x. x.bits ≤ 62) (sym ef) (field_few i t);
      fits = omega arith;
      next = n;
      less = omega arith;
      code = shr_lt f.bits (left - f.bits) (subst (λ (x : ℕ). rest < 2 ^ x) s small);
      low = mod-lt rest (pow_pos (left - f.bits));
      pow = pow_pos (left - f.bits);
      vals = ap (λ (l : List FieldRow). values l rest) r ∙ ap (λ (x : ℕ). shown f (value_of f (rest / 2 ^ x)) (values fs (rest % 2 ^ x))) (sym n);
      counts = ap count r;
    }
