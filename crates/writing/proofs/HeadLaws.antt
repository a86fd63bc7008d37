-- The count or length octet before the parts of a format, by its row: none but of a list and of a led item. Assumes nothing.
use Rattle.tables.specs.declared.tables.Kind.TheVariants.{Repeated, Led}
use Rattle.tables.specs.Tables.{kind_digit, same_kind}
use Rattle.tables.proofs.KindLaws.{kind_same, kind_other}
use Prim.Native.Nat.{ℕ, suc, ◌+◌, ◌<◌, ◌≤◌}
use mathlib.Core.Path.{◌≡◌, sym, ap, ◌∙◌}
use mathlib.Core.Bool.{cond}
use mathlib.Core.List.{List, [], ◌∷◌}
use native.Mathlib.Omega.{arith}
use native.Mathlib.Nat.{add-zero}
use native.Mathlib.Numerals.{add-one}
use lib.ListN.{length, set}
use lib.Seq.{sets}
use Rattle.tables.specs.declared.tables.LayoutRow.{LayoutRow}
use Rattle.tables.specs.Tables.{layout_at}
use Rattle.writing.specs.Write.{parts_at, head_at}
use Rattle.writing.proofs.TableLaws.{layout_row_is}

module _ (i k : ℕ) {r : LayoutRow} (er : r ≡ layout_at i) where
  pub head_list : r.kind ≡ Repeated → head_at i k ≡ k ∷ []
  unfolding head_at
  head_list e = ap (λ t. cond t (k ∷ []) (cond (same_kind (layout_at i).kind Led) (suc k ∷ []) [])) (kind_same (layout_at i).kind Repeated (sym (ap (λ x. x.kind) er) ∙ e))

  not_list : (r.kind ≡ Repeated → ⊥) → head_at i k ≡ cond (same_kind (layout_at i).kind Led) (suc k ∷ []) []
  unfolding head_at
  not_list e = ap (λ t. cond t (k ∷ []) (cond (same_kind (layout_at i).kind Led) (suc k ∷ []) [])) (kind_other (layout_at i).kind Repeated (λ z. e (ap (λ x. x.kind) er ∙ z)))

  pub head_led : r.kind ≡ Led → (head_at i k ≡ suc k ∷ []) × (length (parts_at i) ≤ 254)
  head_led d =
      let e : r.kind ≡ Repeated → ⊥ = λ z. absurd (omega (arith, ap kind_digit z, ap kind_digit d)) in
      let t = kind_same (layout_at i).kind Led (sym (ap (λ x. x.kind) er) ∙ d) in
      (not_list e ∙ ap (λ t. cond t (suc k ∷ []) []) t, omega (arith, (layout_row_is i).most, (layout_row_is i).led_few t))

  pub head_none : (r.kind ≡ Repeated → ⊥) → (r.kind ≡ Led → ⊥) → head_at i k ≡ []
  head_none e d = not_list e ∙ ap (λ t. cond t (suc k ∷ []) []) (kind_other (layout_at i).kind Led (λ z. d (ap (λ x. x.kind) er ∙ z)))

  -- the octet laid: the output has room for it, and it fits
  pub list_laid : (out : List ℕ) (at : ℕ) {b : ℕ} → r.kind ≡ Repeated → b ≡ k + 0 → set out at b ≡ sets out at (head_at i k)
  list_laid out at e d = rw (d, add-zero k, head_list e)

  pub list_room : {n at : ℕ} → r.kind ≡ Repeated → at + length (head_at i k) ≤ n → at < n
  list_room e h = omega (arith, ap length (head_list e))

  pub led_laid : (out : List ℕ) (at : ℕ) {b : ℕ} → r.kind ≡ Led → b ≡ k + 1 → set out at b ≡ sets out at (head_at i k)
  led_laid out at f d = rw (d, add-one k, (head_led f).0)

  pub led_room : {n at : ℕ} → r.kind ≡ Led → at + length (head_at i k) ≤ n → at < n
  led_room f h = omega (arith, ap length (head_led f).0)

  pub none_laid : (out : List ℕ) (at : ℕ) → (r.kind ≡ Repeated → ⊥) → (r.kind ≡ Led → ⊥) → out ≡ sets out at (head_at i k)
  none_laid out at e f = rw (head_none e f)
