-- A list stored into another, element after element from a place on. Assumes nothing.
use Prim.Native.Nat.{ℕ, suc, ◌+◌}
use mathlib.Core.Path.{◌≡◌, refl, sym, ap, ◌∙◌}
use mathlib.Core.List.{List, [], ◌∷◌, ◌++◌}
use native.Mathlib.Nat.{add-zero, suc-add, add-suc}
use lib.ListN.{length, set}
use lib.Seq.{sets}
use Rattle.rules.specs.Entry.{over}

module _ {A : Type 0} where
  -- one list after another
  pub sets_append : (xs ys l : List A) (q : ℕ) → sets l q (xs ++ ys) ≡ sets (sets l q xs) (q + length xs) ys
  sets_append [] ys l q = ap (λ k. sets l k ys) (sym (add-zero q))
  sets_append (x ∷ xs) ys l q =
      sets_append xs ys (set l q x) (suc q) ∙ ap (λ k. sets (sets (set l q x) (suc q) xs) k ys) (suc-add q (length xs) ∙ sym (add-suc q (length xs)))

  sets_suc : (vs l : List A) (x : A) (i : ℕ) → sets (x ∷ l) (suc i) vs ≡ x ∷ sets l i vs
  sets_suc [] l x i = refl
  sets_suc (v ∷ vs) l x i = sets_suc vs (set l i v) x (suc i)

  sets_nil : (vs : List A) (i : ℕ) → ◌≡◌ {A = List A} (sets [] i vs) []
  sets_nil [] i = refl
  sets_nil (v ∷ vs) i = sets_nil vs (suc i)

  -- a list at the start
  pub sets_over : (vs l : List A) → sets l 0 vs ≡ over vs l
  sets_over [] l = refl
  sets_over (v ∷ vs) [] = sets_nil vs 1
  sets_over (v ∷ vs) (x ∷ l) = sets_suc vs l v 0 ∙ ap (λ r. v ∷ r) (sets_over vs l)
