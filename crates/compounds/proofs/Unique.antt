-- For each function that another crate can call, no two distinct results meet its statement, nor two outputs. Assumes nothing.
use Prim.Native.Nat.{ℕ}
use mathlib.Core.Path.{◌≡◌, sym, ◌∙◌}
use mathlib.Core.List.{List}
use lib.IntN.{ℤ}
use Rattle.rules.specs.Answer.{Answer, ok, refused}
use Rattle.tables.specs.declared.tables.LayoutRow.{LayoutRow}
use Rattle.std.specs.Prelude.{Result}
use Rattle.rules.specs.declared.faults.Refusal.{Refusal}
use Rattle.layouts.specs.declared.parts.Parts.{Parts}
use Rattle.layouts.specs.Read.{shape_is}
use Rattle.layouts.proofs.Unique.{shape_told}
use Rattle.compounds.specs.Compound.{Told, item_read, shaped, KeptAll}

pub one_item_of : (l : LayoutRow) (s : List ℕ) (a b : Result Parts Refusal) → shape_is a ≡ shaped l s → shape_is b ≡ shaped l s → a ≡ b
one_item_of l s a b p q = shape_told a b (p ∙ sym q)

-- the answer, and what the output then holds
pub one_item_fields : (l : LayoutRow) (s : List ℕ) (parts : ℕ) (out : List ℤ) (a b : ℕ) (left right : List ℤ)
    → KeptAll (item_read l s) a out left → KeptAll (item_read l s) b out right → (a ≡ b) × (left ≡ right)
one_item_fields l s parts out a b left right p q = go (item_read l s) p q
  where
    go : (m : Answer Told) → KeptAll m a out left → KeptAll m b out right → (a ≡ b) × (left ≡ right)
    go (ok x) h k = (h.0 ∙ sym k.0, h.1 ∙ sym k.1)
    go (refused n e) h k = (h.0 ∙ sym k.0, h.1 ∙ sym k.1)
