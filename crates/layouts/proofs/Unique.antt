-- For each function that another crate can call, no two distinct results meet its statement, nor two outputs. Assumes nothing.
use Prim.Native.Nat.{ℕ, ◌+◌}
use mathlib.Core.Path.{◌≡◌, sym, ap, ap₂, ◌∙◌}
use mathlib.Core.Bool.{Bool}
use mathlib.Core.List.{List}
use Rattle.std.specs.Prelude.{Result}
use lib.IntN.{ℤ}
use lib.ListN.{drop}
use lib.Seq.{sets}
use Rattle.rules.specs.Chain.{flatten}
use Rattle.rules.specs.declared.faults.Refusal.{Refusal}
use Rattle.rules.proofs.ToldLaws.{one_told_as}
use Rattle.tables.specs.declared.tables.LayoutRow.{LayoutRow}
use Rattle.layouts.specs.declared.parts.Parts.{Parts}
use Rattle.layouts.specs.declared.parts.Run.{Run}
use Rattle.layouts.specs.Read.{rows_at, part_at, legal, run_fault, holds, part_values, parts_is, shape_is, head_of, step_of, whole_of}

pub one_first_legal : (self : Run) (s : List ℕ) (a b : Bool)
    → a ≡ legal (rows_at self.group) (part_at self.step self.group (drop self.at s)) → b ≡ legal (rows_at self.group) (part_at self.step self.group (drop self.at s)) → a ≡ b
one_first_legal self s a b p q = p ∙ sym q

pub one_fault_at : (self : Run) (s : List ℕ) (a b : ℕ) → a ≡ run_fault self s → b ≡ run_fault self s → a ≡ b
one_fault_at self s a b p q = p ∙ sym q

one_parts : (a b : Parts) → parts_is a ≡ parts_is b → a ≡ b
one_parts a b e = ap₂ (λ k n. record { count = k; long = n }) (ap (λ x. x.0) e) (ap (λ x. x.1) e)

pub shape_told : (a b : Result Parts Refusal) → shape_is a ≡ shape_is b → a ≡ b
shape_told a b e = one_told_as parts_is one_parts a b e

pub one_whole_of : (l : LayoutRow) (s : List ℕ) (a b : Result Parts Refusal) → shape_is a ≡ whole_of l s → shape_is b ≡ whole_of l s → a ≡ b
one_whole_of l s a b p q = shape_told a b (p ∙ sym q)

-- the answer, and what the output then holds
pub one_item_store : (l : LayoutRow) (s : List ℕ) (parts : ℕ) (out : List ℤ) (start a b : ℕ) (left right : List ℤ)
    → (a ≡ start + holds (step_of l.kind) l.first parts) × (left ≡ sets out start (flatten (part_values (step_of l.kind) l.first parts (drop (head_of l.kind) s))))
    → (b ≡ start + holds (step_of l.kind) l.first parts) × (right ≡ sets out start (flatten (part_values (step_of l.kind) l.first parts (drop (head_of l.kind) s))))
    → (a ≡ b) × (left ≡ right)
one_item_store l s parts out start a b left right p q = (p.0 ∙ sym q.0, p.1 ∙ sym q.1)
