-- No two distinct results satisfy the statement of a function that another crate can call. Assumes nothing.
use Prim.Native.Nat.{ℕ, ◌≤◌}
use mathlib.Core.Path.{◌≡◌, sym, ap, ◌∙◌}
use mathlib.Core.Bool.{Bool}
use mathlib.Core.List.{List}
use Rattle.std.specs.Prelude.{Result, Ok, Err}
use Rattle.rules.specs.declared.Edition.{Edition}
use Rattle.rules.specs.declared.faults.Fault.{Fault}
use Rattle.rules.specs.declared.faults.Refusal.{Refusal}
use Rattle.rules.proofs.ToldLaws.{one_fault, one_told}
use Rattle.rules.proofs.AnswerLaws.{ok_inj, refused_ok}
use lib.IntN.{ℤ}
use Rattle.rules.specs.Merge.{in_range}
use Rattle.rules.specs.SheetForm.{form}
use Rattle.rules.specs.Sheet.{edition_of, read_sheet}
use Rattle.viewing.specs.declared.View.{View}
use Rattle.viewing.specs.Read.{fmap, totals_size, view_of, view_answer, edition_answer}

same_edition : (a b : Result Edition Fault) → edition_answer a ≡ edition_answer b → a ≡ b
same_edition (Ok v) (Ok w) h = ap Ok (ok_inj h)
same_edition (Ok v) (Err f) h = refused_ok (sym h)
same_edition (Err e) (Ok w) h = refused_ok h
same_edition (Err e) (Err f) h = ap Err (one_fault e f cc)

pub one_edition_of : (byte : ℕ) (a b : Result Edition Fault) → edition_answer a ≡ edition_of form.editions byte → edition_answer b ≡ edition_of form.editions byte → a ≡ b
one_edition_of byte a b p q = same_edition a b (p ∙ sym q)

pub one_offset_ok : (offset : ℤ) (a b : Bool) → a ≡ in_range offset → b ≡ in_range offset → a ≡ b
one_offset_ok offset a b p q = p ∙ sym q

pub one_totals_size : (totals : Bool) (a b : ℕ) → (a ≡ totals_size totals) × (a ≤ 15) → (b ≡ totals_size totals) × (b ≤ 15) → a ≡ b
one_totals_size totals a b p q = p.0 ∙ sym q.0

pub one_view_sheet : (s : List ℕ) (key : ℕ) (a b : Result View Refusal) → view_answer a ≡ fmap (view_of key) (read_sheet form s) → view_answer b ≡ fmap (view_of key) (read_sheet form s) → a ≡ b
one_view_sheet s key a b p q = one_told a b (p ∙ sym q)
