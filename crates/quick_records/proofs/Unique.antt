-- No two distinct results meet the statement of `record_end`, whichever sound tables it goes by, of `long` or of `first_five`.
--
-- Not `Tables::new`, which states less by design: a table may say less than the rules do, which is only slow, and none may say more
-- (`sound_types`, `sound_sets`, ghost fields of `Types` and `Sets`); nor `slot_of`: any place would do, since the shape is compared. No other crate can call what else
-- is here. Assumes nothing.
use Rattle.std.specs.Prelude.{Result}
use Prim.Native.Nat.{ℕ}
use mathlib.Core.Path.{◌≡◌, sym, ◌∙◌}
use mathlib.Core.List.{List}
use Rattle.rules.specs.declared.faults.Refusal.{Refusal}
use Rattle.rules.proofs.ToldLaws.{one_told}
use Rattle.records.specs.Answers.{end_of}
use Rattle.quick_records.specs.Record.{end_at}
use Rattle.quick_records.specs.Shape.{low_number}

pub one_record_end : (profile : ℕ) (part : List ℕ) (at : ℕ) (a b : Result ℕ Refusal)
    → end_of a ≡ end_at profile at part → end_of b ≡ end_at profile at part → a ≡ b
one_record_end profile part at a b p q = one_told a b (p ∙ sym q)

pub one_long : (x a b : ℕ) → a ≡ x → b ≡ x → a ≡ b
one_long x a b p q = p ∙ sym q

pub one_first_five : (part : List ℕ) (a b : ℕ) → a ≡ low_number 5 part → b ≡ low_number 5 part → a ≡ b
one_first_five part a b p q = p ∙ sym q
