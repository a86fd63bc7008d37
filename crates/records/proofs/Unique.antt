-- For each function that another crate can call, no two distinct results meet its statement.
--
-- In order: a map; a record; a new record. Assumes nothing.
use Prim.Native.Nat.{ℕ}
use mathlib.Core.Path.{◌≡◌, sym, ◌∙◌}
use mathlib.Core.List.{List}
use Rattle.std.specs.Prelude.{Result}
use Rattle.rules.specs.declared.faults.Refusal.{Refusal}
use Rattle.rules.proofs.ToldLaws.{one_told}
use Rattle.sets.specs.declared.ItemSet.{ItemSet}
use Rattle.records.specs.declared.RecordMap.{RecordMap}
use Rattle.records.specs.Answers.{absent, end_of, Walked, record_at, new_at}

-- ---- `RecordMap::absent`

pub one_absent : (a b : RecordMap) → a ≡ absent → b ≡ absent → a ≡ b
one_absent a b p q = p ∙ sym q

-- ---- `check_record`

pub one_check_record : (profile : ℕ) (part : List ℕ) (at : ℕ) (a b : Result RecordMap Refusal)
    → Walked a (record_at profile at part) → Walked b (record_at profile at part) → a ≡ b
one_check_record profile part at a b p q = one_told a b (p ∙ sym q)

-- ---- `check_new`

pub one_check_new : (profile : ℕ) (set : ItemSet) (items : List ℕ) (a b : Result ℕ Refusal)
    → end_of a ≡ new_at profile set.bits items → end_of b ≡ new_at profile set.bits items → a ≡ b
one_check_new profile set items a b p q = one_told a b (p ∙ sym q)
