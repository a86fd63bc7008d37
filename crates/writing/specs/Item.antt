-- What writing one item answers, by the row of its layout; and of a list of numbers, which of them are values of parts that are there. Assumes nothing.
use Rattle.std.specs.Prelude.{ℕ, ◌-◌, ◌<◌, ◌≤◌, ◌≡◌, Bool, true, false, cond, List, leb, eqb, ℤ, pos, length, get_or, take, drop, Result}
use Rattle.rules.specs.Answer.{Answer, ok, ◌>>=◌, need◌or◌then◌, expect◌or◌}
use Rattle.rules.specs.declared.faults.Refusal.{Refusal}
use Rattle.rules.specs.Told.{told}
use Rattle.rules.specs.FieldList.{is_absent, all_absent, write_fields}
use Rattle.tables.specs.Tables.{layout_at, layout_is}
use Rattle.writing.specs.Write.{chained_at, cut_at}

-- so many numbers stand before those at the end that say that something is absent
pub record Front (vs : List ℤ) (n : ℕ) : Type 0 where
  pub few : n ≤ length vs
  pub absent : all_absent (drop n vs) ≡ true
  pub last : 0 < n → is_absent (get_or vs (n - 1) (pos 0)) ≡ false

-- by the layout at a place: only the parts of an extended item can be absent
pub record FrontAt (i : ℕ) (vs : List ℤ) (n : ℕ) : Type 0 where
  pub few : n ≤ length vs
  pub whole : chained_at i ≡ false → n ≡ length vs
  pub front : chained_at i ≡ true → Front vs n

-- each printed part of an extended item is one of so many that are there, or one of so many that are absent
unfoldable pub told_at : ℕ → ℕ → ℕ → Bool
told_at i k t = cond (chained_at i) (eqb ((layout_at i).most - k) t) true

-- the octets of an item that is not compound, the first n numbers being its values
unfoldable pub plain_at : ℕ → List ℤ → ℕ → Answer (List ℕ)
plain_at i vs n = do
  c ← cut_at i (take n vs)
  need told_at i c.count (length vs - n) or 11 then ok c.octets

-- the item, into an output of so many octets
unfoldable pub write_at : ℕ → List ℤ → ℕ → Answer (List ℕ)
write_at i vs room = do
  l ← expect layout_is (layout_at i) or 21
  bs ← write_fields l vs
  need leb (length bs) room or 16 then ok bs

-- the answer of the entry point
abbrev pub written_as : Result ℕ Refusal → Answer ℕ
written_as = told
