-- What ties a table of sums to the rules: one test of all its numbers, which the checker computes. Assumes nothing.
use Rattle.std.specs.Prelude.{ℕ, ◌≡◌, Bool, true, ◌&&◌, List, [], length, leb, eqb, get_or}
use Rattle.rules.specs.Catalogue.{categories}
use Rattle.rules.specs.Entry.{profile_at, least_length}
use Rattle.tables.specs.Tests.{all_below}

-- of a category's table, a row to an octet
abbrev pub sum_at : List (List ℕ) → ℕ → ℕ → ℕ
sum_at sums place value = get_or (get_or sums place []) value 0

-- each of the profile's octets has a row, and each value of an octet its sum
unfoldable pub tested : ℕ → List (List ℕ) → Bool
tested profile sums =
    leb (length (profile_at categories profile)) (length sums)
    && all_below (length sums) (λ place. all_below 256 (λ value. eqb (sum_at sums place value) (least_length categories profile place value)))

-- a record, so that a proof that has passed the test need not write the table again
pub record Exact (profile : ℕ) (sums : List (List ℕ)) : Type 0 where
  pub passed : tested profile sums ≡ true
