-- The reading rule of a block as the code follows it: its head by octets, its records as a count. `proofs/HeadLaws` has that these are the rules'.
-- Assumes nothing.
use Rattle.std.specs.Prelude.{ℕ, ◌+◌, ◌-◌, ◌*◌, ◌≡◌, Bool, List, leb, eqb, length, take, drop, get_or}
use Rattle.rules.specs.Answer.{Answer, ok, ◌>>=◌, need◌or◌then◌, expect◌or◌, later}
use Rattle.rules.specs.Record.{Category, Record, read_record}
use Rattle.rules.specs.Block.{Head, category_of, read_all, read_block}
use Rattle.rules.specs.Catalogue.{categories}

-- LEN: the second and the third octet, the higher first
abbrev pub len_at : List ℕ → ℕ
len_at bs = get_or bs 1 0 * 256 + get_or bs 2 0

-- the head of a block, before LEN is held to the octets lent: 1, 2, 3
unfoldable pub head_at : List ℕ → Answer Head
head_at bs = need leb 3 (length bs) or 1 then do
  c ← expect category_of (get_or bs 0 0) categories or 2
  need leb 3 (len_at bs) or 3 then ok (record { category = c; len = len_at bs })

-- and then LEN held to them: 3 again
unfoldable pub head_by : (ℕ → ℕ → Bool) → List ℕ → Answer Head
head_by fits bs = do
  h ← head_at bs
  need fits h.len (length bs) or 3 then ok h

-- how many records of a category fill octets that start at a place, after so many others
unfoldable pub count_from : Category → ℕ → ℕ → List ℕ → Answer ℕ
count_from c n k bs = do
  rs ← later k (read_all (read_record c) bs)
  ok (n + length rs)

-- octets that are records, end to end
pub record Records (c : Category) (bs : List ℕ) : Type 0 where
  pub values : List Record
  pub reads : read_all (read_record c) bs ≡ ok values

-- a single block: its category, and its count of records
pub record Opening : Type 0 where
  pub category : Category
  pub count : ℕ

abbrev pub opening : Category → ℕ → Opening
opening c n = record { category = c; count = n }

-- with LEN of a least length: 1, 2, 3, 4, then record by record
unfoldable pub open_from : ℕ → List ℕ → Answer Opening
open_from least bs = do
  h ← head_by eqb bs
  need leb least h.len or 4 then do
    n ← count_from h.category 0 3 (drop 3 bs)
    ok (opening h.category n)

-- the octets that LEN leaves to the records
abbrev pub body_at : Head → List ℕ → List ℕ
body_at h bs = take (h.len - 3) (drop 3 bs)

-- the block at the front of a recording: how many octets it takes, and its count of records
pub record Front : Type 0 where
  pub len : ℕ
  pub records : ℕ

unfoldable pub check_front : List ℕ → Answer Front
check_front bs = do
  (b, rest) ← read_block leb categories bs
  ok (record { len = length bs - length rest; records = length b.records })
