-- A recording that is fed piece by piece, each piece one block or more, the last perhaps cut: what is known so far, and what the whole is in the end.
-- `proofs/FeedLaws` has that this is what the rules answer of all the pieces end to end. Assumes nothing.
--
-- Numbers are held in 64 bits: a recording of 2 ^ 64 octets or more is out of reach, and its counts stay at the greatest number.
use Rattle.std.specs.Prelude.{ℕ, ◌+◌, ◌-◌, ◌^◌, min, max, List, leb, length}
use Rattle.rules.specs.Answer.{Answer, ok, refused, ◌>>=◌, when◌then◌else◌}
use Rattle.rules.specs.Catalogue.{categories}
use Rattle.rules.specs.Entry.{Counts, check_recording}
use Rattle.blocks.specs.Read.{len_at}

abbrev pub capped : ℕ → ℕ
capped n = min n (2 ^ 64 - 1)

-- how many octets came, and their blocks and records
pub record SoFar : Type 0 where
  pub place : ℕ
  pub blocks : ℕ
  pub records : ℕ

-- before any piece has come
abbrev pub started : Answer SoFar
started = ok (record { place = 0; blocks = 0; records = 0 })

-- what a piece that starts at a place answers
abbrev pub placed : ℕ → Answer Counts → Answer Counts
placed k (ok c) = ok c
placed k (refused n p) = refused n (capped (k + p))

unfoldable pub fed : Answer SoFar → List ℕ → Answer SoFar
fed s piece = do
  a ← s
  k ← placed a.place (check_recording categories piece)
  ok (record {
    place = capped (a.place + length piece);
    blocks = capped (a.blocks + k.blocks);
    records = capped (a.records + k.records);
  })

unfoldable pub finished : Answer SoFar → Answer Counts
finished s = do
  a ← s
  ok (record { blocks = a.blocks; records = a.records })

-- how long the piece is that a block's head starts: LEN, but the head at least
unfoldable pub block_length : List ℕ → ℕ
block_length bs = when leb 3 (length bs) then max 3 (len_at bs) else 3
