-- The rules of a record's set as the code follows them: octet by octet, with what was found so far handed on, and a message type's row as two sets.
-- `proofs/SetLaws`, `FspecLaws` and `JudgeLaws` have that these are the rules' own. Assumes nothing.
use Rattle.std.specs.Prelude.{ℕ, zero, suc, ◌+◌, ◌-◌, ◌*◌, ◌/◌, ◌%◌, ◌^◌, Bool, false, List, [], ◌∷◌, ◌++◌, ltb, eqb, get_or}
use Rattle.std.proofs.Math.Option.{Option, none, some}
use Rattle.rules.specs.Answer.{Answer, ok, refused, ◌>>=◌, need◌or◌then◌, when◌then◌else◌}
use Rattle.rules.specs.Presence.{flags, has}
use Rattle.rules.specs.Record.{Place, places, message_of}
use Rattle.tables.specs.Profiles.{usable_in, frn_in}
use Rattle.sets.specs.Sets.{category_at, bits_of, within}

-- ---- the FSPEC

-- the FRNs that a profile has an item for
unfoldable pub usable_bits : ℕ → ℕ
usable_bits i = usable_in (category_at i)

-- a set and how many octets its FSPEC has, once the last octet x is read: 7, then 8
unfoldable pub ended : ℕ → ℕ → ℕ → ℕ → Answer (ℕ × ℕ)
ended i x bits used =
    need ltb 0 (x / 2) or 7 then
    need within (flags 64 bits) (flags 64 (usable_bits i)) or 8 then ok (bits, used)

-- octet by octet: how many may still come, what is left, the set so far, the octets so far
unfoldable pub set_from : ℕ → ℕ → List ℕ → ℕ → ℕ → Answer (ℕ × ℕ)
set_from i zero bs bits used = refused 6 0
set_from i (suc l) [] bits used = refused 5 0
set_from i (suc l) (x ∷ bs) bits used =
    when eqb (x % 2) 0
    then ended i x (bits + x / 2 * 2 ^ (56 - 7 * used)) (used + 1)
    else set_from i l bs (bits + x / 2 * 2 ^ (56 - 7 * used)) (used + 1)

-- how many octets the FSPEC of a set has: at most so many still to come, the octets so far, and the FRNs left
unfoldable pub rows_left : ℕ → ℕ → ℕ → ℕ
rows_left zero n left = n
rows_left (suc l) n left = when eqb left 0 then n else rows_left l (n + 1) (left % 2 ^ (63 - 7 * (n + 1)))

-- ---- what the message type asks for

-- the FRN of the message type item, I0nn/000
unfoldable pub type_frn : ℕ → ℕ
type_frn i = frn_in 0 (category_at i)

-- of each place of a profile, whether its item is among references
abbrev pub marks : List ℕ → List (Option Place) → List Bool
marks rs [] = []
marks rs (none ∷ ps) = false ∷ marks rs ps
marks rs (some p ∷ ps) = has p.reference rs ∷ marks rs ps

-- the FRNs of references
abbrev pub mark_bits : ℕ → List ℕ → ℕ
mark_bits i rs = bits_of (marks rs (places (category_at i)))

-- the sets of a message type: what it must have, and what it must or may have
unfoldable pub row_at : ℕ → ℕ → Answer (ℕ × ℕ)
row_at i t = do
  m ← message_of t (category_at i).messages
  ok (mark_bits i m.compulsory, mark_bits i (m.compulsory ++ m.optional))

-- 14, 15
abbrev pub judge_row : ℕ → ℕ × ℕ → Answer (Unit {0})
judge_row bits row =
    need within (flags 64 row.0) (flags 64 bits) or 14 then
    need within (flags 64 bits) (flags 64 row.1) or 15 then ok tt

-- 12, 13, 14, 15, of a set and the first octet of the message type item
unfoldable pub judge_set : ℕ → ℕ → ℕ → Answer (Unit {0})
judge_set i bits kind = need get_or (flags 64 bits) (type_frn i) false or 12 then (row_at i kind >>= judge_row bits)
