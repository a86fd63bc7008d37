-- The line that says what a recording is (document 01, "What the reader and writer cover"). Assumes nothing.
use Rattle.std.specs.Prelude.{ℕ, List, ◌++◌, codes}
use Rattle.rules.specs.Answer.{Answer, ok, refused}
use Rattle.rules.specs.Entry.{Counts}
use Rattle.text.specs.Number.{decimal_text}

-- two numbers in decimal, between three texts
unfoldable pub sentence : List ℕ → ℕ → List ℕ → ℕ → List ℕ → List ℕ
sentence s n t m u = (((s ++ decimal_text n) ++ t) ++ decimal_text m) ++ u

-- `accepted B blocks R records`, or `refused N at P`; and a line feed
unfoldable pub counts_text : ℕ → ℕ → List ℕ
counts_text b r = sentence (codes "accepted ") b (codes " blocks ") r (codes " records\n")

unfoldable pub refusal_text : ℕ → ℕ → List ℕ
refusal_text n p = sentence (codes "refused ") n (codes " at ") p (codes "\n")

unfoldable pub verdict_text : Answer Counts → List ℕ
verdict_text (ok c) = counts_text c.blocks c.records
verdict_text (refused n p) = refusal_text n p
