-- `lengths::least_length` meets its contract: a table that passes the test has each sum. Assumes nothing.
use Prim.Native.Nat.{ℕ}
use mathlib.Core.Path.{ap, ◌∙◌}
use mathlib.Core.List.{List, []}
use lib.ListN.{get_or}
use Rattle.lengths.proofs.LeastLaws.{sum_is, past_rows}
use Rattle.lengths.proofs.least_length.Goals as goal

pub returns-in-Some : goal.returns-in-Some
returns-in-Some c =
    c.octet-in-Some.ensures.0
    ∙ ap (λ (n : ℕ). get_or c.in-Some.sums.now n 0) c.octet.ensures.0
    ∙ ap (λ (row : List ℕ). get_or row c.args.octet 0) (c.in-Some.ensures.lookup.3.1 [])
    ∙ sum_is _ _ _ _ c.sums_of.ensures c.in-Some.ensures.lookup.3.0 c.ranges.octet.fits

pub returns-in-None : goal.returns-in-None
returns-in-None c = past_rows _ _ _ _ c.sums_of.ensures c.in-None.ensures.lookup.3
