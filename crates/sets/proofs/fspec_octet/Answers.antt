-- `sets::fspec_octet` meets its contract: seven bits of the set, and FX in each octet but the last. Assumes nothing.
use Prim.Native.Nat.{◌≤◌}
use native.Mathlib.Omega.{arith}
use borrow.Author.Rules.{rules}
use Rattle.sets.proofs.FspecLaws.{octet_few, octet_before, octet_at_end}
use Rattle.sets.proofs.fspec_octet.Goals as goal
use Rattle.sets.proofs.fspec_octet.Goals.{Else-count-place}

-- an FSPEC has few octets
few : (c : Else-count-place) → c.args.place ≤ 8
few c = octet_few _ _ _ (search rules) c.fspec_octets-count.ensures c.if-count-place.false

pub overflow_mul-row : goal.overflow_mul-row
overflow_mul-row c = omega (arith, few (goal.at.overflow_mul-row c).Else-count-place)

pub overflow_sub-row : goal.overflow_sub-row
overflow_sub-row c = omega (arith, few (goal.at.overflow_sub-row c).Else-count-place)

pub returns-then-place-count : goal.returns-then-place-count
returns-then-place-count c = octet_before _ _ _ (search rules) c.fspec_octets-count.ensures c.if-count-place.false c.if-place-count.true

pub returns-else-place-count : goal.returns-else-place-count
returns-else-place-count c = octet_at_end _ _ _ (search rules) c.fspec_octets-count.ensures c.if-count-place.false c.if-place-count.false
