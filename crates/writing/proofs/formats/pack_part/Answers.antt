-- `writing::formats::pack_part` meets its contract. The loop's invariant: the fields that are left, added to the number so far, make what all fields make
-- (`Packing`). The measure is how many fields are left. Assumes nothing.
use Prim.Native.Nat.{◌+◌, ◌<◌}
use mathlib.Core.Path.{sym, ◌∙◌}
use native.Mathlib.Omega.{arith}
use lib.ListN.{length}
use denote.Enum.Bare.{same_true, same_false}
use Rattle.tables.specs.contracts.tables.Holds.{the_type}
use Rattle.writing.specs.Write.{group_in}
use Rattle.rules.proofs.ToldLaws.{handed}
use Rattle.writing.proofs.PartLaws.{packing, in_place, Added, turn_spare, turn_value, turn_no, packed_all}
use Rattle.writing.proofs.formats.pack_part.Goals as goal
use Rattle.writing.proofs.formats.pack_part.Goals.{In_ok-code}

-- a value was coded
value_at : (c : In_ok-code)
    → (c.loop-i.k < length c.args.values.now)
    × Added (group_in c.args.group).fields
    c.args.values.now
    c.args.at
    c.group_at-g.result.end
    c.loop-i.i c.loop-i.n
    c.loop-i.k c.field_at-f.result.bits
    c.in_ok-code.code (c.loop-i.k + 1)
value_at c =
    turn_value _ _ _ _ _ _ _ c.loop-i.invariant
    c.loop-i-test.true c.field_at-f.ensures
    (same_false the_type _ _ (sym c.eq.ensures ∙ c.if-eq.false))
    c.in_ok-code.ensures

pub loop-i-init : goal.loop-i-init
loop-i-init c =
    packing _ _ _ c.group_at-g.ensures

pub field_at-f-requires : goal.field_at-f-requires
field_at-f-requires c =
    in_place _ _ _ _ _ _ _ c.loop-i.invariant c.loop-i-test.true

pub append_bits-n-requires : goal.append_bits-n-requires
append_bits-n-requires c =
    (turn_spare _ _ _ _ _ _ _ c.loop-i.invariant c.loop-i-test.true c.field_at-f.ensures (same_true the_type tt _ _ (sym c.eq.ensures ∙ c.if-eq.true))).fits

-- a spare field
pub loop-i-preserved-then-eq : goal.loop-i-preserved-then-eq
loop-i-preserved-then-eq c =
    (turn_spare _ _ _ _ _ _ _ c.loop-i.invariant c.loop-i-test.true
    c.field_at-f.ensures (same_true the_type tt _ _ (sym c.eq.ensures ∙ c.if-eq.true))).next c.append_bits-n.ensures

pub code_at-requires : goal.code_at-requires
code_at-requires c =
    in_place _ _ _ _ _ _ _ c.loop-i.invariant c.loop-i-test.true

-- no value, or one outside its range
pub returns-in_err-code : goal.returns-in_err-code
returns-in_err-code c =
    handed _ _ c.from_residual.ensures.1
    ∙ turn_no _ _ _ _ _ _ _ c.loop-i.invariant c.loop-i-test.true c.field_at-f.ensures (same_false the_type _ _ (sym c.eq.ensures ∙ c.if-eq.false)) c.in_err-code.ensures

pub append_bits-n-requires-in-loop-i : goal.append_bits-n-requires-in-loop-i
append_bits-n-requires-in-loop-i c =
    (value_at (goal.at.append_bits-n-requires-in-loop-i c).In_ok-code).1.fits

pub overflow_add-k : goal.overflow_add-k
overflow_add-k c =
    omega (arith, (value_at (goal.at.overflow_add-k c).In_ok-code).0)

-- a value
pub loop-i-preserved : goal.loop-i-preserved
loop-i-preserved c =
    (value_at (goal.at.loop-i-preserved c).In_ok-code).1.next c.append_bits-n-in-loop-i.ensures

-- all fields are packed
pub returns : goal.returns
returns c =
    packed_all _ _ _ _ _ _ _ c.loop-i.invariant c.loop-i-test.false
