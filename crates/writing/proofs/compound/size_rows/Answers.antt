-- `writing::compound::size_rows` meets its contract. The loop's invariant: the primary octets and the octets so far, with those that are left, are those of
-- the item (`Adding`). The measure is how many primary octets are left. Assumes nothing.
use Prim.Native.Nat.{◌*◌, ◌+◌}
use mathlib.Core.Path.{◌≡◌, ◌∙◌}
use native.Mathlib.Omega.{arith}
use Rattle.rules.specs.Answer.{ok}
use Rattle.writing.specs.Compound.{row_size}
use Rattle.writing.proofs.BitTurns.{sub_many}
use Rattle.rules.proofs.ToldLaws.{refused_as, handed}
use Rattle.writing.proofs.PrimaryTurns.{compound_order, adding, adding_in, rows_few, add_no, add_short, add_next, add_more, add_none, add_all}
use Rattle.writing.proofs.compound.size_rows.Goals as goal
use Rattle.writing.proofs.compound.size_rows.Goals.{In_ok-x}

-- a primary octet was sized
sized_at : (c : In_ok-x)
    → ok c.in_ok-x.x
    ≡ row_size (7 * (c.row-l.result.first + c.loop-row.row)) c.args.values.now c.loop-row.at
sized_at c = c.in_ok-x.ensures

pub overflow_sub-rows : goal.overflow_sub-rows
overflow_sub-rows c = compound_order _ c.row-l.ensures c.requires

pub loop-row-init : goal.loop-row-init
loop-row-init c = adding _ _ c.row-l.ensures

pub overflow_add-first : goal.overflow_add-first
overflow_add-first c = omega (arith, adding_in _ _ _ _ _ _ _ _ c.loop-row.invariant c.requires c.loop-row-test.true, sub_many)

pub overflow_mul-first : goal.overflow_mul-first
overflow_mul-first c = omega (arith, adding_in _ _ _ _ _ _ _ _ c.loop-row.invariant c.requires c.loop-row-test.true, sub_many)

pub size_row-requires : goal.size_row-requires
size_row-requires c = adding_in _ _ _ _ _ _ _ _ c.loop-row.invariant c.requires c.loop-row-test.true

-- no values of a subfield
pub returns-in_err-x : goal.returns-in_err-x
returns-in_err-x c = handed _ _ c.from_residual.ensures.1 ∙ add_no _ _ _ _ _ _ _ _ c.loop-row.invariant c.loop-row-test.true c.in_err-x.ensures

pub overflow_add-row : goal.overflow_add-row
overflow_add-row c = omega (arith, adding_in _ _ _ _ _ _ _ _ c.loop-row.invariant c.requires c.loop-row-test.true, sub_many)

pub overflow_add-size : goal.overflow_add-size
overflow_add-size c =
    omega (arith, add_short _ _ _ _ _ _ _ _ c.loop-row.invariant c.loop-row-test.true (sized_at (goal.at.overflow_add-size c).In_ok-x), adding_in _ _ _ _ _ _ _ _ c.loop-row.invariant c.requires c.loop-row-test.true, sub_many)

pub loop-row-preserved : goal.loop-row-preserved
loop-row-preserved c = add_next _ _ _ _ _ _ _ _ c.loop-row.invariant c.loop-row-test.true (sized_at (goal.at.loop-row-preserved c).In_ok-x) c.rows_to-count.ensures

-- a number is left
pub returns-then-at-values : goal.returns-then-at-values
returns-then-at-values c = refused_as _ _ _ c.at.ensures.is c.at.ensures.place ∙ add_more _ _ _ _ _ _ _ _ c.loop-row.invariant c.loop-row-test.false c.if-at-values.true

-- no subfield is there
pub returns-then-count-eq0 : goal.returns-then-count-eq0
returns-then-count-eq0 c = refused_as _ _ _ c.at-then-count-eq0.ensures.is c.at-then-count-eq0.ensures.place ∙ add_none _ _ _ _ _ _ _ _ c.loop-row.invariant c.loop-row-test.false c.if-at-values.false c.if-count-eq0.true

pub overflow_add-result : goal.overflow_add-result
overflow_add-result c = omega (arith, c.loop-row.invariant.kept, c.loop-row.invariant.short, c.loop-row.invariant.few, rows_few _ _ _ _ _ _ _ _ c.loop-row.invariant c.requires)

pub returns : goal.returns
returns c = add_all _ _ _ _ _ _ _ _ c.loop-row.invariant c.loop-row-test.false c.if-at-values.false c.if-count-eq0.false
