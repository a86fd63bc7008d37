-- The proof of the cycle of calls {primary_of}: the printed octets left fall. Assumes nothing.
use Prim.Native.Nat.{ℕ, ◌+◌, ◌-◌, ◌<◌, ◌≤◌}
use mathlib.Core.Path.{◌≡◌, sym, ap, ◌∙◌}
use lib.ListN.{get_or}
use native.Mathlib.Omega.{arith}
use Rattle.std.proofs.lemmas.Result.{err_from_is_err_and}
use Rattle.tables.specs.Tables.{primary_count}
use Rattle.layouts.proofs.OctetLaws.{octets_known}
use Rattle.compounds.specs.Compound.{before_of, primary}
use Rattle.compounds.proofs.PrimaryLaws.{primaries_few, small_said, before_refused, primary_small, primary_past, primary_cut, primary_last, primary_more}
use Rattle.rules.proofs.AnswerLaws.{to_end, octets_to_end}
use Rattle.compounds.proofs.primary.+primary_of.Goals as goal

-- where one is left its row is in the table
row_in : {row left : ℕ} → (left ≡ 0 → ⊥) → row + left ≤ primary_count → row < primary_count
row_in h k = omega (arith, h)

pub returns-then-left-eq0 : goal.returns-then-left-eq0
returns-then-left-eq0 t c = primary_past _ _ _ c.if-left-eq0.true

pub returns-then-s-eq0 : goal.returns-then-s-eq0
returns-then-s-eq0 t c = primary_cut _ _ _ c.if-left-eq0.false c.if-s-eq0.true

pub returns-then-x-eq0 : goal.returns-then-x-eq0
returns-then-x-eq0 t c = primary_last _ _ _ c.if-left-eq0.false c.if-s-eq0.false c.if-x-eq0.true c.last_of.ensures

pub overflow_add-row : goal.overflow_add-row
overflow_add-row t c = record { fits = omega (arith, primaries_few, row_in c.if-left-eq0.false c.requires.0) }

pub returns-in_err-after : goal.returns-in_err-after
returns-in_err-after t c =
    let p = err_from_is_err_and c.from_residual.result c.from_residual.ensures.1 in
    rw p.1
    (rw p.2
    (primary_more _ _ _ c.if-left-eq0.false c.if-s-eq0.false c.if-x-eq0.false
    (before_refused _ _ _ _ _ (sym (c.in_err-after.ensures ∙ ap (primary (c.args.row + 1) (c.args.left - 1)) (to_end c.args.s.now 1))))))

pub before-requires : goal.before-requires
before-requires t c = (
  row_in c.if-left-eq0.false c.requires.0,
  omega (arith, c.requires.1),
  small_said _ _ _ (primary_small _ _ _ (octets_to_end c.args.s.now 1 (octets_known c.args.s.now (λ i. omega (arith, c.type_inv.s i))))) (sym c.in_ok-after.ensures),
)

pub returns : goal.returns
returns t c =
    primary_more _ _ _ c.if-left-eq0.false c.if-s-eq0.false c.if-x-eq0.false
    (c.before-2.ensures ∙ ap (before_of c.args.row (c.args.left - 1) (get_or c.args.s.now 0 0)) (c.in_ok-after.ensures ∙ ap (primary (c.args.row + 1) (c.args.left - 1)) (to_end c.args.s.now 1)))
