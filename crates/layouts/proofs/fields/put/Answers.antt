-- `layouts::fields::put` meets its contract. Assumes nothing.
use native.Mathlib.Omega.{arith}
use mathlib.Core.Path.{sym, ◌∙◌}
use denote.Enum.Bare.{same_true, same_false}
use Rattle.tables.specs.contracts.tables.Holds.{the_type}
use Rattle.layouts.proofs.StoreLaws.{spare_yes, spare_no, put_spare, put_value, takes_one}
use Rattle.layouts.proofs.fields.put.Goals as goal

pub returns-then-eq : goal.returns-then-eq
returns-then-eq c =
    put_spare c.args.f c.args.v c.args.out.now c.args.at (spare_yes _ (same_true the_type tt _ _ (sym c.eq.ensures ∙ c.if-eq.true)))

pub bounds-out-at : goal.bounds-out-at
bounds-out-at c =
    omega (arith, takes_one c.args.f (spare_no _ (same_false the_type _ _ (sym c.eq.ensures ∙ c.if-eq.false))), c.requires)

pub returns : goal.returns
returns c =
    put_value c.args.f c.args.v c.args.out.now c.args.at (spare_no _ (same_false the_type _ _ (sym c.eq.ensures ∙ c.if-eq.false))) c.ranges.v
