-- `tables::field_rules::is_obeyed` meets its contract. Assumes nothing.
use Prim.Native.Nat.{◌^◌}
use mathlib.Core.Path.{ap, ◌∙◌}
use lib.Pow.{pow_pos}
use Rattle.tables.specs.FieldRules.{rule_at}
use Rattle.tables.proofs.RuleLaws.{small, sum_fits, obeyed}
use Rattle.tables.proofs.field_rules.is_obeyed.Goals as goal

pub pow2-codes-requires : goal.pow2-codes-requires
pow2-codes-requires c = rw c.rule_row-shift.ensures (small c.args.rule c.requires).width

pub overflow_shr-code : goal.overflow_shr-code
overflow_shr-code c = rw c.rule_row-shift.ensures (small c.args.rule c.requires).shift

pub nonzero_rem-code : goal.nonzero_rem-code
nonzero_rem-code c = rw c.pow2-codes.ensures (pow_pos _)

pub overflow_add-code : goal.overflow_add-code
overflow_add-code c = rw c.rule_row-shift.ensures (record { fits = sum_fits (rule_at c.args.rule) _ (small c.args.rule c.requires) (c.pow2-codes.ensures ∙ ap (λ r. 2 ^ r.1) c.rule_row-shift.ensures) })

pub nonzero_rem-result : goal.nonzero_rem-result
nonzero_rem-result c = rw c.pow2-codes.ensures (pow_pos _)

pub returns : goal.returns
returns c = rw c.rule_row-shift.ensures (obeyed (rule_at c.args.rule) c.args.n (c.pow2-codes.ensures ∙ ap (λ r. 2 ^ r.1) c.rule_row-shift.ensures))
