-- `tables::field_rules::is_free` meets its contract. Assumes nothing.
use native.Mathlib.Omega.{arith}
use Rattle.tables.proofs.TableLaws.{groups_few}
use Rattle.tables.proofs.RuleLaws.{group_said}
use Rattle.tables.proofs.field_rules.is_free.Goals as goal

pub overflow_add-group : goal.overflow_add-group
overflow_add-group c = record { fits = omega (arith, groups_few) }

pub returns : goal.returns
returns c = rw (c.first_rule-2.ensures, c.first_rule.ensures) (group_said c.args.group c.requires)
