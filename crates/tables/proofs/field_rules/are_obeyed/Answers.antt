-- `tables::field_rules::are_obeyed` meets its contract: what is left to ask says what all says. Assumes nothing.
use mathlib.Core.Path.{refl}
use Rattle.tables.proofs.RuleLaws.{asked_bad, asked_good, asked_none}
use Rattle.tables.proofs.field_rules.are_obeyed.Goals as goal

pub loop-i-init : goal.loop-i-init
loop-i-init c = record { same = refl }

pub returns-then-not-is_obeyed : goal.returns-then-not-is_obeyed
returns-then-not-is_obeyed c = asked_bad _ _ _ _ c.loop-i.invariant c.loop-i-test.true c.requires c.is_obeyed.ensures c.if-not-is_obeyed.true

pub loop-i-preserved : goal.loop-i-preserved
loop-i-preserved c = asked_good _ _ _ _ c.loop-i.invariant c.loop-i-test.true c.requires c.is_obeyed.ensures c.if-not-is_obeyed.false

pub returns : goal.returns
returns c = asked_none _ _ _ _ c.loop-i.invariant c.loop-i-test.false c.requires
