-- `writing::formats::part_group` meets its contract: each part of an extended item has a group of its own, those of any other item share one. Assumes nothing.
use native.Mathlib.Omega.{arith}
use Rattle.tables.proofs.TableLaws.{groups_few}
use mathlib.Core.Path.{sym, ◌∙◌}
use Rattle.tables.specs.declared.tables.Kind.TheVariants.{Extended}
use Rattle.tables.proofs.KindLaws.{kind_true}
use Rattle.writing.proofs.TableLaws.{kind_not}
use Rattle.writing.proofs.TableLaws.{part_own, part_shared}
use Rattle.writing.proofs.formats.part_group.Goals as goal

pub overflow_add-result : goal.overflow_add-result
overflow_add-result c =
    omega (arith, groups_few, (part_own c.args.layout.place c.args.part c.row-l.ensures (kind_true _ Extended (sym c.is_chained.ensures ∙ c.if-is_chained.true)) c.requires).0)

-- its own group
pub returns-then-is_chained : goal.returns-then-is_chained
returns-then-is_chained c =
    part_own c.args.layout.place c.args.part c.row-l.ensures (kind_true _ Extended (sym c.is_chained.ensures ∙ c.if-is_chained.true)) c.requires

-- the shared group
pub returns : goal.returns
returns c =
    part_shared c.args.layout.place c.args.part c.row-l.ensures (kind_not _ Extended (sym c.is_chained.ensures ∙ c.if-is_chained.false)) c.requires
