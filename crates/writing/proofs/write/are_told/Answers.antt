-- `writing::write::are_told` meets its contract, by the kind of the layout. Assumes nothing.
use native.Mathlib.Omega.{arith}
use mathlib.Core.Path.{sym, ◌∙◌}
use Rattle.tables.specs.declared.tables.Kind.TheVariants.{Extended}
use Rattle.tables.proofs.KindLaws.{kind_true}
use Rattle.writing.proofs.TableLaws.{kind_not}
use Rattle.writing.proofs.PlainLaws.{most_is, told_parts, told_whole}
use Rattle.writing.proofs.write.are_told.Goals as goal

pub overflow_sub-result : goal.overflow_sub-result
overflow_sub-result c = omega (arith, most_is _ c.row-l.ensures, c.requires)

-- an extended item
pub returns-then-is_chained : goal.returns-then-is_chained
returns-then-is_chained c = told_parts _ c.row-l.ensures (kind_true _ Extended (sym c.is_chained.ensures ∙ c.if-is_chained.true)) _ _

-- any other
pub returns : goal.returns
returns c = told_whole _ c.row-l.ensures (kind_not _ Extended (sym c.is_chained.ensures ∙ c.if-is_chained.false)) _ _
