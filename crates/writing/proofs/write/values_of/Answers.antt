-- `writing::write::values_of` meets its contract, by the kind of the layout. Assumes nothing.
use mathlib.Core.Path.{sym, ◌∙◌}
use Rattle.tables.specs.declared.tables.Kind.TheVariants.{Extended}
use Rattle.tables.proofs.KindLaws.{kind_true}
use Rattle.writing.proofs.TableLaws.{kind_not}
use Rattle.writing.proofs.PlainLaws.{front_parts, front_whole}
use Rattle.writing.proofs.write.values_of.Goals as goal

-- an extended item
pub returns-then-is_chained : goal.returns-then-is_chained
returns-then-is_chained c = front_parts _ c.row-l.ensures (kind_true _ Extended (sym c.is_chained.ensures ∙ c.if-is_chained.true)) _ c.front_of.ensures

-- any other
pub returns : goal.returns
returns c = front_whole _ c.row-l.ensures (kind_not _ Extended (sym c.is_chained.ensures ∙ c.if-is_chained.false)) _
