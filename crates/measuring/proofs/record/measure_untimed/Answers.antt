-- `record::measure_untimed` meets its contract. Assumes nothing.
use mathlib.Core.Option.{none}
use mathlib.Core.Path.{sym, ◌∙◌}
use Rattle.measuring.proofs.EndLaws.{measure_past, measure_there}
use Rattle.measuring.proofs.record.measure_untimed.Goals as goal

pub returns-then-part-end : goal.returns-then-part-end
returns-then-part-end c = c.untimed.ensures ∙ measure_past _ c.args.part.now _ _ c.items_from-end.ensures c.if-part-end.true

pub returns : goal.returns
returns c = c.untimed-2.ensures ∙ measure_there _ c.args.part.now _ _ c.items_from-end.ensures none c.if-part-end.false (sym c.requires.2)
