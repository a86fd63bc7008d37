-- `quick_records::record::is_content` meets its contract: the table's row is the rules' row. Assumes nothing.
use mathlib.Core.Path.{sym, ap, ap₂, ◌∙◌}
use mathlib.Core.Bool.{not}
use Rattle.rules.specs.Answer.{ok}
use Rattle.quick_records.proofs.RecordLaws.{content}
use Rattle.quick_records.proofs.record.is_content.Goals as goal

pub returns : goal.returns
returns c =
    content _ _ _ _ _ c.requires.1 c.requires.2 (c.row_of-row.ensures.is c.if-row-eq0.false ∙ ap₂ (λ x y. ok (x, y)) (sym c.asked-sets.ensures.0) (sym c.asked-sets.ensures.1))
    c.is_within.ensures (ap not c.if-not-is_within.false) c.is_within-2.ensures
