-- `asterix_next_record` meets its contract: in each case of what `next_record` answers the struct is that of the rule's step. Assumes nothing.
use mathlib.Core.Path.{ap, ◌∙◌}
use Rattle.std.specs.Prelude.{Ok}
use Rattle.asterix.proofs.WalkLaws.{record_met_lem}
use Rattle.asterix.proofs.asterix_next_record.Goals as goal

pub returns-in-Ok-Some : goal.returns-in-Ok-Some
returns-in-Ok-Some c = record_met_lem _ _ c.next_record.ensures (c.in-Ok-Some.is ∙ ap Ok c.in-Ok-Some.field-0-is)

pub returns-in-Ok-None : goal.returns-in-Ok-None
returns-in-Ok-None c = c.unmet.ensures ∙ record_met_lem _ _ c.next_record.ensures (c.in-Ok-None.is ∙ ap Ok c.in-Ok-None.field-0-is)

pub returns-in-Err : goal.returns-in-Err
returns-in-Err c = rw (c.unmet-in-Err.ensures, c.number.ensures) (record_met_lem _ _ c.next_record.ensures c.in-Err.is)
