-- `asterix_add_record` meets its contract: in each case of `add_record`'s answer the struct is that of the rules' answer, and the output is as `add_record` leaves it. Assumes nothing.
use mathlib.Core.Path.{ap, ◌∙◌}
use Rattle.std.specs.Prelude.{Err}
use Rattle.asterix.proofs.StructLaws.{record_added_lem}
use Rattle.asterix.proofs.asterix_add_record.Goals as goal

pub returns-in-Ok : goal.returns-in-Ok
returns-in-Ok c = record { answer = record_added_lem _ c.add_record.ensures.result_value c.in-Ok.is; left = c.add_record.ensures.out_after }

pub returns-in-Err-Old : goal.returns-in-Err-Old
returns-in-Err-Old c =
    record { answer = rw c.number.ensures (record_added_lem _ c.add_record.ensures.result_value (c.in-Err-Old.is ∙ ap Err c.in-Err-Old.field-0-is)); left = c.add_record.ensures.out_after }

pub returns-in-Err-New : goal.returns-in-Err-New
returns-in-Err-New c =
    record { answer = rw c.number-in-Err-New.ensures (record_added_lem _ c.add_record.ensures.result_value (c.in-Err-New.is ∙ ap Err c.in-Err-New.field-0-is)); left = c.add_record.ensures.out_after }
