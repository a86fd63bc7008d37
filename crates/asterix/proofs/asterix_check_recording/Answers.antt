-- `asterix_check_recording` meets its contract: in each case of `check_recording`'s answer the struct is that of the rules' answer. Assumes nothing.
use Rattle.asterix.specs.Answers.{recording_checked}
use Rattle.asterix.proofs.StructLaws.{recording_checked_lem}
use Rattle.asterix.proofs.asterix_check_recording.Goals as goal

pub returns-in-Ok : goal.returns-in-Ok
unfolding recording_checked
returns-in-Ok c = recording_checked_lem _ c.check_recording.ensures c.in-Ok.is

pub returns-in-Err : goal.returns-in-Err
unfolding recording_checked
returns-in-Err c = rw c.number.ensures (recording_checked_lem _ c.check_recording.ensures c.in-Err.is)
