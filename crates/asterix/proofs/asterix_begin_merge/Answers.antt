-- `asterix_begin_merge` meets its contract, in each case of how a run begins. Assumes nothing.
use mathlib.Core.Path.{◌≡◌, ap, ◌∙◌}
use mir.Syntax.{w64}
use mir.ValLaws.{to_z-of_z}
use Rattle.std.specs.Prelude.{Err}
use Rattle.merging.specs.Run.{begun_of, begin_of}
use Rattle.asterix.specs.Answers.{merge_begun}
use Rattle.asterix.proofs.MergeLaws.{log_digit, begun}
use Rattle.asterix.proofs.asterix_begin_merge.Goals as goal
use Rattle.asterix.proofs.asterix_begin_merge.Goals.{After-begin_merge}

-- the run that the code begins is the rule's; the offset that is handed on is the one that was handed over
ruled : (c : After-begin_merge) → begun_of c.begin_merge.result ≡ begin_of c.args.log_a.now c.args.log_b.now c.args.offset
ruled c = c.begin_merge.ensures ∙ ap (begin_of c.args.log_a.now c.args.log_b.now) (to_z-of_z w64 c.args.offset c.ranges.offset)

pub returns-in-Ok : goal.returns-in-Ok
unfolding merge_begun
returns-in-Ok c = rw c.from.ensures (begun _ (ruled (goal.at.returns-in-Ok c).After-begin_merge) c.in-Ok.is)

pub returns-in-Err-OfLog : goal.returns-in-Err-OfLog
unfolding merge_begun
returns-in-Err-OfLog c =
    rw (c.none_begun.ensures, c.number.ensures, c.number-in-Err-OfLog.ensures, log_digit c.in-Err-OfLog.log)
    (begun _ (ruled (goal.at.returns-in-Err-OfLog c).After-begin_merge) (c.in-Err-OfLog.is ∙ ap Err c.in-Err-OfLog.field-0-is))

pub returns-in-Err-Asked : goal.returns-in-Err-Asked
unfolding merge_begun
returns-in-Err-Asked c =
    rw (c.none_begun-in-Err-Asked.ensures, c.number-in-Err-Asked.ensures)
    (begun _ (ruled (goal.at.returns-in-Err-Asked c).After-begin_merge) (c.in-Err-Asked.is ∙ ap Err c.in-Err-Asked.field-0-is))
