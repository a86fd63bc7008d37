-- `asterix_merge_step` meets its contract: in each case of what `merge_at` answers the struct is that of the rule's step. Assumes nothing.
use mathlib.Core.Path.{◌≡◌, ap, ◌∙◌}
use mir.Syntax.{w64}
use mir.ValLaws.{to_z-of_z}
use Rattle.std.specs.Prelude.{Ok, Err}
use Rattle.rules.specs.Catalogue.{categories}
use Rattle.rules.specs.Merge.{merge_step}
use Rattle.merging.specs.Step.{merged_of}
use Rattle.asterix.proofs.MergeLaws.{log_digit, stepped}
use Rattle.asterix.proofs.asterix_merge_step.Goals as goal
use Rattle.asterix.proofs.asterix_merge_step.Goals.{After-merge_at}

-- what the code has is what the rule has; the offset that is handed on is the one that was handed over
ruled : (c : After-merge_at)
    → merged_of c.args.place_a c.args.place_b c.merge_at.result ≡ merge_step categories c.args.log_a.now c.args.log_b.now c.args.place_a c.args.place_b c.args.offset
ruled c = c.merge_at.ensures ∙ ap (merge_step categories c.args.log_a.now c.args.log_b.now c.args.place_a c.args.place_b) (to_z-of_z w64 c.args.offset c.ranges.offset)

pub returns-in-Ok-Some : goal.returns-in-Ok-Some
returns-in-Ok-Some c =
    rw (c.number.ensures, log_digit c.in-Ok-Some.merged.log)
    (stepped _ _ _ (ruled (goal.at.returns-in-Ok-Some c).After-merge_at) (c.in-Ok-Some.is ∙ ap Ok c.in-Ok-Some.field-0-is))

pub returns-in-Ok-None : goal.returns-in-Ok-None
returns-in-Ok-None c = c.unmerged.ensures ∙ stepped _ _ _ (ruled (goal.at.returns-in-Ok-None c).After-merge_at) (c.in-Ok-None.is ∙ ap Ok c.in-Ok-None.field-0-is)

pub returns-in-Err-OfLog : goal.returns-in-Err-OfLog
returns-in-Err-OfLog c =
    rw (c.unmerged-in-Err-OfLog.ensures, c.number-in-Err-OfLog.ensures, c.number-in-Err-OfLog-2.ensures, log_digit c.in-Err-OfLog.log)
    (stepped _ _ _ (ruled (goal.at.returns-in-Err-OfLog c).After-merge_at) (c.in-Err-OfLog.is ∙ ap Err c.in-Err-OfLog.field-0-is))

pub returns-in-Err-Asked : goal.returns-in-Err-Asked
returns-in-Err-Asked c =
    rw (c.unmerged-in-Err-Asked.ensures, c.number-in-Err-Asked.ensures)
    (stepped _ _ _ (ruled (goal.at.returns-in-Err-Asked c).After-merge_at) (c.in-Err-Asked.is ∙ ap Err c.in-Err-Asked.field-0-is))
