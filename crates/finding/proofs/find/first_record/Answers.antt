-- `find::first_record` meets its contract. Assumes nothing.
use mathlib.Core.Path.{sym, ap, ◌∙◌}
use Rattle.rules.specs.Answer.{ok, ◌>>=◌}
use Rattle.rules.proofs.AnswerLaws.{bind_out}
use Rattle.records.specs.Answers.{map_by}
use Rattle.rules.proofs.ToldLaws.{refused_as}
use Rattle.blocks.proofs.LoopLaws.{some_left, none_left}
use Rattle.finding.proofs.SeekLaws.{first_none, first_some}
use Rattle.finding.proofs.find.first_record.Goals as goal

pub returns-then-is_empty : goal.returns-then-is_empty
returns-then-is_empty c =
    refused_as _ _ _ c.at.ensures.is c.at.ensures.place
    ∙ sym (bind_out _ (first_none _ _ _ (none_left _ _ c.is_empty.ensures c.if-is_empty.true)))

pub returns : goal.returns
returns c = c.check_record.ensures ∙ sym (ap (λ x. x >>= λ m. ok (map_by m)) (first_some _ _ _ (some_left _ _ c.is_empty.ensures c.if-is_empty.false)))
