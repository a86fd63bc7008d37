-- `verdict` meets its contract: the line has room, so that it stands whole at the start. Assumes nothing.
use native.Mathlib.Omega.{arith}
use mathlib.Core.Path.{ap}
use Rattle.recordings.specs.Answers.{whole_of}
use Rattle.asterix_check.specs.Verdict.{verdict_text, counts_text, refusal_text}
use Rattle.asterix_check.proofs.VerdictLaws.{accepted_few, refused_few, said}
use borrow.Author.Rules.{rules}
use Rattle.asterix_check.proofs.verdict.Goals as goal

pub returns-in-Ok : goal.returns-in-Ok
unfolding verdict_text counts_text
returns-in-Ok c = let told = said _ _ _ _ _ (search rules) (ap whole_of c.in-Ok.is) (accepted_few _ _ (search rules) (search rules)) c.put_sentence.ensures in
    record { size = told.0; text = told.1.0; room = told.1.1 }

pub returns-in-Err : goal.returns-in-Err
unfolding verdict_text refusal_text
returns-in-Err c = let told = said _ _ _ _ _ (search rules) (ap whole_of c.in-Err.is) (refused_few _ _ (search rules) (search rules)) c.put_sentence-in-Err.ensures in
    record { size = told.0; text = told.1.0; room = told.1.1 }
