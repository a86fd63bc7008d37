-- `RecordingState::finish` meets its contract. Assumes nothing.
use mathlib.Core.Path.{refl, sym, ap, ◌∙◌}
use Rattle.rules.proofs.AnswerLaws.{bind_in, bind_out}
use Rattle.blocks.proofs.ExitLaws.{told_as-exit}
use Rattle.recordings.specs.Feed.{finished}
use Rattle.recordings.specs.Answers.{so_far_of}
use Rattle.recordings.proofs.RecordingState.finish.Goals as goal

pub returns-in_err-known : goal.returns-in_err-known
unfolding finished
returns-in_err-known c = told_as-exit _ _ _ c.from_residual.ensures.1 ∙ sym (bind_out _ (ap so_far_of c.in_err-known.was))

pub returns : goal.returns
unfolding finished
returns c = sym (bind_in _ (ap so_far_of c.in_ok-known.was) refl)
