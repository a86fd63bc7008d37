-- `KeptState::finish` meets its contract. Assumes nothing.
use mathlib.Core.Path.{refl, sym, ap, ◌∙◌}
use Rattle.rules.proofs.AnswerLaws.{bind_in, bind_out}
use Rattle.recordings.proofs.KeptLaws.{kept_exit}
use Rattle.recordings.specs.Feed.{finished}
use Rattle.recordings.specs.Answers.{kept_so_far_of}
use Rattle.recordings.proofs.kept.KeptState.finish.Goals as goal

pub returns-in_err-known : goal.returns-in_err-known
unfolding finished
returns-in_err-known c = kept_exit _ _ _ c.from_residual.ensures.1 ∙ sym (bind_out _ (ap kept_so_far_of c.in_err-known.was))

pub returns : goal.returns
unfolding finished
returns c = sym (bind_in _ (ap kept_so_far_of c.in_ok-known.was) refl)
