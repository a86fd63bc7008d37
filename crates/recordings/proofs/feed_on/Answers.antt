-- `feed_on` meets its contract. Assumes nothing.
use mathlib.Core.Path.{sym, ap, ◌∙◌}
use Rattle.recordings.specs.Feed.{fed}
use Rattle.recordings.specs.Answers.{so_far_of}
use Rattle.blocks.proofs.ExitLaws.{told_as-exit}
use Rattle.rules.proofs.ToldLaws.{refused_as}
use Rattle.recordings.proofs.FeedLaws.{fed_stop, fed_on, fed_off}
use Rattle.recordings.proofs.feed_on.Goals as goal

pub returns-in_err-known : goal.returns-in_err-known
returns-in_err-known c =
    told_as-exit _ _ _ c.from_residual.ensures.1 ∙ sym (ap (λ s. fed s c.args.piece.now) (ap so_far_of c.in_err-known.was) ∙ fed_stop _ _ _)

pub returns-in-Ok : goal.returns-in-Ok
returns-in-Ok c =
    fed_on _ _ _ _ _ _ _ (ap so_far_of c.in_ok-known.was) (sym c.in-Ok.ensures) c.saturating_add.ensures c.saturating_add-in-Ok.ensures c.saturating_add-in-Ok-2.ensures

pub returns-in-Err : goal.returns-in-Err
returns-in-Err c =
    refused_as _ _ _ c.at.ensures.is c.at.ensures.place ∙ fed_off _ _ _ _ _ _ (ap so_far_of c.in_ok-known.was) (sym c.in-Err.ensures) c.saturating_add-in-Err.ensures
