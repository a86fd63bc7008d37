-- `heads::stand` meets its contract: by whether the cursor is in the log. Assumes nothing.
use mathlib.Core.Path.{sym, ◌∙◌}
use Rattle.merging.proofs.HeadLaws.{stand_out}
use Rattle.merging.proofs.heads.stand.Goals as goal

pub returns-then-not-is_in_log : goal.returns-then-not-is_in_log
returns-then-not-is_in_log c = c.ended.ensures ∙ stand_out _ _ (sym c.is_in_log.ensures ∙ c.if-not-is_in_log.true)

pub stand_in-requires : goal.stand_in-requires
stand_in-requires c = sym c.is_in_log.ensures ∙ c.if-not-is_in_log.false
