-- `heads::Standing::is_head` meets its contract: it stands in the log, and has an octet that its block has. Assumes nothing.
use mathlib.Core.Path.{sym, ◌∙◌}
use Rattle.merging.proofs.HeadLaws.{in_log_lem, head_out, head_empty, head_sized}
use Rattle.merging.proofs.heads.Standing.is_head.Goals as goal

pub returns-then-not-is_in_log : goal.returns-then-not-is_in_log
returns-then-not-is_in_log c = head_out _ _ (sym c.is_in_log.ensures ∙ c.if-not-is_in_log.true)

pub returns-then-self-eq0 : goal.returns-then-self-eq0
returns-then-self-eq0 c = head_empty _ _ (sym c.is_in_log.ensures ∙ c.if-not-is_in_log.false) c.if-self-eq0.true

pub overflow_sub-result : goal.overflow_sub-result
overflow_sub-result c = (in_log_lem _ _ (sym c.is_in_log.ensures ∙ c.if-not-is_in_log.false)).within

pub returns : goal.returns
returns c = head_sized _ _ (sym c.is_in_log.ensures ∙ c.if-not-is_in_log.false) c.if-self-eq0.false
