-- `heads::stood` meets its contract: by whether a size was measured. Assumes nothing.
use mathlib.Core.Path.{ap₂, ◌∙◌}
use Rattle.merging.proofs.HeadLaws.{by_none, by_some}
use Rattle.merging.proofs.heads.stood.Goals as goal

pub returns-then-measured-eq0 : goal.returns-then-measured-eq0
returns-then-measured-eq0 c = c.ended.ensures ∙ by_none _ _ _ c.if-measured-eq0.true

pub returns : goal.returns
returns c = ap₂ (λ f t. record { at = c.args.at; size = c.args.measured.size; timed = f; time = t }) c.is_some.ensures c.unwrap_or.ensures ∙ by_some _ _ _ c.if-measured-eq0.false
