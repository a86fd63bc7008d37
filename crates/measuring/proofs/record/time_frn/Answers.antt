-- `record::time_frn` meets its contract: the table of profiles has the FRN of the time. Assumes nothing.
use mathlib.Core.Path.{sym, ap, ◌∙◌}
use Rattle.tables.proofs.ProfileLaws.{row_time}
use Rattle.measuring.specs.Measure.{frn_out}
use Rattle.measuring.proofs.EndLaws.{frn_read}
use Rattle.measuring.proofs.record.time_frn.Goals as goal

pub returns-then-frn-eq0 : goal.returns-then-frn-eq0
returns-then-frn-eq0 c = ap frn_out (sym c.if-frn-eq0.true ∙ ap (λ r. r.time) c.profile_row-frn.ensures ∙ row_time _)

pub returns : goal.returns
returns c = frn_read _ c.if-frn-eq0.false ∙ ap frn_out (ap (λ r. r.time) c.profile_row-frn.ensures ∙ row_time _)
