-- `record::octet_at` meets its contract: past the end an octet counts as 0. Assumes nothing.
use mathlib.Core.Path.{sym}
use native.Mathlib.Omega.{arith}
use lib.ListN.{get_or-eq_default}
use Rattle.measuring.proofs.record.octet_at.Goals as goal

pub returns-then-part-at : goal.returns-then-part-at
returns-then-part-at c = (sym (get_or-eq_default c.args.part.now 0 c.if-part-at.true), omega arith)
