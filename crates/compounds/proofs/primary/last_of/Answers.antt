-- `compounds::primary::last_of` meets its contract: each `return` is a case of `last_of`. Assumes nothing.
use Rattle.compounds.proofs.PrimaryLaws.{last_empty, last_unknown, last_whole}
use mathlib.Core.Bool.{not}
use mathlib.Core.Path.{ap}
use Rattle.compounds.proofs.primary.last_of.Goals as goal

pub returns-then-x-eq0 : goal.returns-then-x-eq0
returns-then-x-eq0 c = last_empty _ _ _ c.if-x-eq0.true

pub returns-then-not-is_known : goal.returns-then-not-is_known
returns-then-not-is_known c = last_unknown _ _ _ c.is_known.ensures c.if-x-eq0.false (ap not c.if-not-is_known.true)

pub returns : goal.returns
returns c = last_whole _ _ _ c.is_known.ensures c.if-x-eq0.false (ap not c.if-not-is_known.false) c.raised.ensures
