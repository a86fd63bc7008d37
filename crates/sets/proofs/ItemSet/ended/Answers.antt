-- `sets::ItemSet::ended` meets its contract: 7 where the last octet has no presence bit, then 8 where the profile lacks an FRN. Assumes nothing.
use Rattle.sets.proofs.SetLaws.{ended_empty, ended_barred, ended_whole}
use mathlib.Core.Bool.{not}
use mathlib.Core.Path.{ap}
use Rattle.sets.proofs.ItemSet.ended.Goals as goal

pub returns-then-x-eq0 : goal.returns-then-x-eq0
returns-then-x-eq0 c = ended_empty _ _ _ _ c.if-x-eq0.true

pub returns-then-not-is_within : goal.returns-then-not-is_within
returns-then-not-is_within c = ended_barred _ _ _ _ c.usable.ensures c.is_within.ensures c.if-x-eq0.false (ap not c.if-not-is_within.true)

pub returns : goal.returns
returns c = ended_whole _ _ _ _ c.usable.ensures c.is_within.ensures c.if-x-eq0.false (ap not c.if-not-is_within.false)
