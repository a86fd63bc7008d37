-- What the loop keeps.
use Prim.Native.Nat.{◌-◌}
use Rattle.sets.specs.Sets.{category_at}
use Rattle.finding.proofs.SeekLaws.{Seeking}
use Rattle.finding.proofs.find.seek_record.Given as goal

abbrev pub invariant-loop-passed : goal.invariant-loop-passed
invariant-loop-passed l = Seeking (category_at l.profile) l.part l.from l.n l.rest l.at (l.n - l._passed)
