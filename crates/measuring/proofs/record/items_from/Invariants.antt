-- What the loop keeps.
use Rattle.sets.specs.Sets.{frns_of}
use Rattle.measuring.proofs.EndLaws.{Standing}
use Rattle.measuring.proofs.record.items_from.Given as goal

abbrev pub invariant-loop-frn : goal.invariant-loop-frn
invariant-loop-frn l = Standing l.profile l.part l.bits l.from (frns_of l.frn-iterator.left.bits) l.at
