-- What the loop keeps.
use Rattle.sets.specs.Sets.{frns_of}
use Rattle.records.proofs.WalkLaws.{Standing}
use Rattle.records.proofs.walk_items.Given as goal

abbrev pub invariant-loop-frn : goal.invariant-loop-frn
invariant-loop-frn l = Standing l.profile l.fn.set.bits l.part l.fn.map.end (frns_of l.frn-iterator.left.bits) l.rest l.map.end l.map.count l.map.starts l.kind
