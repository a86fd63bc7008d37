-- `sets::ItemSet::from_octets` meets its contract: at each turn, reading on from the set so far gives what the whole gives. Assumes nothing.
use Prim.Native.Nat.{◌+◌, ◌-◌, ◌*◌, ◌^◌, ◌≤◌}
use mathlib.Core.Path.{sym, ◌∙◌}
use native.Mathlib.Omega.{arith}
use Rattle.sets.proofs.ProfileLaws.{profile_short}
use Rattle.sets.proofs.SetLaws.{octets_all, set_begin, set_cut, set_past, set_last, set_more, set_room}
use Rattle.sets.proofs.ItemSet.from_octets.Goals as goal
use Rattle.sets.proofs.ItemSet.from_octets.Goals.{After-presence-bits}

pub loop-used-init : goal.loop-used-init
loop-used-init c = (omega (arith, profile_short c.args.profile, c.fspec_most-most.ensures), omega arith, set_begin _ _ _ c.fspec_most-most.ensures (octets_all c.args.part.now c.type_inv.part))

pub returns-then-part-used : goal.returns-then-part-used
returns-then-part-used c = sym (set_cut _ _ _ _ _ c.loop-used-test.true c.if-part-used.true) ∙ c.loop-used.invariant.2

-- the set so far with one octet more
room : (c : After-presence-bits)
    → c.loop-used.bits + c.presence-bits.result + 2 ^ (63 - 7 * (c.loop-used.used + 1)) ≤ 2 ^ 63
room c =
    set_room _ _ c.wide-x.result _ (omega (arith, c.loop-used.invariant.0)) (omega arith) c.presence-bits.ensures c.loop-used.invariant.1

pub overflow_add-bits : goal.overflow_add-bits
overflow_add-bits c = omega (arith, room (goal.at.overflow_add-bits c).After-presence-bits)

pub returns-then-x-eq0 : goal.returns-then-x-eq0
returns-then-x-eq0 c =
    c.ended.ensures
    ∙ sym (set_last _ _ _ _ _ _ _ c.loop-used-test.true c.if-part-used.false c.wide-x.ensures.0 c.presence-bits.ensures c.if-x-eq0.true)
    ∙ c.loop-used.invariant.2

pub loop-used-preserved : goal.loop-used-preserved
loop-used-preserved c = (
  c.loop-used.invariant.0,
  room (goal.at.loop-used-preserved c).After-presence-bits,
  sym (set_more _ _ _ _ _ _ _ c.loop-used-test.true c.if-part-used.false c.wide-x.ensures.0 c.presence-bits.ensures c.if-x-eq0.false)
      ∙ c.loop-used.invariant.2,
)

pub returns : goal.returns
returns c = sym (set_past _ _ _ _ _ c.loop-used-test.false) ∙ c.loop-used.invariant.2
