-- `record::by_items` meets its contract: the set is that of the profile. Assumes nothing.
use Prim.Native.Nat.{◌^◌, ◌≤◌, ◌<◌}
use native.Mathlib.Omega.{arith}
use lib.ListN.{length}
use mathlib.Core.Path.{sym, ◌∙◌}
use Rattle.sets.proofs.UsableLaws.{set_bounds}
use Rattle.measuring.proofs.EndLaws.{measure_no_set, measure_items}
use Rattle.measuring.proofs.record.by_items.Goals as goal
use Rattle.measuring.proofs.record.by_items.Goals.{In-Ok}

pub returns-in-Err : goal.returns-in-Err
returns-in-Err c = c.untimed.ensures ∙ measure_no_set _ _ _ c.from_octets.ensures _ c.in-Err.is

-- the set has no FRN above 63, and its octets are the record's
bounds : (c : In-Ok) → (c.in-Ok.fspec.set.bits < 2 ^ 63) × (c.in-Ok.fspec.octets ≤ length c.args.part.now)
bounds c = set_bounds _ _ _ _ (sym c.in-Ok.ensures)

pub measure_set-requires : goal.measure_set-requires
measure_set-requires c = ((bounds (goal.at.measure_set-requires c).In-Ok).0, omega (arith, (bounds (goal.at.measure_set-requires c).In-Ok).1))

pub returns-in-Ok : goal.returns-in-Ok
returns-in-Ok c = c.measure_set.ensures ∙ measure_items _ _ _ c.from_octets.ensures _ c.in-Ok.is
