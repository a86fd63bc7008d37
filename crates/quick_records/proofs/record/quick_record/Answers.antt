-- `quick_records::record::quick_record` meets its contract: the set, the message type and the items were told. Assumes nothing.
use Prim.Native.Nat.{◌+◌, ◌^◌, ◌≤◌, ◌<◌}
use mathlib.Core.Path.{◌≡◌, refl, sym, ap}
use mathlib.Core.Bool.{not}
use native.Mathlib.Omega.{arith}
use lib.ListN.{length}
use Rattle.rules.specs.Answer.{ok}
use Rattle.quick_records.specs.Record.{end_at}
use Rattle.sets.proofs.UsableLaws.{set_bounds}
use Rattle.quick_records.proofs.RecordLaws.{type_within, right, quick_whole, end_within}
use Rattle.quick_records.proofs.record.quick_record.Goals as goal
use Rattle.quick_records.proofs.record.quick_record.Goals.{In-Ok, In_ok-n}

bounds : (c : In-Ok) → (c.in-Ok.fspec.set.bits < 2 ^ 63) × (c.in-Ok.fspec.octets ≤ length c.args.part.now)
bounds c = set_bounds _ _ _ _ (sym c.in-Ok.ensures)

pub slice_bounds-items-count : goal.slice_bounds-items-count
slice_bounds-items-count c = (bounds (goal.at.slice_bounds-items-count c).In-Ok).1

pub slice_bounds-items-start : goal.slice_bounds-items-start
slice_bounds-items-start c = (bounds (goal.at.slice_bounds-items-start c).In-Ok).1

pub bounds-items-first : goal.bounds-items-first
bounds-items-first c =
    let first = c.in_ok-first.ensures in
    omega (arith, first.3, first.2, type_within _ first.1, c.if-items-first.false)

whole : (c : In_ok-n) → end_at c.args.profile 0 c.args.part.now ≡ ok (c.in-Ok.fspec.octets + c.in_ok-n.n)
whole c =
    quick_whole _ _ c.type_inv.part c.requires _ _ _ c.from_octets.ensures c.in-Ok.is
    _ _ refl c.in_ok-first.ensures.3 (right c.is_content.result _ c.is_content.ensures (ap not c.if-not-is_content.false)) c.in_ok-n.ensures

pub overflow_add-result : goal.overflow_add-result
overflow_add-result c = record { fits = omega (arith, end_within _ _ c.type_inv.part c.requires _ (whole (goal.at.overflow_add-result c).In_ok-n), c.requires) }

pub returns : goal.returns
returns c = whole (goal.at.returns c).In_ok-n
