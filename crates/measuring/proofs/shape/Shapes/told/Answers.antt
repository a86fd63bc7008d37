-- `measuring::shape::Shapes::told` meets its contract: the shape is one of the table's. Assumes nothing.
use Prim.Native.Nat.{ℕ, ◌+◌, ◌*◌, ◌≤◌, ◌<◌}
use mathlib.Core.Path.{◌≡◌, refl}
use mathlib.Core.Option.{Option}
use mathlib.Core.List.{List}
use native.Mathlib.Omega.{arith}
use Rattle.quick_records.specs.Shape.{used_of}
use Rattle.measuring.specs.declared.record.Measured.{Measured}
use Rattle.measuring.specs.Measure.{sized, measure_in}
use Rattle.measuring.specs.Shape.{untimed_of, kind_of, time_of, base_of, part_of}
use Rattle.measuring.proofs.EndLaws.{sized_at}
use Rattle.measuring.proofs.ShapeLaws.{parts_fit, time_by, time_none, time_untimed, time_clock, shape_some, shape_few, shape_told}
use Rattle.measuring.proofs.shape.Shapes.told.Goals as goal
use Rattle.measuring.proofs.shape.Shapes.told.Goals.{Else-part-size, Else-shape-profile}

-- the octets of the shape's FSPEC
some : (c : Else-shape-profile) → 0 < used_of c.long-shape.result
some c = shape_some c.args.self.now.rows.now c.args.self.now.sound _ _ _ c.slot_of-at.ensures c.long-shape.ensures refl

few : (c : Else-shape-profile) → used_of c.long-shape.result ≤ 5
few c = shape_few c.args.self.now.rows.now c.args.self.now.sound _ _ _ c.slot_of-at.ensures c.long-shape.ensures refl

pub overflow_sub-up : goal.overflow_sub-up
overflow_sub-up c = omega (arith, few (goal.at.overflow_sub-up c).Else-shape-profile)

pub overflow_shl-five : goal.overflow_shl-five
overflow_shl-five c = omega (arith, some (goal.at.overflow_shl-five c).Else-shape-profile, few (goal.at.overflow_shl-five c).Else-shape-profile)

pub overflow_shl-shape : goal.overflow_shl-shape
overflow_shl-shape c = omega (arith, some (goal.at.overflow_shl-shape c).Else-shape-profile, few (goal.at.overflow_shl-shape c).Else-shape-profile)

pub overflow_mul-size : goal.overflow_mul-size
overflow_mul-size c = record { fits = omega (arith, parts_fit c.octet.result c.long-row.result c.octet.ensures.1) }

pub overflow_add-size : goal.overflow_add-size
overflow_add-size c = record { fits = omega (arith, parts_fit c.octet.result c.long-row.result c.octet.ensures.1) }

-- a record that ends within the part
module _ (c : Else-part-size) where
  abbrev profile : ℕ
  profile = c.args.profile

  abbrev row : ℕ
  row = c.long-row.result

  abbrev octets : List ℕ
  octets = c.args.part.now

  told : (t : Option ℕ) (r : Measured) → time_by (time_of row) (kind_of row) (untimed_of row) octets ≡ t → r ≡ sized (base_of row + c.octet.result * part_of row) t
      → measure_in profile octets ≡ r
  told t r et er =
      shape_told c.args.self.now.rows.now c.args.self.now.sound _ _ _ c.slot_of-at.ensures c.long-shape.ensures c.long-row.ensures
      _ _ _ t octets r c.type_inv.part c.if-shape-profile.false c.if-part-lt5.false c.first_five-five.ensures c.if-five-up.false c.octet.ensures.0 c.if-part-size.false et er

pub returns-then-time-eq0 : goal.returns-then-time-eq0
returns-then-time-eq0 c = told (goal.at.returns-then-time-eq0 c).Else-part-size _ _ (time_none (time_of (row (goal.at.returns-then-time-eq0 c).Else-part-size)) (kind_of (row (goal.at.returns-then-time-eq0 c).Else-part-size)) (untimed_of (row (goal.at.returns-then-time-eq0 c).Else-part-size)) (octets (goal.at.returns-then-time-eq0 c).Else-part-size) c.if-time-eq0.true) c.untimed.ensures

pub returns-then-octet_at-row : goal.returns-then-octet_at-row
returns-then-octet_at-row c =
    told (goal.at.returns-then-octet_at-row c).Else-part-size _ _ (time_untimed (time_of (row (goal.at.returns-then-octet_at-row c).Else-part-size)) (kind_of (row (goal.at.returns-then-octet_at-row c).Else-part-size)) (untimed_of (row (goal.at.returns-then-octet_at-row c).Else-part-size)) (octets (goal.at.returns-then-octet_at-row c).Else-part-size) c.if-time-eq0.false c.octet_at.ensures.0 c.if-octet_at-row.true) c.untimed-then-octet_at-row.ensures

pub returns : goal.returns
returns c =
    told (goal.at.returns c).Else-part-size _ _ (time_clock (time_of (row (goal.at.returns c).Else-part-size)) (kind_of (row (goal.at.returns c).Else-part-size)) (untimed_of (row (goal.at.returns c).Else-part-size)) (octets (goal.at.returns c).Else-part-size) c.if-time-eq0.false c.octet_at.ensures.0 c.if-octet_at-row.false) (sized_at _ _ c.clock_at.ensures)
