-- `quick_records::shape::by_shape` meets its contract. Assumes nothing.
use Prim.Native.Nat.{◌-◌, ◌*◌, ◌%◌, ◌^◌, ◌<◌}
use mathlib.Core.Path.{◌≡◌, sym, ap, ◌∙◌, subst}
use mathlib.Core.Bool.{not}
use native.Mathlib.Omega.{arith}
use lib.ListN.{length, get_or}
use Rattle.quick_records.specs.Shape.{profile_of, used_of, types_of, Listed}
use Rattle.quick_records.proofs.ShapeLaws.{listed_right, shape_known, shape_some, shape_few, shape_left, shape_long, shape_whole, shape_only}
use Rattle.quick_records.proofs.shape.by_shape.Goals as goal
use Rattle.quick_records.proofs.shape.by_shape.Goals.{Else-profile, Else-five-up, In_ok-size, After-kind, Else-not-is_listed}

pub overflow_sub-up : goal.overflow_sub-up
overflow_sub-up c = omega (arith, c.used.ensures, shape_few _ _ _ _ c.args.shape.sound)

pub overflow_shl-five : goal.overflow_shl-five
overflow_shl-five c = omega (arith, c.used.ensures, shape_some _ _ _ _ c.args.shape.sound, shape_few _ _ _ _ c.args.shape.sound)

pub overflow_shl-shape : goal.overflow_shl-shape
overflow_shl-shape c = omega (arith, c.used.ensures, shape_some _ _ _ _ c.args.shape.sound, shape_few _ _ _ _ c.args.shape.sound)

-- the profile is the shape's
same : (c : Else-profile) → profile_of c.args.shape.fspec ≡ c.args.profile
same c = sym c.profile.ensures ∙ c.if-profile.false

-- so is the FSPEC
alike : (c : Else-five-up) → c.args.five * 2 ^ (64 - 8 * used_of c.args.shape.fspec) % 2 ^ 64 ≡ c.args.shape.fspec * 2 ^ (64 - 8 * used_of c.args.shape.fspec) % 2 ^ 64
alike c = subst (λ x. c.args.five * 2 ^ (64 - 8 * x) % 2 ^ 64 ≡ c.args.shape.fspec * 2 ^ (64 - 8 * x) % 2 ^ 64) c.used.ensures c.if-five-up.false

reaches : (c : After-kind) → c.kind.result < length c.args.part.now
reaches c = omega (arith, c.kind.ensures, shape_long _ _ _ _ c.args.shape.sound _ _ c.in_ok-size.ensures, c.in_ok-size.ensures.fits)

pub bounds-part-kind : goal.bounds-part-kind
bounds-part-kind c = reaches (goal.at.bounds-part-kind c).After-kind

pub is_listed-requires : goal.is_listed-requires
is_listed-requires c = omega (arith, same (goal.at.is_listed-requires c).Else-profile, shape_known _ _ _ _ c.args.shape.sound)

listed : (c : Else-not-is_listed) → Listed c.args.profile (types_of c.args.shape.item) (get_or c.args.part.now c.kind.result 0)
listed c =
    subst (λ x. Listed c.args.profile x (get_or c.args.part.now c.kind.result 0)) c.types.ensures
    (listed_right c.is_listed.result _ _ _ c.is_listed.ensures (ap not c.if-not-is_listed.false))

pub returns-then-shape-eq0 : goal.returns-then-shape-eq0
returns-then-shape-eq0 c =
    let at = goal.at.returns-then-shape-eq0 c in
    shape_only _ _ _ _ c.args.shape.sound _ c.type_inv.part c.requires.2 _ _ _ _ (same at.Else-profile) c.requires.1 c.requires.0 (alike at.Else-five-up) c.in_ok-size.ensures
    (ap (λ x. get_or c.args.part.now x 0) c.kind.ensures) (listed at.Else-not-is_listed) c.if-shape-eq0.true

pub later_items-requires : goal.later_items-requires
later_items-requires c =
    (omega (arith, same (goal.at.later_items-requires c).Else-profile, shape_known _ _ _ _ c.args.shape.sound), shape_left _ _ _ _ c.args.shape.sound, omega (arith, c.requires.2))

pub returns : goal.returns
returns c =
    let at = goal.at.returns c in
    shape_whole _ _ _ _ c.args.shape.sound _ c.type_inv.part c.requires.2 _ _ _ _ (same at.Else-profile) c.requires.1 c.requires.0 (alike at.Else-five-up) c.in_ok-size.ensures
    (ap (λ x. get_or c.args.part.now x 0) c.kind.ensures) (listed at.Else-not-is_listed) _ c.in_ok-later.ensures
