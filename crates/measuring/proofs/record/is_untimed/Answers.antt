-- `record::is_untimed` meets its contract: the table of profiles has the untimed message type, and a profile that has one has a message type item.
-- Assumes nothing.
use Prim.Native.Nat.{◌≤◌}
use mathlib.Core.Path.{◌≡◌, ap}
use native.Mathlib.Omega.{arith}
use Rattle.tables.specs.Profiles.{profile_row_at}
use Rattle.sets.specs.Steps.{type_frn}
use Rattle.measuring.proofs.CategoryLaws.{untimed_never, type_some, type_few}
use Rattle.measuring.proofs.EndLaws.{early_few, untimed_is}
use Rattle.measuring.proofs.record.is_untimed.Goals as goal
use Rattle.measuring.proofs.record.is_untimed.Goals.{After-struct_known-1, Else-untimed_type-eq0}

-- what the table has of the profile
row : (c : After-struct_known-1) → c.profile_row-untimed_type.result.untimed ≡ (profile_row_at c.args.profile).untimed
row c = ap (λ r. r.untimed) c.profile_row-untimed_type.ensures

pub returns-then-untimed_type-eq0 : goal.returns-then-untimed_type-eq0
returns-then-untimed_type-eq0 c = untimed_never c.args.profile (row (goal.at.returns-then-untimed_type-eq0 c).After-struct_known-1) _ c.if-untimed_type-eq0.true

frn_some : (c : Else-untimed_type-eq0) → 1 ≤ type_frn c.args.profile
frn_some c = type_some c.args.profile ((let it : c.profile_row-untimed_type.result.untimed ≡ (profile_row_at c.args.profile).untimed = ap (λ r. r.untimed) c.profile_row-untimed_type.ensures in it)) c.if-untimed_type-eq0.false

pub before-requires : goal.before-requires
before-requires c = (omega (arith, frn_some (goal.at.before-requires c).Else-untimed_type-eq0, c.type_frn.ensures), omega (arith, type_few c.args.profile, c.type_frn.ensures))

pub items_from-place-requires : goal.items_from-place-requires
items_from-place-requires c = (omega (arith, early_few _ _ c.before-2.ensures, c.requires.0), omega (arith, c.requires.1))

pub returns : goal.returns
returns c = untimed_is _ _ _ _ c.type_frn.result (row (goal.at.returns c).After-struct_known-1) c.type_frn.ensures c.before-2.ensures c.items_from-place.ensures c.octet_at.ensures.0
