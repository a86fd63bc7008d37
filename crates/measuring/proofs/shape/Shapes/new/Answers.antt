-- `measuring::shape::Shapes::new` meets its contract and its table the invariant: no shape says what the profiles do not have. Assumes nothing.
use mathlib.Core.Path.{refl}
use Rattle.rules.specs.Answer.{need◌or◌then◌, when◌then◌else◌}
use Rattle.rules.specs.Presence.{number, flags}
use Rattle.rules.specs.Catalogue.{categories}
use Rattle.sets.specs.Sets.{category_at, bits_of}
use Rattle.sets.specs.Steps.{usable_bits, ended, set_from, type_frn}
use Rattle.tables.specs.Places.{frn_as}
use Rattle.tables.specs.Profiles.{profile_row_at}
use Rattle.tables.specs.Tables.{groups, layouts, group_at, layout_at, place_row_at}
use Rattle.quick_items.specs.Item.{octets_at}
use Rattle.measuring.specs.Shape.{sound_row, sound_shapes}
use Rattle.measuring.proofs.shape.Shapes.new.Goals as goal

pub invariant_of-result : goal.invariant_of-result
unfolding sound_shapes sound_row octets_at group_at layout_at place_row_at groups layouts set_from ended usable_bits need◌or◌then◌ when◌then◌else◌ flags number category_at categories bits_of profile_row_at frn_as type_frn
invariant_of-result c = record { sound = refl }
