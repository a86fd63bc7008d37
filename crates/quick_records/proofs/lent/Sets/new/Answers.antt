-- `quick_records::lent::Sets::new` meets its contract: the rows are those of the rules' messages, and no shape says what the rules do not have. Assumes nothing.
use mathlib.Core.Path.{refl}
use Rattle.rules.specs.Answer.{need◌or◌then◌, when◌then◌else◌}
use Rattle.rules.specs.Presence.{number, flags}
use Rattle.rules.specs.Catalogue.{categories}
use Rattle.tables.specs.Places.{frn_as}
use Rattle.tables.specs.FieldRules.{rules, first_rule, singles}
use Rattle.tables.specs.Tables.{layout_at, layouts, group_at, groups, place_row_at}
use Rattle.sets.specs.Sets.{category_at, bits_of}
use Rattle.sets.specs.Steps.{type_frn, usable_bits, ended, set_from}
use Rattle.quick_items.specs.Item.{down_of, added_of, up_of, limit_of, sound_rule, sound_single, sound_counted}
use Rattle.quick_records.specs.Record.{type_sets, has_front, front_octets, type_at}
use Rattle.quick_records.specs.Shape.{sound_mask, sound_shape, sound_sets}
use Rattle.quick_records.proofs.lent.Sets.new.Goals as goal

pub invariant_of-result : goal.invariant_of-result
unfolding sound_sets sound_shape sound_mask has_front front_octets type_at type_frn frn_as type_sets set_from ended usable_bits need◌or◌then◌ when◌then◌else◌ flags number down_of added_of up_of limit_of sound_rule sound_single sound_counted first_rule rules singles place_row_at layout_at layouts group_at groups category_at categories bits_of
invariant_of-result c = record { sound = refl }
