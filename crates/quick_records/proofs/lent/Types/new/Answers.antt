-- `quick_records::lent::Types::new` meets its contract: no entry says what the rules do not have. Assumes nothing.
use mathlib.Core.Path.{refl}
use Rattle.rules.specs.Answer.{◌>>=◌, when◌then◌else◌}
use Rattle.rules.specs.Presence.{number, flags}
use Rattle.rules.specs.Record.{message_of}
use Rattle.rules.specs.Catalogue.{categories}
use Rattle.tables.specs.Places.{frn_as}
use Rattle.tables.specs.FieldRules.{singles}
use Rattle.tables.specs.Tables.{layout_at, layouts, group_at, groups}
use Rattle.sets.specs.Sets.{category_at, bits_of}
use Rattle.sets.specs.Steps.{type_frn, row_at}
use Rattle.quick_records.specs.Record.{type_sets, has_front, front_octets, type_at, sound_types}
use Rattle.quick_records.proofs.lent.Types.new.Goals as goal

pub invariant_of-result : goal.invariant_of-result
unfolding sound_types has_front front_octets type_at type_sets type_frn frn_as row_at message_of when◌then◌else◌ ◌>>=◌ flags singles layout_at layouts group_at groups category_at categories bits_of number
invariant_of-result c = record { sound = refl }
