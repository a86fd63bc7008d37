-- `quick_items::Steps::new` meets its contract: each word, by two tests of the whole table. Assumes nothing.
use mathlib.Core.Path.{refl}
use Rattle.rules.specs.Answer.{when◌then◌else◌}
use Rattle.rules.specs.Catalogue.{categories}
use Rattle.tables.specs.FieldRules.{rules, first_rule}
use Rattle.quick_items.specs.Item.{down_of, added_of, up_of, limit_of, sound_rule, sound_single, sound_counted, sound_extended, sound_twice, sound_word, sound_words, sound_steps, word_octets, exact_steps}
use Rattle.tables.specs.Tables.{groups, layouts, group_at, layout_at, place_row_at}
use Rattle.quick_items.proofs.Steps.new.Goals as goal

pub invariant_of-result : goal.invariant_of-result
unfolding down_of added_of up_of limit_of sound_rule sound_single sound_counted sound_extended sound_twice sound_word sound_words sound_steps when◌then◌else◌ first_rule rules group_at layout_at place_row_at groups layouts categories
invariant_of-result c = record { sound = refl }

pub returns : goal.returns
unfolding word_octets exact_steps when◌then◌else◌ group_at layout_at place_row_at groups layouts categories
returns c = refl
