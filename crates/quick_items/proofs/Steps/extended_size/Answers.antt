-- `quick_items::Steps::extended_size` meets its contract: the parts are those that the FX bits say, and each obeys its rule. Assumes nothing.
use Prim.Native.Nat.{◌+◌, ◌/◌, ◌%◌}
use mathlib.Core.Path.{◌≡◌}
use mathlib.Core.Bool.{true}
use lib.ListN.{drop}
use Rattle.quick_items.specs.Item.{first_three, asked, sound_extended}
use Rattle.tables.specs.Tables.{layout_at, place_row_at}
use Rattle.quick_items.proofs.ItemLaws.{clean, sound_at, three_on, asked_first, extended_one, extended_two}
use Rattle.quick_items.proofs.Steps.extended_size.Goals as goal
use Rattle.quick_items.proofs.Steps.extended_size.Goals.{After-word_at-w, Else-not-is_asked, Then-is_asked}

-- the word is sound
word_sound_lem : (c : After-word_at-w) → sound_extended c.args.self.now.words.now c.word_at-w.result (layout_at (place_row_at c.args.place.index).layout) ≡ true
word_sound_lem c = rw c.word_at-w.ensures c.requires.1

-- each part obeys its rule
first_asked : (c : Else-not-is_asked) → asked c.args.self.now.words.now (c.word_at-w.result / 4096 % 16) (first_three c.args.part.now) ≡ true
first_asked c = asked_first _ _ _ c.first_three.ensures.0 c.is_asked.ensures c.if-not-is_asked.false

second_asked : (c : Then-is_asked) → asked c.args.self.now.words.now ((c.word_at-w.result / 4096 + 1) % 16) (first_three (drop 1 c.args.part.now)) ≡ true
second_asked c = asked_first _ _ _ (three_on c.args.part.now c.first_three-2.ensures.0) c.is_asked-2.ensures c.if-is_asked.true

pub returns-then-part-eq0 : goal.returns-then-part-eq0
returns-then-part-eq0 c =
    let at = goal.at.returns-then-part-eq0 c in
    extended_one c.args.self.now.words.now _ _ _ (sound_at _) (clean c.args.part.now c.type_inv.part) c.requires.0 (word_sound_lem at.After-word_at-w) (first_asked at.Else-not-is_asked)
    c.if-part-eq0.true

pub returns-then-is_asked : goal.returns-then-is_asked
returns-then-is_asked c =
    let at = goal.at.returns-then-is_asked c in
    extended_two c.args.self.now.words.now _ _ _ (sound_at _) (clean c.args.part.now c.type_inv.part) c.requires.0 (word_sound_lem at.After-word_at-w) (first_asked at.Else-not-is_asked)
    c.if-part-eq0.false c.if-part-lt2.false (second_asked at.Then-is_asked) c.if-part-ne0.false
