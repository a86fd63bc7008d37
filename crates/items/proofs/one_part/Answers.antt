-- `items::one_part` meets its contract: the number in the table says which it is. Assumes nothing.
use mathlib.Core.Path.{◌∙◌}
use Rattle.tables.proofs.TableLaws.{place_row_lem}
use Rattle.layouts.proofs.SoundLaws.{layout_sound}
use Rattle.items.proofs.CheckLaws.{single_is, single_of_lem, free_of}
use Rattle.items.proofs.one_part.Goals as goal

pub returns-then-single-ge8 : goal.returns-then-single-ge8
returns-then-single-ge8 c = single_of_lem _ _ (layout_sound _ (place_row_lem _)) (c.single_at-single.ensures ∙ single_is c.args.place) c.if-single-ge8.true

pub returns-then-single-gt0 : goal.returns-then-single-gt0
returns-then-single-gt0 c = free_of _ _ (c.single_at-single.ensures ∙ single_is c.args.place) c.if-single-gt0.true c.if-single-ge8.false
