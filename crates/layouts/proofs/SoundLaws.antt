-- Every row of the layouts is one that reading and writing can work with, by a computed test over the whole table. Assumes nothing.
use Prim.Native.Nat.{ℕ, zero, suc, ◌<◌}
use mathlib.Core.Path.{◌≡◌, refl}
use mathlib.Core.Bool.{true}
use native.Mathlib.Nat.{le_of_suc-le-suc}
use Rattle.rules.specs.Catalogue.{categories}
use Rattle.tables.specs.Tables.{layout_count, fields, groups, layouts, group_at, layout_rows, no_layout_row, layout_at}
use Rattle.tables.proofs.TableLaws.{each}
use Rattle.layouts.specs.Read.{rows, is_spare, holds, parts_sound, row_sound}

layout_sound_suc : (j : ℕ) → suc j < layout_count → row_sound (layout_at (suc j)) ≡ true
unfolding parts_sound holds rows row_sound is_spare layout_at group_at fields groups layouts categories
layout_sound_suc j h = each row_sound (layout_rows 0 0 layouts) no_layout_row refl j (le_of_suc-le-suc h)

pub layout_sound : (j : ℕ) → j < layout_count → row_sound (layout_at j) ≡ true
unfolding parts_sound holds row_sound layout_at
layout_sound zero h = refl
layout_sound (suc j) h = layout_sound_suc j h
