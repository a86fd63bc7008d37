-- `marks::find_mark` meets its contract. Assumes nothing.
use mathlib.Core.Path.{◌∙◌, sym}
use Rattle.marks.proofs.NumberLaws.{found_none, found_one, found_past}
use Rattle.marks.proofs.find_mark.Goals as goal
use Rattle.marks.proofs.find_mark.Goals.{else-i-lists-via-then-i-lists+else-lists_held, else-i-lists-via-else-i-lists}

pub returns-then-lists_held : goal.returns-then-lists_held
returns-then-lists_held c =
    found_one _ _ _ _ c.if-i-lists.true (sym c.lists_held.ensures ∙ c.if-lists_held.true) c.mark_at.ensures

pub returns-else-i-lists : goal.returns-else-i-lists
returns-else-i-lists c =
    elim c.else-i-lists.branch [
      | else-i-lists-via-then-i-lists+else-lists_held w ↦ found_none _ _ _ w.if-i-lists.true (sym w.lists_held.ensures ∙ w.if-lists_held.false)
      | else-i-lists-via-else-i-lists w ↦ found_past _ _ _ w.if-i-lists.false
    ]
