-- `laying::lay_sheet` meets its contract. Assumes nothing.
use mathlib.Core.Path.{◌∙◌, ap}
use Rattle.laying.specs.Lay.{lists_size}
use Rattle.laying.proofs.LayLaws.{all_written, no_room}
use Rattle.laying.proofs.lay_sheet.Goals as goal

pub returns-then-out-size : goal.returns-then-out-size
returns-then-out-size c =
    no_room _ c.args.edition _ _ _ _ _ _ c.requires.0 (c.lists_size.ensures.0 ∙ ap (lists_size c.args.edition.split) c.count.ensures.0) c.totals_size.ensures.0 c.if-out-size.true _ c.at.ensures.is c.at.ensures.place

pub returns : goal.returns
returns c =
    all_written _ c.args.edition _ _ _ _ _ _ _ _ _ _ c.requires.0 (c.lists_size.ensures.0 ∙ ap (lists_size c.args.edition.split) c.count.ensures.0) c.totals_size.ensures.0 c.if-out-size.false c.put_start.ensures c.put_lists-p.ensures c.put_last.ensures
