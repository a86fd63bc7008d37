-- `items::check_single` meets its contract. Assumes nothing.
use mathlib.Core.Path.{◌∙◌}
use lib.Dec.{lit≤}
use Rattle.rules.proofs.ToldLaws.{refused_as}
use Rattle.items.proofs.CheckLaws.{single_cut, single_legal, single_barred, single_walk}
use Rattle.items.proofs.check_single.Goals as goal

pub returns-then-part-size : goal.returns-then-part-size
returns-then-part-size c = refused_as _ _ _ c.at.ensures.is c.at.ensures.place ∙ single_cut _ _ c.size_at-size.ensures c.if-part-size.true

pub returns-then-first_legal : goal.returns-then-first_legal
returns-then-first_legal c = single_legal _ _ c.size_at-size.ensures c.if-part-size.false c.first_legal.ensures c.if-first_legal.true

pub fault_at-requires : goal.fault_at-requires
fault_at-requires c =
    let w = single_walk _ _ c.size_at-size.ensures c.if-part-size.false c.first_legal.ensures c.requires.1 c.requires.0 in
    (lit≤ tt, w.0, w.1)

pub returns : goal.returns
returns c = refused_as _ _ _ c.at-2.ensures.is c.at-2.ensures.place ∙ single_barred _ _ c.size_at-size.ensures c.if-part-size.false c.first_legal.ensures c.if-first_legal.false c.fault_at.ensures
