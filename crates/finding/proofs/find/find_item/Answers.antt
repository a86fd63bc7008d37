-- `find::find_item` meets its contract: the part that `locate_item` names lies in the block. Assumes nothing.
use mathlib.Core.Path.{sym, ap, subst}
use Rattle.rules.specs.Catalogue.{categories}
use Rattle.rules.specs.Entry.{find_item}
use Rattle.finding.specs.Part.{VeryPart}
use Rattle.finding.specs.Found.{item_span, span_in}
use Rattle.blocks.proofs.LoopLaws.{octets_each}
use Rattle.finding.proofs.FindLaws.{ItemSpan, item_located, item_lost, item_inside_at}
use Rattle.finding.proofs.find.find_item.Goals as goal
use Rattle.finding.proofs.find.find_item.Goals.{In-Ok}

-- where the item lies, in the rules' words
there : (c : In-Ok) → ItemSpan (find_item categories c.args.block.now c.args.reference c.args.n) c.in-Ok.span.start c.in-Ok.span.length
there c = item_located _ _ _ c.in-Ok.ensures

pub part_of-requires : goal.part_of-requires
part_of-requires c = item_inside_at _ _ _ _ _ (octets_each c.args.block.now c.type_inv.block) (there (goal.at.part_of-requires c).In-Ok)

pub returns-in-Ok : goal.returns-in-Ok
returns-in-Ok c = subst (VeryPart c.args.block c.part_of.result) (sym (there (goal.at.returns-in-Ok c).In-Ok).span_is) c.part_of.ensures

pub returns-in-Err : goal.returns-in-Err
returns-in-Err c =
    subst (VeryPart c.args.block c.none_of.result)
    (sym (ap (λ z. span_in (item_span z)) (item_lost (find_item categories c.args.block.now c.args.reference c.args.n) _ _ c.in-Err.ensures))) c.none_of.ensures
