-- `find::find_record` meets its contract: the part that `locate_record` names lies in the block. Assumes nothing.
use mathlib.Core.Path.{sym, ap, subst}
use Rattle.rules.specs.Catalogue.{categories}
use Rattle.rules.specs.Entry.{find_record}
use Rattle.finding.specs.Part.{VeryPart}
use Rattle.finding.specs.Found.{record_span, span_in}
use Rattle.blocks.proofs.LoopLaws.{octets_each}
use Rattle.finding.proofs.FindLaws.{LocatedAt, located, lost, record_inside_at}
use Rattle.finding.proofs.find.find_record.Goals as goal
use Rattle.finding.proofs.find.find_record.Goals.{In-Ok}

-- where the record lies, in the rules' words
there : (c : In-Ok) → LocatedAt (find_record categories c.args.block.now c.args.n) c.in-Ok.found
there c = located _ _ c.in-Ok.ensures

pub part_of-requires : goal.part_of-requires
part_of-requires c = record_inside_at _ _ (octets_each c.args.block.now c.type_inv.block) (there (goal.at.part_of-requires c).In-Ok)

pub returns-in-Ok : goal.returns-in-Ok
returns-in-Ok c = subst (VeryPart c.args.block c.part_of.result) (sym (there (goal.at.returns-in-Ok c).In-Ok).span_is) c.part_of.ensures

pub returns-in-Err : goal.returns-in-Err
returns-in-Err c =
    subst (VeryPart c.args.block c.none_of.result)
    (sym (ap (λ z. span_in (record_span z)) (lost (find_record categories c.args.block.now c.args.n) _ _ c.in-Err.ensures))) c.none_of.ensures
