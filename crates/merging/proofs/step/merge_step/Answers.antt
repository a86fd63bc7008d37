-- `step::merge_step` meets its contract: the part that `merge_at` names lies in the log that it names. Assumes nothing.
use mathlib.Core.Path.{◌≡◌, refl, sym, ap, ◌∙◌}
use mir.Syntax.{w64}
use mir.ValLaws.{to_z-of_z}
use Rattle.std.specs.Prelude.{Some, Ok}
use Rattle.rules.specs.Catalogue.{categories}
use Rattle.rules.specs.Merge.{log_a, log_b, merge_step}
use Rattle.blocks.proofs.LoopLaws.{octets_each}
use Rattle.merging.specs.Run.{log_is}
use Rattle.merging.specs.Step.{merged_of}
use Rattle.merging.proofs.PartLaws.{step_inside, part_refused, part_here, part_inside}
use Rattle.merging.proofs.step.merge_step.Goals as goal
use Rattle.merging.proofs.step.merge_step.Goals.{In-Ok-Some}

-- a record comes
comes : (c : In-Ok-Some) → merged_of c.args.place_a c.args.place_b (Ok (Some c.in-Ok-Some.merged)) ≡ merge_step categories c.args.log_a.now c.args.log_b.now c.args.place_a c.args.place_b c.args.offset
comes c =
    ap (λ o. merged_of c.args.place_a c.args.place_b (Ok o)) (sym c.in-Ok-Some.field-0-is) ∙ ap (merged_of c.args.place_a c.args.place_b) (sym c.in-Ok-Some.is)
    ∙ c.merge_at.ensures ∙ ap (merge_step categories c.args.log_a.now c.args.log_b.now c.args.place_a c.args.place_b) (to_z-of_z w64 c.args.offset c.ranges.offset)

pub part_of-requires : goal.part_of-requires
part_of-requires c =
    part_inside _ _ (comes (goal.at.part_of-requires c).In-Ok-Some) log_a (ap log_is c.in-A.is) _ _
    (step_inside c.args.log_a.now c.args.log_b.now c.args.place_a c.args.place_b c.args.offset (octets_each c.args.log_a.now c.type_inv.log_a) (octets_each c.args.log_b.now c.type_inv.log_b))

pub part_of-requires-in-B : goal.part_of-requires-in-B
part_of-requires-in-B c =
    part_inside _ _ (comes (goal.at.part_of-requires-in-B c).In-Ok-Some) log_b (ap log_is c.in-B.is) _ _
    (step_inside c.args.log_a.now c.args.log_b.now c.args.place_a c.args.place_b c.args.offset (octets_each c.args.log_a.now c.type_inv.log_a) (octets_each c.args.log_b.now c.type_inv.log_b))

pub returns-in-A : goal.returns-in-A
returns-in-A c = part_here _ _ (comes (goal.at.returns-in-A c).In-Ok-Some) log_a (ap log_is c.in-A.is) _ _ _ c.part_of.ensures

pub returns-in-B : goal.returns-in-B
returns-in-B c = part_here _ _ (comes (goal.at.returns-in-B c).In-Ok-Some) log_b (ap log_is c.in-B.is) _ _ _ c.part_of-in-B.ensures

pub returns-in-Ok-None : goal.returns-in-Ok-None
returns-in-Ok-None c =
    part_here _ _
    (ap (λ o. merged_of c.args.place_a c.args.place_b (Ok o)) (sym c.in-Ok-None.field-0-is) ∙ ap (merged_of c.args.place_a c.args.place_b) (sym c.in-Ok-None.is)
    ∙ c.merge_at.ensures ∙ ap (merge_step categories c.args.log_a.now c.args.log_b.now c.args.place_a c.args.place_b) (to_z-of_z w64 c.args.offset c.ranges.offset))
    log_a refl _ _ _ c.part_of-in-Ok-None.ensures

pub returns-in-Err : goal.returns-in-Err
returns-in-Err c =
    part_here _ _
    (ap (merged_of c.args.place_a c.args.place_b) (sym c.in-Err.is)
    ∙ c.merge_at.ensures ∙ ap (merge_step categories c.args.log_a.now c.args.log_b.now c.args.place_a c.args.place_b) (to_z-of_z w64 c.args.offset c.ranges.offset))
    log_a (part_refused c.in-Err.field-0) _ _ _ c.part_of-in-Err.ensures
