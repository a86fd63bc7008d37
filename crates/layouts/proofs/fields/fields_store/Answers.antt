-- `layouts::fields::fields_store` meets its contract: what is left to store makes of the output what all makes. Assumes nothing.
use mathlib.Core.Path.{refl, ◌∙◌}
use native.Mathlib.Omega.{arith}
use mir.Syntax.{w64}
use mir.ValLaws.{to_z-of_z}
use Rattle.layouts.proofs.StoreLaws.{stored, stored_all}
use Rattle.layouts.proofs.Turns.{Cut, cut}
use Rattle.layouts.proofs.fields.fields_store.Goals as goal
use Rattle.layouts.proofs.fields.fields_store.Goals.{After-struct_known-1}

cut_at : (c : After-struct_known-1)
    → Cut c.loop-i.i c.args.e c.loop-i.rest c.loop-i.left c.field_at-f.result
cut_at c =
    let l = c.loop-i in
    cut _ _ _ _ _ c.field_at-f.ensures c.loop-i-test.true c.requires.e_le_field_count.0 l.invariant.left_is l.invariant.few l.invariant.small

pub loop-i-init : goal.loop-i-init
loop-i-init c = record { left_is = c.requires.e_le_field_count.1; few = c.requires.w_bound.0; small = c.requires.w_bound.1; room = refl; same = refl }

pub overflow_sub-left : goal.overflow_sub-left
overflow_sub-left c = (cut_at (goal.at.overflow_sub-left c).After-struct_known-1).fits

pub overflow_shr-rest : goal.overflow_shr-rest
overflow_shr-rest c = (cut_at (goal.at.overflow_shr-rest c).After-struct_known-1).less

pub value_of-v-requires : goal.value_of-v-requires
value_of-v-requires c = record { le_bits = ((cut_at (goal.at.value_of-v-requires c).After-struct_known-1).some, (cut_at (goal.at.value_of-v-requires c).After-struct_known-1).small); code_bound = (cut_at (goal.at.value_of-v-requires c).After-struct_known-1).code }

pub put-next-requires : goal.put-next-requires
put-next-requires c = omega (arith, (cut_at (goal.at.put-next-requires c).After-struct_known-1).counts, c.loop-i.invariant.room, c.requires.e_bound)

pub pow2-rest-requires : goal.pow2-rest-requires
pow2-rest-requires c = (cut_at (goal.at.pow2-rest-requires c).After-struct_known-1).less

pub nonzero_rem-rest : goal.nonzero_rem-rest
nonzero_rem-rest c = omega (arith, c.pow2-rest.ensures, (cut_at (goal.at.nonzero_rem-rest c).After-struct_known-1).pow)

pub loop-i-preserved : goal.loop-i-preserved
loop-i-preserved c =
    stored _ _ _ _ _ _ _ _ _ _ _ _ _ _ c.loop-i.invariant (cut_at (goal.at.loop-i-preserved c).After-struct_known-1)
    (to_z-of_z w64 _ (record { sfits = c.value_of-v.type_inv }) ∙ c.value_of-v.ensures) c.put-next.ensures c.pow2-rest.ensures

pub returns : goal.returns
returns c = stored_all _ _ _ _ _ _ _ _ _ _ c.loop-i.invariant c.loop-i-test.false c.requires.e_le_field_count.0
