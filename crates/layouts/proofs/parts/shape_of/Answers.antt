-- `layouts::parts::shape_of` meets its contract: each arm is a case of `shape_of`. Assumes nothing.
use mathlib.Core.Path.{◌∙◌}
use mathlib.Core.Logic.{⊎_elim}
use native.Mathlib.Nat.{le_of_suc-le-suc}
use Rattle.rules.proofs.ToldLaws.{refused_as}
use Rattle.layouts.proofs.ShapeLaws.{rowed, fixed_group, chain_inside, chain_parts_lem, no_shape, no_parts, fixed_cut, fixed_there, chain_shape, list_none, led_none, led_short, led_cut, led_there, list_shape_lem}
use Rattle.layouts.proofs.parts.shape_of.Goals as goal

pub returns-in-NoItem : goal.returns-in-NoItem
returns-in-NoItem c = refused_as _ _ _ c.at.ensures.is c.at.ensures.place ∙ ⊎_elim (no_shape _ _) (no_parts _ _) c.in-NoItem.is

pub size_at-long-requires : goal.size_at-long-requires
size_at-long-requires c = (fixed_group _ (rowed _ c.requires) c.in-Fixed.is).inside

pub returns-then-s-long : goal.returns-then-s-long
returns-then-s-long c = refused_as _ _ _ c.at-then-s-long.ensures.is c.at-then-s-long.ensures.place ∙ fixed_cut _ _ c.in-Fixed.is c.size_at-long.ensures c.if-s-long.true

pub returns-else-s-long : goal.returns-else-s-long
returns-else-s-long c = fixed_there _ _ c.in-Fixed.is c.size_at-long.ensures c.if-s-long.false

pub returns-then-s-lt1 : goal.returns-then-s-lt1
returns-then-s-lt1 c = refused_as _ _ _ c.at-then-s-lt1.ensures.is c.at-then-s-lt1.ensures.place ∙ list_none _ _ c.in-Repeated.is c.if-s-lt1.true

pub list_of-requires : goal.list_of-requires
list_of-requires c = (c.requires, c.in-Repeated.is, le_of_suc-le-suc c.octet.ensures.1)

pub returns-else-s-lt1 : goal.returns-else-s-lt1
returns-else-s-lt1 c = c.list_of.ensures ∙ rw c.octet.ensures.0 (list_shape_lem _ _ c.in-Repeated.is c.if-s-lt1.false)

pub returns-then-s-lt1-2 : goal.returns-then-s-lt1-2
returns-then-s-lt1-2 c = refused_as _ _ _ c.at-then-s-lt1-2.ensures.is c.at-then-s-lt1-2.ensures.place ∙ led_none _ _ c.in-Led.is c.if-s-lt1-2.true

pub returns-then-long-l : goal.returns-then-long-l
returns-then-long-l c = refused_as _ _ _ c.at-then-long-l.ensures.is c.at-then-long-l.ensures.place ∙ led_short _ _ c.in-Led.is c.if-s-lt1-2.false c.octet-long.ensures.0 c.if-long-l.true

pub returns-then-s-long-2 : goal.returns-then-s-long-2
returns-then-s-long-2 c = refused_as _ _ _ c.at-then-s-long-2.ensures.is c.at-then-s-long-2.ensures.place ∙ led_cut _ _ c.in-Led.is c.if-s-lt1-2.false c.octet-long.ensures.0 c.if-long-l.false c.if-s-long-2.true

pub returns-else-s-long-2 : goal.returns-else-s-long-2
returns-else-s-long-2 c = led_there _ _ c.in-Led.is c.if-s-lt1-2.false c.octet-long.ensures.0 c.if-long-l.false c.if-s-long-2.false

pub chain_of-requires : goal.chain_of-requires
chain_of-requires c = (chain_inside _ (rowed _ c.requires) c.in-Extended.is, chain_parts_lem _ (rowed _ c.requires) c.in-Extended.is)

pub returns-in-Extended : goal.returns-in-Extended
returns-in-Extended c = c.chain_of.ensures ∙ chain_shape _ _ c.in-Extended.is
