-- `layouts::parts::chain_of` meets its contract: the parts from a group on say what all say. Assumes nothing.
use mathlib.Core.Path.{sym, ◌∙◌}
use native.Mathlib.Omega.{arith}
use Rattle.rules.proofs.ToldLaws.{refused_as}
use Rattle.layouts.proofs.ShapeLaws.{chain_begun, chain_some, chain_short, chain_last, chain_more, chain_past}
use Rattle.layouts.proofs.parts.chain_of.Goals as goal

pub loop-g-init : goal.loop-g-init
loop-g-init c = chain_begun _ _ _ c.requires.1

pub overflow_sub-s : goal.overflow_sub-s
overflow_sub-s c = omega (arith, c.loop-g.invariant.place)

pub returns-then-s-at : goal.returns-then-s-at
returns-then-s-at c = refused_as _ _ _ c.at.ensures.is c.at.ensures.place ∙ chain_short _ _ _ _ _ _ c.loop-g.invariant c.loop-g-test.true c.size_at-size.ensures c.if-s-at.true

pub overflow_add-at : goal.overflow_add-at
overflow_add-at c = omega (arith, c.if-s-at.false, c.loop-g.invariant.place)

pub overflow_add-count : goal.overflow_add-count
overflow_add-count c = omega (arith, c.loop-g.invariant.few)

pub overflow_sub-at : goal.overflow_sub-at
overflow_sub-at c = omega (arith, chain_some _ _ _ _ _ _ c.loop-g.invariant c.loop-g-test.true c.size_at-size.ensures)

pub bounds-s-at : goal.bounds-s-at
bounds-s-at c = omega (arith, c.if-s-at.false, c.loop-g.invariant.place, chain_some _ _ _ _ _ _ c.loop-g.invariant c.loop-g-test.true c.size_at-size.ensures)

pub returns-then-is_last : goal.returns-then-is_last
returns-then-is_last c =
    chain_last _ _ _ _ _ _ c.loop-g.invariant c.loop-g-test.true c.size_at-size.ensures c.if-s-at.false
    (sym c.is_last.ensures ∙ c.if-is_last.true)

pub loop-g-preserved : goal.loop-g-preserved
loop-g-preserved c =
    chain_more _ _ _ _ _ _ c.loop-g.invariant c.loop-g-test.true c.size_at-size.ensures c.if-s-at.false
    (sym c.is_last.ensures ∙ c.if-is_last.false)

pub returns : goal.returns
returns c = refused_as _ _ _ c.at-2.ensures.is c.at-2.ensures.place ∙ chain_past _ _ _ _ _ _ c.loop-g.invariant c.loop-g-test.false
