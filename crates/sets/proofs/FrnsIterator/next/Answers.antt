-- `sets::Frns`'s `next` meets its contract: the first FRN has as many zeros before its bit as its number says, and without it the others are left. Assumes
-- nothing.
use Prim.Native.Nat.{◌-◌}
use mathlib.Core.Path.{◌≡◌, sym, ap, ◌∙◌}
use mathlib.Core.List.{◌∷◌}
use native.Mathlib.Omega.{arith}
use borrow.Author.Rules.{rules}
use borrow.Author.Tests.{eqb-true, eqb-false}
use lib.Count.{count_leading_zeros}
use lib.ListN.{length}
use Rattle.sets.specs.Sets.{frns_of}
use Rattle.sets.proofs.FlagLaws.{first, frns_none, frns_next}
use Rattle.sets.proofs.FrnsIterator.next.Goals as goal
use Rattle.sets.proofs.FrnsIterator.next.Goals.{After-weight, Else-eq}

pub returns-then-eq-clause-steps : goal.returns-then-eq-clause-steps
returns-then-eq-clause-steps c = let e = ap frns_of (eqb-true _ 0 (sym c.eq.ensures ∙ c.if-eq.true)) ∙ frns_none in (e, e)

some : (c : Else-eq) → c.args.self.now.left.bits ≡ 0 → ⊥
some c = eqb-false _ 0 (sym c.eq.ensures ∙ c.if-eq.false)

pub overflow_sub-self : goal.overflow_sub-self
overflow_sub-self c = rw c.weight.ensures ((first _ (some (goal.at.overflow_sub-self c).Else-eq) (search rules)).there)

one_more : (c : After-weight) → frns_of c.args.self.now.left.bits ≡ count_leading_zeros 64 c.args.self.now.left.bits ∷ frns_of (c.args.self.now.left.bits - c.weight.result)
one_more c = rw c.weight.ensures (frns_next _ (eqb-false _ 0 (sym c.eq.ensures ∙ c.if-eq.false)) (search rules))

pub returns-clause-steps : goal.returns-clause-steps
returns-clause-steps c = one_more (goal.at.returns-clause-steps c).After-weight

pub returns-clause-goes : goal.returns-clause-goes
returns-clause-goes c =
    let e = ap length (one_more (goal.at.returns-clause-goes c).After-weight) in
    record { on = λ h. (tt, h, omega arith); keeps = tt; rests = λ h. tt }
