-- `viewing::totals_agree` meets its contract. Assumes nothing.
use borrow.Author.Rules.{rules}
use Rattle.viewing.proofs.TotalLaws.{agreed_all, agreed_high, agreed_low, agreed_more}
use Rattle.viewing.proofs.totals_agree.Goals as goal
use Rattle.viewing.proofs.totals_agree.Goals.{then-from-n-via-then-from-n, then-from-n-via-else-from-n+then-from-n-2}

pub returns-then-from-n : goal.returns-then-from-n
returns-then-from-n c =
    elim c.then-from-n.branch [
      | then-from-n-via-then-from-n w ↦
          agreed_high _ _ _ c.requires c.loop-j.invariant c.loop-j-test.true _ _ _ c.count_of-n.ensures.is c.from-at.ensures c.from.ensures w.if-from-n.true
      | then-from-n-via-else-from-n+then-from-n-2 w ↦
          agreed_low _ _ _ c.requires c.loop-j.invariant c.loop-j-test.true _ _ _ _ c.count_of-n.ensures.is c.from-at.ensures c.from.ensures w.if-from-n.false w.from-else-from-n.ensures w.if-from-n-2.true
    ]

pub loop-j-preserved : goal.loop-j-preserved
loop-j-preserved c =
    agreed_more _ _ _ c.requires c.loop-j.invariant c.loop-j-test.true _ _ _ _ c.count_of-n.ensures.is c.from-at.ensures c.from.ensures c.if-from-n.false c.from-else-from-n.ensures c.if-from-n-2.false

pub returns : goal.returns
returns c = agreed_all _ _ _ c.requires c.loop-j.invariant (search rules)
