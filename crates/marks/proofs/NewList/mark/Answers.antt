-- `marks::NewList::mark` meets its contract: in each case the number that is asked for in the old list is the right one. Assumes nothing.
use mathlib.Core.Path.{ap, ◌∙◌}
use Rattle.marks.specs.Lists.{mark_at}
use Rattle.marks.proofs.ChangedLaws.{insert_here, insert_high, insert_low, keep_at, skip_high, skip_low}
use Rattle.marks.proofs.NewList.mark.Goals as goal
use Rattle.marks.proofs.NewList.mark.Goals.{in-Keep, in-Insert+else-j-k+then-j-k-2, in-Insert+else-j-k+else-j-k-2, in-Skip+then-j-gone, in-Skip+else-j-gone}

pub returns-then-j-k : goal.returns-then-j-k
returns-then-j-k c = insert_here _ _ _ _ _ _ c.in-Insert.is c.if-j-k.true

pub returns : goal.returns
returns c =
    elim c.match-self.branch [
      | in-Keep w ↦ c.mark_at.ensures ∙ ap (mark_at c.args.self.now.lists c.args.self.now.bytes.now) w.i-is ∙ keep_at _ _ _ _ w.in-Keep.is
      | in-Insert+else-j-k+then-j-k-2 w ↦ c.mark_at.ensures ∙ ap (mark_at c.args.self.now.lists c.args.self.now.bytes.now) w.i-is ∙ insert_low _ _ _ _ _ _ w.in-Insert.is w.if-j-k-2.true
      | in-Insert+else-j-k+else-j-k-2 w ↦ c.mark_at.ensures ∙ ap (mark_at c.args.self.now.lists c.args.self.now.bytes.now) w.i-is ∙ insert_high _ _ _ _ _ _ w.in-Insert.is w.if-j-k-2.false w.if-j-k.false
      | in-Skip+then-j-gone w ↦ c.mark_at.ensures ∙ ap (mark_at c.args.self.now.lists c.args.self.now.bytes.now) w.i-is ∙ skip_low _ _ _ _ _ w.in-Skip.is w.if-j-gone.true
      | in-Skip+else-j-gone w ↦ c.mark_at.ensures ∙ ap (mark_at c.args.self.now.lists c.args.self.now.bytes.now) w.i-is ∙ skip_high _ _ _ _ _ w.in-Skip.is w.if-j-gone.false
    ]
