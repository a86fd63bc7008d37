-- `marks::pass_marks` meets its contract: what was told of the marks so far, with what is told of the others, is what is told of all. Assumes nothing.
use mathlib.Core.Path.{◌∙◌, sym}
use Rattle.marks.proofs.MarkSteps.{passed_all, passed_fault, passed_more}
use Rattle.marks.proofs.pass_marks.Goals as goal

pub returns-then-not-mark_fits : goal.returns-then-not-mark_fits
returns-then-not-mark_fits c =
    passed_fault _ _ _ _ _ _ _ c.loop-i.invariant _ _ c.loop-i-test.true c.size_of-size.ensures.0 c.mark_in-m.ensures (sym c.mark_fits.ensures ∙ c.if-not-mark_fits.true)

pub loop-i-preserved : goal.loop-i-preserved
loop-i-preserved c =
    rw (c.from.ensures, c.from-in-loop-i.ensures)
    (passed_more _ _ _ _ _ _ _ c.loop-i.invariant _ _ _ c.loop-i-test.true c.size_of-size.ensures.0 c.mark_in-m.ensures (sym c.mark_fits.ensures ∙ c.if-not-mark_fits.false) c.key_of-k.ensures.0)

pub returns : goal.returns
returns c = passed_all _ _ _ _ _ _ _ c.loop-i.invariant c.loop-i-test.false
