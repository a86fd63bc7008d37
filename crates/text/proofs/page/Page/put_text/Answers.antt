-- `Page::put_text` meets its contract: one more character of the text is on the page. Assumes nothing.
use Rattle.std.proofs.Common.{sym, ◌∙◌}
use mathlib.Core.Path.{refl}
use Rattle.std.proofs.lemmas.List.{take_more}
use Rattle.text.specs.Page.{puts}
use Rattle.text.proofs.PageLaws.{after, instead}
use Rattle.text.proofs.page.Page.put_text.Goals as goal

pub loop-c-init : goal.loop-c-init
unfolding puts
loop-c-init c = (refl, refl)

pub loop-c-preserved : goal.loop-c-preserved
loop-c-preserved c = (
  instead _ (after _ _ _ c.loop-c.invariant.0 c.put.ensures.text) (sym (take_more _ _ 0 c.loop-c-test.true)),
  c.put.ensures.same_buffer ∙ c.loop-c.invariant.1,
)
