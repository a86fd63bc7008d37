-- `Page::put_octets` meets its contract: the digits of one more octet are on the page. Assumes nothing.
use Rattle.std.proofs.Common.{sym, ap, ◌∙◌}
use mathlib.Core.Path.{refl}
use borrow.Author.Tests.{eqb-true, eqb-false}
use Rattle.std.proofs.lemmas.List.{take_all}
use Rattle.text.specs.Octet.{hex_text}
use Rattle.text.specs.Page.{puts}
use Rattle.text.proofs.OctetLaws.{hex_more, octets_none, octets_some}
use Rattle.text.proofs.PageLaws.{after, instead}
use Rattle.text.proofs.page.Page.put_octets.Goals as goal

pub returns-then-is_empty-clause-text : goal.returns-then-is_empty-clause-text
returns-then-is_empty-clause-text c = instead _ c.put.ensures.text (octets_none _ (eqb-true _ _ (sym c.is_empty.ensures ∙ c.if-is_empty.true)))

pub loop-octet-init : goal.loop-octet-init
unfolding puts hex_text
loop-octet-init c = (refl, refl)

pub loop-octet-preserved : goal.loop-octet-preserved
loop-octet-preserved c = (
  instead _ (after _ _ _ c.loop-octet.invariant.0 c.put_octet.ensures.text) (sym (hex_more _ _ c.loop-octet-test.true)),
  c.put_octet.ensures.same_buffer ∙ c.loop-octet.invariant.1,
)

pub returns-clause-text : goal.returns-clause-text
returns-clause-text c =
    instead _ c.loop-octet.invariant.0 (ap hex_text (take_all _ _ c.loop-octet-test.false) ∙ octets_some _ (eqb-false _ _ (sym c.is_empty.ensures ∙ c.if-is_empty.false)))
