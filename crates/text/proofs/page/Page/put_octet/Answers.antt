-- `Page::put_octet` meets its contract: one digit, then the other. Assumes nothing.
use mathlib.Core.List.{[], ◌∷◌}
use Rattle.text.proofs.PageLaws.{after, instead}
use Rattle.text.proofs.page.Page.put_octet.Goals as goal

pub returns-clause-text : goal.returns-clause-text
returns-clause-text c = instead _ (after _ _ _ c.put.ensures.text c.put-2.ensures.text) (λ i. c.glyph.ensures i ∷ (c.glyph-2.ensures i ∷ []))
