-- `items::frn_of` meets its contract: the search from an FRN on says what the whole search says. Assumes nothing.
use mathlib.Core.Path.{sym, ◌∙◌}
use Rattle.items.proofs.PlaceLaws.{seek_first, seek_found, seek_next, seek_end}
use Rattle.items.proofs.frn_of.Goals as goal

pub loop-frn-init : goal.loop-frn-init
loop-frn-init c = seek_first _ _

pub returns-then-is_named : goal.returns-then-is_named
returns-then-is_named c = seek_found _ _ _ c.loop-frn.invariant (sym c.is_named.ensures ∙ c.if-is_named.true)

pub loop-frn-preserved : goal.loop-frn-preserved
loop-frn-preserved c = seek_next _ _ _ c.loop-frn.invariant c.loop-frn-test.true (sym c.is_named.ensures ∙ c.if-is_named.false)

pub returns : goal.returns
returns c = seek_end _ _ _ c.loop-frn.invariant c.loop-frn-test.false
