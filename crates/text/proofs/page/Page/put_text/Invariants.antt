-- The page has the text so far.
use Rattle.std.proofs.Common.{◌≡◌, take}
use Rattle.text.specs.Page.{page_of, puts}
use Rattle.text.proofs.page.Page.put_text.Given as goal

abbrev pub invariant-loop-c : goal.invariant-loop-c
invariant-loop-c l = (page_of l.self ≡ puts (take l.c-index l.text) (page_of l.initial.self)) × (l.self.held.ghost_name ≡ l.initial.self.held.ghost_name)
