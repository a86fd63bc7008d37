-- `sets::fspec_octets` meets its contract. Assumes nothing.
use mathlib.Core.Path.{sym, ◌∙◌}
use borrow.Author.Rules.{rules}
use Rattle.sets.proofs.FspecLaws.{set_low, set_within, fspec_none, fspec_counted}
use mathlib.Core.Bool.{not}
use mathlib.Core.Path.{ap}
use Rattle.sets.proofs.fspec_octets.Goals as goal

pub returns-then-not-is_within : goal.returns-then-not-is_within
returns-then-not-is_within c = fspec_none _ _ c.usable.ensures c.is_within.ensures (ap not c.if-not-is_within.true)

pub octets_of-requires : goal.octets_of-requires
octets_of-requires c = set_low _ _ (search rules) (set_within _ _ c.usable.ensures c.is_within.ensures (ap not c.if-not-is_within.false))

pub returns : goal.returns
returns c =
    c.octets_of.ensures.0
    ∙ sym (fspec_counted _ _ (search rules) (set_within _ _ c.usable.ensures c.is_within.ensures (ap not c.if-not-is_within.false)))
