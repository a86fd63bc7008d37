-- `record::asked_octets` meets its contract: past the end there are no octets, from whatever place. Assumes nothing.
use mathlib.Core.Path.{◌∙◌}
use Rattle.measuring.proofs.EndLaws.{asked_size}
use Rattle.measuring.proofs.record.asked_octets.Goals as goal

pub returns : goal.returns
returns c = c.ok.ensures.value ∙ asked_size _ _ c.args.part.now _ c.check_item.result c.min-from.ensures c.check_item.ensures
