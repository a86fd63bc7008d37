-- `number::put_decimal` meets its contract: the digits that `io::decimal` gives, the fewest, are the number's text. Assumes nothing.
use Rattle.text.proofs.PageLaws.{instead}
use mathlib.Core.Path.{◌∙◌}
use Rattle.text.proofs.NumberLaws.{text_is}
use Rattle.text.proofs.number.put_decimal.Goals as goal

pub returns : goal.returns
returns c = instead _ c.put_text.ensures (c.decimal-k.ensures.digits ∙ text_is _ _ c.decimal-k.ensures.len)
