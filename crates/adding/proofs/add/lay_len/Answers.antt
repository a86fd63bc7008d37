-- `add::lay_len` meets its contract. Assumes nothing.
use mathlib.Core.Path.{◌∙◌}
use Rattle.adding.proofs.AddLaws.{len_laid}
use Rattle.adding.proofs.add.lay_len.Goals as goal

pub returns : goal.returns
returns c = len_laid _ _ _ c.requires.0 c.requires.1 (c.copy_from_slice.ensures.after ∙ c.to_be_bytes.ensures)
