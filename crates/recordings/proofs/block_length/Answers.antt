-- `block_length` meets its contract. Assumes nothing.
use mathlib.Core.Path.{sym, ap, ◌∙◌}
use Prim.Native.Nat.{max}
use Rattle.recordings.proofs.FeedLaws.{length_short, length_by}
use Rattle.recordings.proofs.block_length.Goals as goal

pub returns-then-head-lt-HEAD : goal.returns-then-head-lt-HEAD
returns-then-head-lt-HEAD c = sym (length_short _ c.if-head-lt-HEAD.true)

pub returns : goal.returns
returns c = c.max.ensures ∙ ap (max 3) c.from_be_bytes-len.ensures ∙ sym (length_by _ c.if-head-lt-HEAD.false)
