-- `heads::stand_in` meets its contract: by where the next record stands. Assumes nothing.
use mathlib.Core.Path.{ap, ◌∙◌}
use Rattle.blocks.proofs.LoopLaws.{octets_each}
use Rattle.merging.specs.Heads.{stood_at}
use Rattle.merging.proofs.HeadLaws.{in_log_lem, comes_in, stand_in}
use Rattle.merging.proofs.heads.stand_in.Goals as goal

pub cursor_at-at-requires : goal.cursor_at-at-requires
cursor_at-at-requires c = (in_log_lem _ _ c.requires).high

pub stood_at-requires : goal.stood_at-requires
stood_at-requires c = ((comes_in _ _ _ (octets_each c.args.recording.now c.type_inv.recording) c.requires c.cursor_at-at.ensures).within, (comes_in _ _ _ (octets_each c.args.recording.now c.type_inv.recording) c.requires c.cursor_at-at.ensures).high)

pub returns : goal.returns
returns c = c.stood_at.ensures ∙ ap (stood_at _) c.cursor_at-at.ensures ∙ stand_in _ _ c.requires
