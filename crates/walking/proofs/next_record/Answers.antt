-- `next_record` meets its contract: whether there is more, and then the block that the next record lies in, say which case of the rule holds. Assumes
-- nothing.
use mathlib.Core.Path.{◌≡◌, sym, ap, ◌∙◌}
use mathlib.Core.Bool.{true}
use lib.ListN.{length}
use Rattle.blocks.proofs.ExitLaws.{exit_is}
use Rattle.blocks.proofs.LoopLaws.{octets_each}
use Rattle.walking.specs.Walk.{more, answered}
use Rattle.walking.specs.Answers.{walked_of}
use Rattle.walking.proofs.StepLaws.{more_is, block_stands, next_none, next_in_lem, next_off}
use Rattle.walking.proofs.next_record.Goals as goal
use Rattle.walking.proofs.next_record.Goals.{Else-not-has_more}

has : (c : Else-not-has_more) → more (length c.args.recording.now) c.args.cursor ≡ true
has c = sym c.has_more.ensures ∙ c.if-not-has_more.false

pub returns-then-not-has_more : goal.returns-then-not-has_more
returns-then-not-has_more c = sym (next_none _ _ (sym c.has_more.ensures ∙ c.if-not-has_more.true))

pub block_at-requires : goal.block_at-requires
block_at-requires c = (more_is _ _ (has (goal.at.block_at-requires c).Else-not-has_more)).high

pub returns-in_err-at : goal.returns-in_err-at
returns-in_err-at c =
    ap (walked_of c.args.cursor) (exit_is _ _ c.from_residual.ensures.1)
    ∙ sym (next_off _ _ _ _ (has (goal.at.returns-in_err-at c).Else-not-has_more) (sym c.in_err-at.ensures))

pub record_at-requires : goal.record_at-requires
record_at-requires c = block_stands _ _ _ (octets_each c.args.recording.now c.type_inv.recording) (has (goal.at.record_at-requires c).Else-not-has_more) (sym c.in_ok-at.ensures)

pub returns-in_err-met : goal.returns-in_err-met
returns-in_err-met c =
    ap (walked_of c.args.cursor) (exit_is _ _ c.from_residual-in_err-met.ensures.1)
    ∙ ap (answered c.args.cursor) c.in_err-met.ensures
    ∙ sym (next_in_lem _ _ _ (has (goal.at.returns-in_err-met c).Else-not-has_more) (sym c.in_ok-at.ensures))

pub returns : goal.returns
returns c = ap (answered c.args.cursor) c.in_ok-met.ensures ∙ sym (next_in_lem _ _ _ (has (goal.at.returns c).Else-not-has_more) (sym c.in_ok-at.ensures))
