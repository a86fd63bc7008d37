-- `find::locate_record` meets its contract: a block that is refused is not searched; else the record is sought among those after the head.
-- Assumes nothing.
use mathlib.Core.Path.{sym, ap, ◌∙◌}
use native.Mathlib.Omega.{arith}
use Rattle.rules.proofs.AnswerLaws.{to_end}
use Rattle.blocks.specs.Answers.{opened_said}
use Rattle.rules.proofs.ToldLaws.{handed}
use Rattle.blocks.proofs.LoopLaws.{octets_each}
use Rattle.blocks.proofs.OpenLaws.{Opens, opens, opens_records}
use Rattle.finding.specs.Found.{seek_at, found_in}
use Rattle.finding.proofs.FindLaws.{find_refused, find_record_lem}
use Rattle.finding.proofs.find.locate_record.Goals as goal
use Rattle.finding.proofs.find.locate_record.Goals.{In_ok-opened}

-- the block that was opened
is_open : (c : In_ok-opened) → Opens c.args.block.now (opened_said c.in_ok-opened.opened)
is_open c = opens c.args.block.now _ (octets_each c.args.block.now c.type_inv.block) (sym c.in_ok-opened.ensures)

pub returns-in_err-opened : goal.returns-in_err-opened
returns-in_err-opened c = handed _ _ c.from_residual.ensures.1 ∙ ap found_in (sym (find_refused _ _ _ _ (sym c.in_err-opened.ensures)))

pub slice_bounds-seek_record-count : goal.slice_bounds-seek_record-count
slice_bounds-seek_record-count c = omega (arith, (is_open (goal.at.slice_bounds-seek_record-count c).In_ok-opened).room)

pub slice_bounds-seek_record-start : goal.slice_bounds-seek_record-start
slice_bounds-seek_record-start c = omega (arith, (is_open (goal.at.slice_bounds-seek_record-start c).In_ok-opened).room)

pub seek_record-requires : goal.seek_record-requires
seek_record-requires c = (omega (arith, (is_open (goal.at.seek_record-requires c).In_ok-opened).few, (is_open (goal.at.seek_record-requires c).In_ok-opened).room), rw (to_end c.args.block.now 3) (opens_records (is_open (goal.at.seek_record-requires c).In_ok-opened)))

pub returns : goal.returns
returns c =
    c.seek_record.ensures
    ∙ ap found_in (ap (λ z. seek_at (opened_said c.in_ok-opened.opened).category 3 z c.args.n) (to_end c.args.block.now 3) ∙ sym (find_record_lem _ _ _ (is_open (goal.at.returns c).In_ok-opened)))
