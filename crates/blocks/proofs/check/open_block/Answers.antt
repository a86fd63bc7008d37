-- `check::open_block` meets its contract: at each `return` the head, and then the records, say which case of the rule holds. Assumes nothing.
use mathlib.Core.Path.{◌≡◌, sym, ◌∙◌}
use Prim.Native.Nat.{◌<◌, ◌≤◌}
use native.Mathlib.Omega.{arith}
use lib.Dec.{eqb, eqb→eq}
use lib.ListN.{length}
use Rattle.rules.proofs.AnswerLaws.{to_end}
use Rattle.rules.specs.Answer.{ok}
use Rattle.rules.proofs.ToldLaws.{refused_as}
use Rattle.blocks.specs.Read.{head_by}
use Rattle.blocks.specs.Answers.{head_said}
use Rattle.blocks.proofs.ExitLaws.{told_as-exit, told_as-from}
use Rattle.blocks.proofs.LoopLaws.{octets_each}
use Rattle.blocks.proofs.HeadLaws.{headed, len_few, opened_refused, opened_less, opened_stop, opened_all}
use Rattle.blocks.proofs.check.open_block.Goals as goal
use Rattle.blocks.proofs.check.open_block.Goals.{In_ok-profile}

-- the head that was read
has_head : (c : In_ok-profile) → head_by eqb c.args.block.now ≡ ok (head_said c.in_ok-profile.field-0)
has_head c = sym c.in_ok-profile.ensures

-- LEN is the length lent, and so has two octets
len_is : (c : In_ok-profile) → c.in_ok-profile.field-0.len ≡ length c.args.block.now
len_is c = eqb→eq _ _ (headed eqb c.args.block.now _ (has_head c)).fitted

few : (c : In_ok-profile) → c.in_ok-profile.field-0.len < 65_536
few c = len_few eqb c.args.block.now _ (octets_each c.args.block.now c.type_inv.block) (has_head c)

least : (c : In_ok-profile) → 3 ≤ length c.args.block.now
least c = (headed eqb c.args.block.now _ (has_head c)).room

pub returns-in_err-profile : goal.returns-in_err-profile
returns-in_err-profile c = told_as-from _ _ _ c.from_residual.ensures.1 ∙ sym (opened_refused _ _ _ _ (sym c.in_err-profile.ensures))

pub returns-then-len-least : goal.returns-then-len-least
returns-then-len-least c =
    refused_as _ _ _ c.at.ensures.is c.at.ensures.place
    ∙ sym (opened_less _ _ _ (has_head (goal.at.returns-then-len-least c).In_ok-profile) c.if-len-least.true)

pub slice_bounds-check_records-count : goal.slice_bounds-check_records-count
slice_bounds-check_records-count c = least (goal.at.slice_bounds-check_records-count c).In_ok-profile

pub slice_bounds-check_records-start : goal.slice_bounds-check_records-start
slice_bounds-check_records-start c = least (goal.at.slice_bounds-check_records-start c).In_ok-profile

pub check_records-requires : goal.check_records-requires
check_records-requires c = omega (arith, few (goal.at.check_records-requires c).In_ok-profile, len_is (goal.at.check_records-requires c).In_ok-profile)

pub returns-in_err-records : goal.returns-in_err-records
returns-in_err-records c =
    told_as-exit _ _ _ c.from_residual-in_err-records.ensures.1
    ∙ sym (opened_stop _ _ _ _ _ _ (has_head (goal.at.returns-in_err-records c).In_ok-profile) c.if-len-least.false (to_end c.args.block.now 3) (sym c.in_err-records.ensures))

pub returns : goal.returns
returns c =
    sym (opened_all _ _ _ _ _ (has_head (goal.at.returns c).In_ok-profile) c.if-len-least.false (to_end c.args.block.now 3) (sym c.in_ok-records.ensures))
