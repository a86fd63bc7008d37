-- `check::check_front` meets its contract: at each `return` the head, and then the records, say which case of the rule holds. Assumes nothing.
use mathlib.Core.Path.{◌≡◌, sym, ◌∙◌}
use Prim.Native.Nat.{◌<◌, ◌≤◌}
use native.Mathlib.Omega.{arith}
use lib.Dec.{leb, leb→le}
use lib.ListN.{length}
use Rattle.rules.specs.Answer.{ok}
use Rattle.rules.proofs.ToldLaws.{refused_as}
use Rattle.blocks.specs.Read.{head_by}
use Rattle.blocks.specs.Answers.{head_said}
use Rattle.blocks.proofs.ExitLaws.{told_as-exit, told_as-from}
use Rattle.blocks.proofs.LoopLaws.{octets_each}
use Rattle.blocks.proofs.HeadLaws.{headed, len_few, front_refused, front_empty, front_stop, front_all}
use Rattle.blocks.proofs.check.check_front.Goals as goal
use Rattle.blocks.proofs.check.check_front.Goals.{In_ok-profile}

-- the head that was read
has_head : (c : In_ok-profile) → head_by leb c.args.part.now ≡ ok (head_said c.in_ok-profile.field-0)
has_head c = sym c.in_ok-profile.ensures

-- LEN is no more than is left, and has two octets
len_is : (c : In_ok-profile) → c.in_ok-profile.field-0.len ≤ length c.args.part.now
len_is c = leb→le _ _ (headed leb c.args.part.now _ (has_head c)).fitted

few : (c : In_ok-profile) → c.in_ok-profile.field-0.len < 65_536
few c = len_few leb c.args.part.now _ (octets_each c.args.part.now c.type_inv.part) (has_head c)

least : (c : In_ok-profile) → 3 ≤ c.in_ok-profile.field-0.len
least c = (headed leb c.args.part.now _ (has_head c)).least

pub returns-in_err-profile : goal.returns-in_err-profile
returns-in_err-profile c = told_as-from _ _ _ c.from_residual.ensures.1 ∙ sym (front_refused _ _ _ (sym c.in_err-profile.ensures))

pub returns-then-len-eq-HEAD : goal.returns-then-len-eq-HEAD
returns-then-len-eq-HEAD c =
    refused_as _ _ _ c.at.ensures.is c.at.ensures.place
    ∙ sym (front_empty _ _ (has_head (goal.at.returns-then-len-eq-HEAD c).In_ok-profile) c.if-len-eq-HEAD.true)

pub slice_bounds-check_records-count : goal.slice_bounds-check_records-count
slice_bounds-check_records-count c = least (goal.at.slice_bounds-check_records-count c).In_ok-profile

pub slice_bounds-check_records-start : goal.slice_bounds-check_records-start
slice_bounds-check_records-start c = omega (arith, least (goal.at.slice_bounds-check_records-start c).In_ok-profile)

pub slice_bounds-check_records-end : goal.slice_bounds-check_records-end
slice_bounds-check_records-end c = omega (arith, least (goal.at.slice_bounds-check_records-end c).In_ok-profile, len_is (goal.at.slice_bounds-check_records-end c).In_ok-profile)

pub check_records-requires : goal.check_records-requires
check_records-requires c =
    omega (arith, few (goal.at.check_records-requires c).In_ok-profile, len_is (goal.at.check_records-requires c).In_ok-profile, least (goal.at.check_records-requires c).In_ok-profile)

pub returns-in_err-records : goal.returns-in_err-records
returns-in_err-records c =
    told_as-exit _ _ _ c.from_residual-in_err-records.ensures.1
    ∙ sym (front_stop _ _ _ _ (has_head (goal.at.returns-in_err-records c).In_ok-profile) c.if-len-eq-HEAD.false (sym c.in_err-records.ensures))

pub returns : goal.returns
returns c = sym (front_all _ _ _ (has_head (goal.at.returns c).In_ok-profile) c.if-len-eq-HEAD.false (sym c.in_ok-records.ensures))
