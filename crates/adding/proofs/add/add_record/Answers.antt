-- `add::add_record` meets its contract: at each `return` the tests that led there say which case of the rule holds, and the output is as it was
-- until all is checked. Assumes nothing.
use Rattle.std.specs.Prelude.{Err}
use Prim.Native.Nat.{◌+◌, ◌≤◌, ◌<◌}
use mathlib.Core.Bool.{true, false}
use mathlib.Core.Path.{◌≡◌, refl, sym, ap, ◌∙◌}
use native.Mathlib.Omega.{arith}
use native.Mathlib.Nat.{sub-zero}
use lib.ListN.{length, take}
use Rattle.rules.specs.Answer.{ok}
use Rattle.rules.proofs.ToldLaws.{refused_as}
use Rattle.sets.specs.Sets.{fspec_at}
use Rattle.records.specs.Answers.{end_of, new_at}
use Rattle.blocks.specs.Read.{open_from}
use Rattle.blocks.specs.Answers.{opened_said, opened_of}
use Rattle.blocks.proofs.ExitLaws.{exit_is}
use Rattle.blocks.proofs.LoopLaws.{octets_each}
use Rattle.adding.specs.Added.{added_of}
use Rattle.adding.proofs.AddLaws.{add_none, add_old, add_new, old_both, new_both, old_len, new_refused, new_whole, long_both, full_both, added_both, mapped_ok, mapped_err}
use Rattle.adding.proofs.add.add_record.Goals as goal
use Rattle.adding.proofs.add.add_record.Goals.{In_ok-old, In_ok-n}

-- the block that the octets in use are
is_open : (c : In_ok-old) → open_from 3 (take c.args.used c.args.out.now) ≡ ok (opened_said c.in_ok-old.old)
is_open c =
    ap (λ k. open_from 3 (take k c.args.out.now)) (sym (sub-zero c.args.used))
    ∙ sym c.open_block.ensures
    ∙ ap opened_of (mapped_ok _ c.open_block.result _ _ (λ e z. z) c.in_ok-old.ensures.cases)

-- how much is in use
in_use : (c : In_ok-old) → (3 ≤ c.args.used) × (c.args.used < 65_536)
in_use c = old_len _ _ _ (octets_each c.args.out.now c.slice_known-1.given) c.if-out-used.false (is_open c)

-- the new record
checked : (c : In_ok-n) → new_at c.in_ok-old.old.profile c.args.set.bits c.args.items.now ≡ ok c.in_ok-n.n
checked c = sym c.check_new.ensures ∙ ap end_of (mapped_ok _ c.check_new.result _ _ (λ e z. z) c.in_ok-n.ensures.cases)

whole : (c : In_ok-n) → c.in_ok-n.n ≡ length (fspec_at c.in_ok-old.old.profile c.args.set.bits) + length c.args.items.now
whole c = (new_whole _ _ _ _ (checked c)).1

pub returns-then-out-used : goal.returns-then-out-used
returns-then-out-used c =
    let b = old_both _ (add_none _ _ _ _ c.if-out-used.true) in
    record { result_value = ap (λ z. (z, false)) (refused_as _ _ _ c.at.ensures.is c.at.ensures.place) ∙ b.0; out_after = b.1 }

pub returns-in_err-old : goal.returns-in_err-old
returns-in_err-old c =
    let p = mapped_err c.open_block.result _ _ c.in_err-old.ensures.cases in
    let b = old_both _ (add_old _ _ _ _ c.if-out-used.false _ _
    (ap (λ k. open_from 3 (take k c.args.out.now)) (sym (sub-zero c.args.used)) ∙ sym c.open_block.ensures ∙ ap opened_of p.1)) in
    record { result_value = ap added_of (exit_is _ _ c.from_residual.ensures.1 ∙ ap Err p.2) ∙ b.0; out_after = b.1 }

pub returns-in_err-n : goal.returns-in_err-n
returns-in_err-n c =
    let p = mapped_err c.check_new.result _ _ c.in_err-n.ensures.cases in
    let b = new_both _ (add_new _ _ _ _ c.if-out-used.false _ _ _ (is_open (goal.at.returns-in_err-n c).In_ok-old) (new_refused _ _ _ _ _ (sym c.check_new.ensures ∙ ap end_of p.1))) in
    record { result_value = ap added_of (exit_is _ _ c.from_residual-in_err-n.ensures.1 ∙ ap Err p.2) ∙ b.0; out_after = b.1 }

pub overflow_sub-used : goal.overflow_sub-used
overflow_sub-used c = omega (arith, (in_use (goal.at.overflow_sub-used c).In_ok-old).1)

pub returns-then-used-n : goal.returns-then-used-n
returns-then-used-n c =
    let b = long_both _ _ _ _ _ _ (opened_said c.in_ok-old.old) refl c.if-out-used.false (is_open (goal.at.returns-then-used-n c).In_ok-old) (checked (goal.at.returns-then-used-n c).In_ok-n) (omega (arith, (in_use (goal.at.returns-then-used-n c).In_ok-old).1)) in
    record { result_value = ap (λ z. (z, true)) (refused_as _ _ _ c.at-then-used-n.ensures.is c.at-then-used-n.ensures.place) ∙ b.0; out_after = b.1 }

pub returns-then-out-len : goal.returns-then-out-len
returns-then-out-len c =
    let b = full_both _ _ _ _ _ _ (opened_said c.in_ok-old.old) refl c.if-out-used.false (is_open (goal.at.returns-then-out-len c).In_ok-old) (checked (goal.at.returns-then-out-len c).In_ok-n) (omega (arith, (in_use (goal.at.returns-then-out-len c).In_ok-old).1)) c.if-out-len.true in
    record { result_value = ap (λ z. (z, true)) (refused_as _ _ _ c.at-then-out-len.ensures.is c.at-then-out-len.ensures.place) ∙ b.0; out_after = b.1 }

pub lay_record-requires : goal.lay_record-requires
lay_record-requires c = ((in_use (goal.at.lay_record-requires c).In_ok-old).0, omega (arith, (in_use (goal.at.lay_record-requires c).In_ok-old).1), omega arith, ap (λ k. c.args.used + k) (whole (goal.at.lay_record-requires c).In_ok-n))

pub returns : goal.returns
returns c =
    let b = added_both _ _ _ _ _ _ (opened_said c.in_ok-old.old) refl c.if-out-used.false (is_open (goal.at.returns c).In_ok-old) (checked (goal.at.returns c).In_ok-n) _ (in_use (goal.at.returns c).In_ok-old).0 (omega (arith, (in_use (goal.at.returns c).In_ok-old).1)) c.if-out-len.false c.lay_record.ensures in
    record { result_value = b.0; out_after = b.1 }
