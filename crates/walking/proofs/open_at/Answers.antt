-- `open_at` meets its contract: the head at the part's start says which case of the rule holds. Assumes nothing.
use Prim.Native.Nat.{◌+◌, ◌-◌, ◌≤◌}
use mathlib.Core.Path.{◌≡◌, sym, ap, ◌∙◌}
use native.Mathlib.Omega.{arith}
use lib.Dec.{leb, leb→le}
use lib.ListN.{length, drop, get_or, length-drop}
use Rattle.rules.specs.Answer.{ok}
use Rattle.rules.proofs.AnswerLaws.{to_end}
use Rattle.rules.proofs.ToldLaws.{refused_as}
use Rattle.blocks.specs.Read.{head_by}
use Rattle.blocks.specs.Answers.{head_said}
use Rattle.blocks.proofs.HeadLaws.{Headed, headed}
use Rattle.walking.proofs.StepLaws.{cat_is, open_refused, open_empty, open_head}
use Rattle.walking.proofs.open_at.Goals as goal
use Rattle.walking.proofs.open_at.Goals.{In-Ok}

-- the head that was read
has_head : (c : In-Ok) → head_by leb (drop c.args.start c.args.recording.now) ≡ ok (head_said c.in-Ok.head)
has_head c = ap (head_by leb) (sym (to_end c.args.recording.now c.args.start)) ∙ sym c.in-Ok.ensures

is_head_lem : (c : In-Ok) → Headed leb (drop c.args.start c.args.recording.now) (head_said c.in-Ok.head)
is_head_lem c = headed leb (drop c.args.start c.args.recording.now) _ (has_head c)

-- LEN is no more than is left
inside : (c : In-Ok) → c.in-Ok.head.len ≤ length c.args.recording.now - c.args.start
inside c = omega (arith, leb→le c.in-Ok.head.len (length (drop c.args.start c.args.recording.now)) (is_head_lem c).fitted, length-drop c.args.start c.args.recording.now)

pub returns-in-Err : goal.returns-in-Err
returns-in-Err c =
    refused_as _ _ _ c.at.ensures.is c.at.ensures.place
    ∙ sym (open_refused c.args.recording.now c.args.start _ (ap (head_by leb) (sym (to_end c.args.recording.now c.args.start)) ∙ sym c.in-Err.ensures))

pub returns-then-head-eq-HEAD : goal.returns-then-head-eq-HEAD
returns-then-head-eq-HEAD c =
    refused_as _ _ _ c.at-then-head-eq-HEAD.ensures.is c.at-then-head-eq-HEAD.ensures.place
    ∙ sym (open_empty _ _ _ (has_head (goal.at.returns-then-head-eq-HEAD c).In-Ok) c.if-head-eq-HEAD.true)

pub overflow_add-result-2 : goal.overflow_add-result-2
overflow_add-result-2 c = omega (arith, inside (goal.at.overflow_add-result-2 c).In-Ok)

pub bounds-part-0 : goal.bounds-part-0
bounds-part-0 c = omega (arith, (is_head_lem (goal.at.bounds-part-0 c).In-Ok).room, length-drop c.args.start c.args.recording.now)

pub returns : goal.returns
returns c =
    let x = goal.at.returns c in
    ap (λ z. ok (record { block = c.args.start; place = c.args.start + 3; end = c.args.start + c.in-Ok.head.len; category = z }))
    (ap (λ l. get_or l 0 0) (to_end c.args.recording.now c.args.start) ∙ cat_is (drop c.args.start c.args.recording.now) _ (has_head x.In-Ok))
    ∙ sym (open_head _ _ _ (has_head x.In-Ok) (omega (arith, (is_head_lem x.In-Ok).least, c.if-head-eq-HEAD.false)))
