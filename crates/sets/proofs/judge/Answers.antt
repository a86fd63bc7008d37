-- `sets::judge` meets its contract: each refusal stands where the rule that gives it stands. Assumes nothing.
use mathlib.Core.Path.{◌≡◌, sym, ap, ◌∙◌}
use Rattle.std.specs.Prelude.{Some, None}
use Rattle.std.proofs.lemmas.Result.{err_from_is_err_and}
use native.Mathlib.Omega.{arith}
use Rattle.rules.specs.Answer.{ok, refused}
use Rattle.rules.specs.Told.{number_of}
use Rattle.rules.specs.declared.faults.Fault.TheVariants as fault
use Rattle.sets.specs.Steps.{row_at}
use Rattle.sets.specs.Answers.{row_of}
use Rattle.sets.proofs.JudgeLaws.{judge_typeless, judge_unknown, judge_lacks, judge_unsent, judge_right}
use mathlib.Core.Bool.{not}
use Rattle.sets.proofs.judge.Goals as goal
use Rattle.sets.proofs.judge.Goals.{In_ok-row}

pub returns-then-not-has : goal.returns-then-not-has
returns-then-not-has c = judge_typeless _ _ _ _ c.type_frn.ensures c.has.ensures (ap not c.if-not-has.true)

pub returns-in_err-row : goal.returns-in_err-row
returns-in_err-row c =
    let o : c.row_of.result ≡ None = grind arith in
    let f : c.in_err-row.field-0.0 ≡ fault.TypeUnknown = grind arith in
    let p = err_from_is_err_and c.from_residual.result c.from_residual.ensures.1 in
    rw (p.1, p.2)
    (ap (λ x. refused (number_of x) 0) f
    ∙ judge_unknown _ _ _ _ c.type_frn.ensures c.has.ensures (ap not c.if-not-has.false) (sym c.row_of.ensures ∙ ap row_of o))

-- the row, in the rules' terms
row : (c : In_ok-row)
    → row_at c.args.profile c.args.kind ≡ ok (c.in_ok-row.row.must.bits, c.in_ok-row.row.may.bits)
row c = let o : c.row_of.result ≡ Some c.in_ok-row.row = grind arith in sym c.row_of.ensures ∙ ap row_of o

pub returns-then-not-is_within : goal.returns-then-not-is_within
returns-then-not-is_within c =
    judge_lacks _ _ _ _ c.type_frn.ensures c.has.ensures (ap not c.if-not-has.false)
    (row (goal.at.returns-then-not-is_within c).In_ok-row) c.is_within.ensures (ap not c.if-not-is_within.true)

pub returns-then-not-is_within-2 : goal.returns-then-not-is_within-2
returns-then-not-is_within-2 c =
    judge_unsent _ _ _ _ c.type_frn.ensures c.has.ensures
    (ap not c.if-not-has.false)
    (row (goal.at.returns-then-not-is_within-2 c).In_ok-row) c.is_within.ensures (ap not c.if-not-is_within.false) c.is_within-2.ensures (ap not c.if-not-is_within-2.true)

pub returns : goal.returns
returns c =
    judge_right _ _ _ _ c.type_frn.ensures c.has.ensures
    (ap not c.if-not-has.false)
    (row (goal.at.returns c).In_ok-row) c.is_within.ensures (ap not c.if-not-is_within.false) c.is_within-2.ensures (ap not c.if-not-is_within-2.false)
