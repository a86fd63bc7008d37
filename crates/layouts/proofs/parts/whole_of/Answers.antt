-- `layouts::parts::whole_of` meets its contract: the shape, and then the fields unless they are free. Assumes nothing.
use mathlib.Core.Path.{◌≡◌, ap, sym, ◌∙◌, subst}
use native.Mathlib.Omega.{arith}
use Rattle.std.proofs.lemmas.Result.{err_from_is_err_and}
use Rattle.rules.specs.Answer.{ok}
use Rattle.rules.proofs.AnswerLaws.{Octets}
use Rattle.layouts.specs.Read.{shape_of, run_of, run_legal, run_fault, run_sound}
use Rattle.layouts.proofs.OctetLaws.{octets_known}
use Rattle.layouts.proofs.WholeLaws.{whole_stopped, walk, run_good, run_barred, step_group, step_free}
use Rattle.layouts.proofs.parts.whole_of.Goals as goal
use Rattle.layouts.proofs.parts.whole_of.Goals.{In_ok-parts}

-- the octets of the item, and its shape
octets : (c : In_ok-parts) → Octets c.args.s.now
octets c = octets_known c.args.s.now (λ i. omega (arith, c.type_inv.s i))

shaped : (c : In_ok-parts) → shape_of c.args.l c.args.s.now ≡ ok (c.in_ok-parts.parts.count, c.in_ok-parts.parts.long)
shaped c = sym c.in_ok-parts.ensures

walked : (c : In_ok-parts) → run_sound (run_of c.args.l c.in_ok-parts.parts.count) c.args.s.now
walked c = walk _ _ _ _ (shaped c) c.requires (octets c)

pub returns-in_err-parts : goal.returns-in_err-parts
returns-in_err-parts c =
    let p = err_from_is_err_and c.from_residual.result c.from_residual.ensures.1 in
    rw p.1 (rw p.2 (sym (whole_stopped _ _ _ _ (sym c.in_err-parts.ensures))))

pub is_free-requires : goal.is_free-requires
is_free-requires c =
    let at = (goal.at.is_free-requires c).In_ok-parts in
    step_group _ _ _ _ (shaped at) c.requires (octets at) (sym (ap (λ r. r.step) c.of-run.ensures) ∙ c.if-run-eq0.true)

pub returns-then-is_free : goal.returns-then-is_free
returns-then-is_free c =
    let at = (goal.at.returns-then-is_free c).In_ok-parts in
    step_free _ _ _ _ (shaped at) c.requires (octets at) (sym (ap (λ r. r.step) c.of-run.ensures) ∙ c.if-run-eq0.true) c.is_free.ensures c.if-is_free.true

pub is_legal-requires : goal.is_legal-requires
is_legal-requires c = subst (λ r. run_sound r c.args.s.now) (sym c.of-run.ensures) (walked (goal.at.is_legal-requires c).In_ok-parts)

pub fault_at-requires : goal.fault_at-requires
fault_at-requires c = subst (λ r. run_sound r c.args.s.now) (sym c.of-run.ensures) (walked (goal.at.fault_at-requires c).In_ok-parts)

pub returns-then-not-is_legal : goal.returns-then-not-is_legal
returns-then-not-is_legal c =
    let at = (goal.at.returns-then-not-is_legal c).In_ok-parts in
    rw (c.at.ensures.is, c.at.ensures.place)
    (run_barred _ _ _ _ (shaped at) c.requires (octets at) (c.is_legal.ensures ∙ ap (λ r. run_legal r c.args.s.now) c.of-run.ensures) c.if-not-is_legal.true
    (c.fault_at.ensures ∙ ap (λ r. run_fault r c.args.s.now) c.of-run.ensures))

pub returns : goal.returns
returns c =
    let at = (goal.at.returns c).In_ok-parts in
    run_good _ _ _ _ (shaped at) c.requires (octets at) (c.is_legal.ensures ∙ ap (λ r. run_legal r c.args.s.now) c.of-run.ensures) c.if-not-is_legal.false
