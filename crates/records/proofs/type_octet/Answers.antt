-- `records::type_octet` meets its contract. Assumes nothing.
use mathlib.Core.Path.{◌≡◌, refl, sym}
use lib.ListN.{get_or}
use native.Mathlib.Omega.{arith}
use borrow.Author.Tests.{eq-eqb, ne_eqb}
use Rattle.std.proofs.lemmas.Grind.{common_steps}
use Rattle.rules.proofs.AnswerLaws.{if_true, if_false}
use Rattle.records.proofs.type_octet.Goals as goal

pub returns-then-frn-of : goal.returns-then-frn-of
returns-then-frn-of c =
    let e : get_or c.args.item.now 0 0 ≡ c.unwrap_or.result = grind (arith, common_steps) in
    sym (if_true _ (eq-eqb _ _ c.if-frn-of.true) e)

pub returns-else-frn-of : goal.returns-else-frn-of
returns-else-frn-of c = sym (if_false _ (ne_eqb _ _ c.if-frn-of.false) refl)
