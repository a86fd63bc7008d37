-- `record::octets_at` meets its contract: the word of the item says what its layout has, or that its check is to say it. Assumes nothing.
use Prim.Native.Nat.{◌<◌}
use mathlib.Core.Path.{◌≡◌, ap, ◌∙◌, subst}
use native.Mathlib.Omega.{arith}
use lib.ListN.{get_or, drop}
use Rattle.std.specs.Prelude.{unwrap_or}
use Rattle.quick_items.proofs.ItemLaws.{kind_digit, octet_at, asked_octets, free_octets, extended_octets, counted_octets}
use Rattle.sets.proofs.SetLaws.{octets_all}
use Rattle.quick_items.specs.Item.{kind_by}
use Rattle.items.specs.Answers.{check_at}
use Rattle.measuring.proofs.EndLaws.{first_at, size_or}
use Rattle.measuring.proofs.record.octets_at.Goals as goal
use Rattle.measuring.proofs.record.octets_at.Goals.{After-octet_at-x, After-word_of-w}

few : (c : After-word_of-w) → get_or (drop c.args.at c.args.part.now) 0 0 < 256
few c =
    subst (λ x. x < 256) (first_at c.args.part.now c.args.at)
    (octet_at c.args.part.now (octets_all c.args.part.now c.type_inv.part) _)

pub returns-then-w-eq0 : goal.returns-then-w-eq0
returns-then-w-eq0 c =
    c.unwrap_or.ensures
    ∙ ap (λ x. unwrap_or x 0) c.asked_octets.ensures
    ∙ size_or (check_at c.args.profile c.args.frn (drop c.args.at c.args.part.now))
    ∙ asked_octets _ _ _ c.new.ensures c.word_of-w.ensures _ c.if-w-eq0.true

pub returns-then-w-lt8 : goal.returns-then-w-lt8
returns-then-w-lt8 c = free_octets _ _ _ c.new.ensures c.word_of-w.ensures _ (few (goal.at.returns-then-w-lt8 c).After-word_of-w) (omega (arith, c.if-w-eq0.false)) c.if-w-lt8.true

-- the first octet, as it was read
first_is : (c : After-octet_at-x)
    → c.octet_at-x.result ≡ get_or (drop c.args.at c.args.part.now) 0 0
first_is c = c.octet_at-x.ensures.0 ∙ first_at c.args.part.now c.args.at

pub returns-in-Extended : goal.returns-in-Extended
returns-in-Extended c = extended_octets _ _ _ c.new.ensures c.word_of-w.ensures _ (few (goal.at.returns-in-Extended c).After-word_of-w) (omega (arith, c.if-w-lt8.false)) (first_is (goal.at.returns-in-Extended c).After-octet_at-x) (kind_digit _ c.in-Extended.ensures (omega arith))

pub returns-in_default : goal.returns-in_default
returns-in_default c = counted_octets _ _ _ c.new.ensures c.word_of-w.ensures _ (few (goal.at.returns-in_default c).After-word_of-w) (omega (arith, c.if-w-lt8.false)) (first_is (goal.at.returns-in_default c).After-octet_at-x) (λ e. c.in_default.not-Extended (c.kind_of.ensures ∙ ap kind_by e))
