-- `run::first_by` meets its contract: each way out is a case of the rule. Assumes nothing.
use Rattle.merging.proofs.WhichLaws.{neither, only_a, only_b, untimed_a, untimed_b, timed_near, timed_far}
use Rattle.merging.proofs.run.first_by.Goals as goal

pub returns-then-not-b : goal.returns-then-not-b
returns-then-not-b c = neither c.args.turn c.args.a c.args.b c.if-not-a.true c.if-not-b.true

pub returns-then-not-a : goal.returns-then-not-a
returns-then-not-a c = only_b c.args.turn c.args.a c.args.b c.if-not-a.true c.if-not-b.false

pub returns-then-not-b-2 : goal.returns-then-not-b-2
returns-then-not-b-2 c = only_a c.args.turn c.args.a c.args.b c.if-not-a.false c.if-not-b-2.true

pub returns-then-not-a-2 : goal.returns-then-not-a-2
returns-then-not-a-2 c = untimed_a c.args.turn c.args.a c.args.b c.if-not-a.false c.if-not-b-2.false c.if-not-a-2.true

pub returns-then-not-b-3 : goal.returns-then-not-b-3
returns-then-not-b-3 c = untimed_b c.args.turn c.args.a c.args.b c.if-not-a.false c.if-not-b-2.false c.if-not-a-2.false c.if-not-b-3.true

pub returns-then-gap-le5529600 : goal.returns-then-gap-le5529600
returns-then-gap-le5529600 c = timed_near c.args.turn c.args.a c.args.b c.if-not-a.false c.if-not-b-2.false c.if-not-a-2.false c.if-not-b-3.false c.if-gap-le5529600.true

pub returns : goal.returns
returns c = timed_far c.args.turn c.args.a c.args.b c.if-not-a.false c.if-not-b-2.false c.if-not-a-2.false c.if-not-b-3.false c.if-gap-le5529600.false
