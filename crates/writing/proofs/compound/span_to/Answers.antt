-- `writing::compound::span_to` meets its contract: so many values are there, or not (`SpanLaws`). Assumes nothing.
use native.Mathlib.Omega.{arith}
use Rattle.writing.proofs.SpanLaws.{span_over, span_within, used_few}
use Rattle.writing.proofs.compound.span_to.Goals as goal

pub overflow_mul-used : goal.overflow_mul-used
overflow_mul-used c = omega (arith, used_few _ _ c.requires.1.0 c.requires.1.1)

-- too few
pub returns-then-have-first : goal.returns-then-have-first
returns-then-have-first c = span_over _ _ _ _ c.requires.0 c.if-have-first.true

pub returns : goal.returns
returns c = span_within _ _ _ _ c.requires.0 c.if-have-first.false
