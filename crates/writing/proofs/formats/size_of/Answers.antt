-- `writing::formats::size_of` meets its contract: the count of the parts, and the tests that led to each `return` (`RowLaws`). Assumes nothing.
use mathlib.Core.Path.{◌∙◌}
use native.Mathlib.Omega.{arith}
use Rattle.rules.proofs.ToldLaws.{refused_as, handed}
use Rattle.writing.proofs.RowLaws.{size_no, size_short, size_few, size_yes}
use Rattle.writing.proofs.formats.size_of.Goals as goal

-- too few parts
pub returns-then-count-l : goal.returns-then-count-l
returns-then-count-l c = refused_as _ _ _ c.at.ensures.is c.at.ensures.place ∙ size_few _ _ _ _ c.in_ok-count.ensures c.row-l.ensures c.if-count-l.true

pub overflow_add-result : goal.overflow_add-result
overflow_add-result c = omega (arith, size_short _ _ _ _ c.in_ok-count.ensures, c.head_size.ensures.0)

-- as it was handed back
pub returns-in_err-count : goal.returns-in_err-count
returns-in_err-count c = handed _ _ c.from_residual.ensures.1 ∙ size_no _ _ c.in_err-count.ensures

pub returns : goal.returns
returns c =
    size_yes _ _ _ _ c.in_ok-count.ensures c.row-l.ensures c.if-count-l.false c.head_size.ensures.1
