-- `compounds::primary::before` meets its contract: each `return` is a case of `before_of`. Assumes nothing.
use mathlib.Core.Bool.{not}
use mathlib.Core.Path.{refl, ap}
use native.Mathlib.Omega.{arith}
use borrow.Author.Rules.{rules}
use Rattle.compounds.proofs.PrimaryLaws.{raised_fits, before_unknown, before_whole}
use Rattle.compounds.proofs.primary.before.Goals as goal

pub returns-then-not-is_known : goal.returns-then-not-is_known
returns-then-not-is_known c = before_unknown _ _ _ _ _ refl c.is_known.ensures (ap not c.if-not-is_known.true)

pub overflow_add-result : goal.overflow_add-result
overflow_add-result c = record { fits = omega (arith, c.raised.ensures, c.requires.2.0, raised_fits c.args.x c.args.left (search rules) c.requires.1) }

pub overflow_add-result-2 : goal.overflow_add-result-2
overflow_add-result-2 c = record { fits = omega (arith, c.requires.2.1, c.requires.1) }

pub returns : goal.returns
returns c = before_whole _ _ _ _ _ refl c.is_known.ensures (ap not c.if-not-is_known.false) c.raised.ensures
