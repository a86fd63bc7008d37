-- `layouts::parts::list_of` meets its contract: each `return` is a case of `list_shape`. Assumes nothing.
use Prim.Native.Nat.{◌*◌, ◌≤◌}
use mathlib.Core.Path.{sym, ◌∙◌, subst}
use native.Mathlib.Omega.{arith}
use native.Mathlib.Nat.{mul-le-mul}
use Rattle.rules.proofs.ToldLaws.{refused_as}
use Rattle.layouts.proofs.ShapeLaws.{rowed, list_group, list_cut, list_few, list_many, list_there}
use Rattle.layouts.proofs.parts.list_of.Goals as goal
use Rattle.layouts.proofs.parts.list_of.Goals.{After-size_at, then-n-l-via-then-n-l, then-n-l-via-else-n-l+then-l-n}

-- the parts are few octets
small : (c : After-size_at) → c.args.n * c.size_at.result ≤ 255 * 8
small c =
    let g = list_group c.args.l (rowed _ c.requires.0) c.requires.1 in
    mul-le-mul c.requires.2 (subst (λ m. m ≤ 8) (sym c.size_at.ensures) g.sound.short)

pub size_at-requires : goal.size_at-requires
size_at-requires c = (list_group c.args.l (rowed _ c.requires.0) c.requires.1).inside

pub overflow_mul-long : goal.overflow_mul-long
overflow_mul-long c = omega (arith, small (goal.at.overflow_mul-long c).After-size_at)

pub overflow_add-long : goal.overflow_add-long
overflow_add-long c = omega (arith, small (goal.at.overflow_add-long c).After-size_at)

pub returns-then-have-long : goal.returns-then-have-long
returns-then-have-long c = refused_as _ _ _ c.at.ensures.is c.at.ensures.place ∙ list_cut _ _ _ _ _ c.size_at.ensures c.if-have-long.true

pub returns-then-n-l : goal.returns-then-n-l
returns-then-n-l c =
    refused_as _ _ _ c.at-then-n-l.ensures.is c.at-then-n-l.ensures.place
    ∙ elim c.then-n-l.branch [
      | then-n-l-via-then-n-l w ↦ list_few _ _ _ _ _ c.size_at.ensures c.if-have-long.false w.if-n-l.true
      | then-n-l-via-else-n-l+then-l-n w ↦ list_many _ _ _ _ _ c.size_at.ensures c.if-have-long.false w.if-n-l.false w.if-l-n.true
    ]

pub returns : goal.returns
returns c = list_there _ _ _ _ _ c.size_at.ensures c.if-have-long.false c.if-n-l.false c.if-l-n.false
