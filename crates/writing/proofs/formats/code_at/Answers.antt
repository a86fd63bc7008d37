-- `writing::formats::code_at` meets its contract: the tests of the field's row are those of the rules' `put` (`CodeLaws`). Assumes nothing.
use mathlib.Core.Path.{◌∙◌}
use borrow.Author.Rules.{rules}
use Rattle.rules.proofs.ToldLaws.{refused_as}
use Rattle.writing.proofs.CodeLaws.{Taken, code_none, code_low, code_high, bits_few, shift_some, code_neg, code_pos}
use Rattle.writing.proofs.formats.code_at.Goals as goal
use Rattle.writing.proofs.formats.code_at.Goals.{After-v-1, then-v-f-via-then-v-f, then-v-f-via-else-v-f+then-f-v}

-- the value and the row that the tests look at
taken_at : (c : After-v-1) → Taken c.args.field c.args.values.now c.args.at c.field_at-f.result
taken_at c = record { row = c.field_at-f.ensures; there = c.if-values-at.false; fits = record { sfits = c.v-1.given } }

-- no value
pub returns-then-values-at : goal.returns-then-values-at
returns-then-values-at c = refused_as _ _ _ c.at.ensures.is c.at.ensures.place ∙ code_none c.args.field c.args.values.now c.args.at c.if-values-at.true

-- below the least, or above the greatest
pub returns-then-v-f : goal.returns-then-v-f
returns-then-v-f c =
    let t = taken_at (goal.at.returns-then-v-f c).After-v-1 in
    refused_as _ _ _ c.at-then-v-f.ensures.is c.at-then-v-f.ensures.place
    ∙ elim c.then-v-f.branch [
      | then-v-f-via-then-v-f w ↦ code_low t (search rules) w.if-v-f.true
      | then-v-f-via-else-v-f+then-f-v w ↦ code_high t (search rules) w.if-f-v.true
    ]

pub overflow_shl-result : goal.overflow_shl-result
overflow_shl-result c =
    bits_few (taken_at (goal.at.overflow_shl-result c).After-v-1) c.requires
    (search rules) c.if-v-f.false

pub overflow_sub-result : goal.overflow_sub-result
overflow_sub-result c =
    shift_some (taken_at (goal.at.overflow_sub-result c).After-v-1) c.requires
    (search rules) c.if-v-f.false

pub overflow_sub-result-then-v-lt0 : goal.overflow_sub-result-then-v-lt0
overflow_sub-result-then-v-lt0 c =
    (code_neg (taken_at (goal.at.overflow_sub-result-then-v-lt0 c).After-v-1)
    c.requires (search rules) c.if-v-f.false
    c.if-v-lt0.true c.magnitude.ensures).0

-- negative
pub returns-then-v-lt0 : goal.returns-then-v-lt0
returns-then-v-lt0 c =
    (code_neg (taken_at (goal.at.returns-then-v-lt0 c).After-v-1)
    c.requires (search rules) c.if-v-f.false
    c.if-v-lt0.true c.magnitude.ensures).1

-- not negative
pub returns : goal.returns
returns c =
    code_pos (taken_at (goal.at.returns c).After-v-1)
    c.requires (search rules) c.if-v-f.false
    (search rules) c.if-f-v.false c.if-v-lt0.false c.magnitude-2.ensures
