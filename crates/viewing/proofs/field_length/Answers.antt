-- `viewing::field_length` meets its contract. Assumes nothing.
use mathlib.Core.Path.{◌∙◌}
use native.Mathlib.Omega.{arith}
use Rattle.viewing.proofs.FieldLaws.{field_cut, field_head, field_none, field_number, field_tag, field_whole}
use Rattle.viewing.proofs.field_length.Goals as goal

pub returns-in-empty : goal.returns-in-empty
returns-in-empty c = field_none _ _ (omega arith)

pub returns-in_default : goal.returns-in_default
returns-in_default c = field_head _ _ (λ q. omega (arith, q)) (omega arith)

pub returns-then-body-n : goal.returns-then-body-n
returns-then-body-n c = field_cut _ _ _ (omega arith) (c.from-n.ensures ∙ c.from_be_bytes.ensures ∙ field_number c.args.bs.now) (omega (arith, c.if-body-n.true))

pub returns-then-found-tag : goal.returns-then-found-tag
returns-then-found-tag c = field_tag _ _ _ (omega arith) (c.from-n.ensures ∙ c.from_be_bytes.ensures ∙ field_number c.args.bs.now) (omega (arith, c.if-body-n.false)) c.if-found-tag.true

pub returns-else-found-tag : goal.returns-else-found-tag
returns-else-found-tag c = field_whole _ _ _ (omega arith) (c.from-n.ensures ∙ c.from_be_bytes.ensures ∙ field_number c.args.bs.now) (omega (arith, c.if-body-n.false)) c.if-found-tag.false
