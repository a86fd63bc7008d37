-- `compounds::fields::count_store` meets its contract. Assumes nothing.
use mathlib.Core.Path.{◌∙◌}
use mir.Syntax.{w64}
use mir.ValLaws.{to_z-of_z}
use Rattle.compounds.proofs.FieldLaws.{no_count, no_octet, counted, stored_none, stored_one}
use borrow.Author.Rules.{rules}
use Rattle.compounds.proofs.fields.count_store.Goals as goal

pub returns-then-not-sub : goal.returns-then-not-sub
returns-then-not-sub c = stored_none c.args.start c.args.out.now _ (no_count c.args.sub c.args.kind c.args.parts c.if-not-sub.true)

pub returns-then-not-is_counted : goal.returns-then-not-is_counted
returns-then-not-is_counted c = stored_none c.args.start c.args.out.now _ (no_octet c.args.sub c.args.kind c.args.parts c.is_counted.ensures c.if-not-is_counted.true)

pub returns : goal.returns
returns c = stored_one c.args.start c.args.out.now _ _ (counted c.args.sub c.args.kind c.args.parts c.if-not-sub.false c.is_counted.ensures c.if-not-is_counted.false (to_z-of_z w64 c.up.result (search rules) ∙ c.up.ensures))
