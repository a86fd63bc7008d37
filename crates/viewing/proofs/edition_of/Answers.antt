-- `viewing::edition_of` meets its contract: the rows, one after another. Assumes nothing.
use Rattle.rules.specs.SheetForm.{form}
use Rattle.viewing.proofs.FieldLaws.{no_edition, searched_all, searched_here, searched_more}
use mathlib.Core.Path.{refl}
use Rattle.viewing.proofs.edition_of.Goals as goal

pub returns-then-e-byte : goal.returns-then-e-byte
returns-then-e-byte c = searched_here form.editions _ _ _ no_edition c.loop-e.invariant c.loop-e-test.true refl c.if-e-byte.true

pub loop-e-preserved : goal.loop-e-preserved
loop-e-preserved c = searched_more form.editions _ _ _ no_edition c.loop-e.invariant c.loop-e-test.true refl c.if-e-byte.false

pub returns : goal.returns
returns c = searched_all form.editions _ _ c.loop-e.invariant c.loop-e-test.false
