-- What the loop keeps.
use Rattle.rules.specs.SheetForm.{form}
use Rattle.viewing.proofs.FieldLaws.{Searched}
use Rattle.viewing.proofs.edition_of.Given as goal

abbrev pub invariant-loop-e : goal.invariant-loop-e
invariant-loop-e l = Searched form.editions l.byte l.e-index
