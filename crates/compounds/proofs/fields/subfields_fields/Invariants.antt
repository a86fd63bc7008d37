-- What the loop keeps.
use Prim.Native.Nat.{◌+◌, ◌-◌}
use mathlib.Core.Path.{◌≡◌}
use Rattle.rules.specs.Answer.{ok}
use Rattle.rules.specs.Presence.{flags}
use Rattle.compounds.specs.Compound.{Told, subfields_read}
use Rattle.compounds.proofs.FieldLaws.{Listing}
use Rattle.compounds.proofs.fields.subfields_fields.Given as goal

abbrev pub invariant-loop-i : goal.invariant-loop-i
invariant-loop-i l =
    (y : Told) × (subfields_read l.first (flags l.places l.bits) l.s ≡ ok y)
    × Listing l.first l.places l.s l.initial.out y l.i (l.first + l.places - l.i) l.left l.at l.next l.out
