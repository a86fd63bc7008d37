-- The struct that the code makes of a step in hand, by its cases, is the struct of the rule's step. Assumes nothing.
use mathlib.Core.Path.{◌≡◌, sym, ap, ◌∙◌}
use Rattle.std.specs.Prelude.{Result, Option}
use Rattle.rules.specs.declared.faults.Refusal.{Refusal}
use Rattle.walking.specs.declared.Cursor.{Cursor}
use Rattle.walking.specs.declared.Met as code
use Rattle.walking.specs.Met.{Walked}
use Rattle.walking.specs.Answers.{walked_of}
use Rattle.asterix.specs.Answers.{met_by, record_met}

-- r is what the code has from a cursor, w what the rule has, and y the case of r
pub record_met_lem : {r y : Result (Option code.Met) Refusal} (k : Cursor) (w : Walked) → walked_of k r ≡ w → r ≡ y → met_by (walked_of k y).met (walked_of k y) ≡ record_met w
unfolding record_met
record_met_lem k w h e = ap (λ x. met_by (walked_of k x).met (walked_of k x)) (sym e) ∙ ap record_met h
