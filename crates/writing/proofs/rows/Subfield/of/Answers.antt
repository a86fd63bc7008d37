-- `writing::rows::Subfield::of` meets its contract: the subfields of the tables are of these kinds. Assumes nothing.
use Rattle.writing.proofs.BitTurns.{kind_few}
use Rattle.writing.proofs.rows.Subfield.of.Goals as goal

pub invariant_of-result-2 : goal.invariant_of-result-2
invariant_of-result-2 c = record { plain = kind_few _ c.subfield_at.ensures.0 }
