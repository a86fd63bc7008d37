-- `compounds::fields::is_counted` meets its contract. Assumes nothing.
use Rattle.compounds.proofs.FieldLaws.{one_octet, other_octet}
use Rattle.compounds.proofs.fields.is_counted.Goals as goal

pub returns-in-Repeated : goal.returns-in-Repeated
returns-in-Repeated c = one_octet _ c.in-Repeated.is

pub returns-in_default : goal.returns-in_default
returns-in_default c = other_octet _ c.in_default.not-Repeated c.in_default.not-Led
