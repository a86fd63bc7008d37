-- `tables::field_rules::pow2` meets its contract. Assumes nothing.
use native.Mathlib.Nat.{one-mul, mod-eq_of_lt}
use lib.Pow.{pow-lt}
use Rattle.tables.proofs.field_rules.pow2.Goals as goal

pub returns : goal.returns
returns c = rw one-mul (mod-eq_of_lt (pow-lt c.requires))
