-- `layouts::parts::Run::rest` meets its contract. Assumes nothing.
use native.Mathlib.Omega.{arith}
use Rattle.tables.proofs.TableLaws.{groups_few}
use Rattle.layouts.proofs.parts.Run.rest.Goals as goal

pub overflow_add-result-2 : goal.overflow_add-result-2
overflow_add-result-2 c = record { fits = omega (arith, groups_few) }
