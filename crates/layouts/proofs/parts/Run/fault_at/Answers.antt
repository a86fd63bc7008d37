-- `layouts::parts::Run::fault_at` meets its contract: whichever field is at fault, the refusal is at the item's start. Assumes nothing.
use mathlib.Core.Path.{refl}
use Rattle.layouts.specs.Read.{fault_at}
use Rattle.layouts.proofs.parts.Run.fault_at.Goals as goal

pub returns : goal.returns
unfolding fault_at
returns c = refl
