-- `layouts::parts::number_of` meets its contract: what was gathered is the number of the octets passed. Assumes nothing.
use native.Mathlib.Omega.{arith}
use Rattle.layouts.proofs.OctetLaws.{begun, gathered, more_fits, times_fits, all_read}
use Rattle.layouts.proofs.parts.number_of.Goals as goal

pub loop-x-init : goal.loop-x-init
loop-x-init c = begun _

pub overflow_mul-n : goal.overflow_mul-n
overflow_mul-n c = record { fits = times_fits _ _ c.loop-x.invariant.small (omega arith) }

pub overflow_add-n : goal.overflow_add-n
overflow_add-n c = record { fits = more_fits _ _ _ (omega arith) c.loop-x.invariant.small c.wide.ensures.1 }

pub loop-x-preserved : goal.loop-x-preserved
loop-x-preserved c = gathered _ _ _ _ c.loop-x.invariant c.loop-x-test.true c.wide.ensures

pub returns : goal.returns
returns c = all_read _ _ _ c.loop-x.invariant c.loop-x-test.false
