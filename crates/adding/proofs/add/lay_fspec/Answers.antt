-- `add::lay_fspec` meets its contract. The loop's invariant: so many octets are laid. Assumes nothing.
use native.Mathlib.Omega.{arith}
use Rattle.adding.proofs.AddLaws.{lay_start, lay_length, lay_again, lay_end}
use Rattle.adding.proofs.add.lay_fspec.Goals as goal

pub loop-k-init : goal.loop-k-init
loop-k-init c = lay_start _ _ _ c.requires

pub overflow_add-out : goal.overflow_add-out
overflow_add-out c = omega (arith, c.fspec_octets-k-end.ensures)

pub bounds-out-at : goal.bounds-out-at
bounds-out-at c = omega (arith, c.fspec_octets-k-end.ensures, lay_length c.loop-k.invariant)

pub loop-k-preserved : goal.loop-k-preserved
loop-k-preserved c = lay_again c.loop-k.invariant (omega (arith, c.fspec_octets-k-end.ensures)) c.fspec_octet.ensures

pub shape_of-out : goal.shape_of-out
shape_of-out c = lay_length c.loop-k.invariant

pub returns : goal.returns
returns c = lay_end c.loop-k.invariant (omega (arith, c.fspec_octets-k-end.ensures, c.loop-k.auto.k-end))
