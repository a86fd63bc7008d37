-- `writing::formats::lay_number` meets its contract. The loop's invariant: so many octets are laid (`PartLaws`). Assumes nothing.
use Prim.Native.Nat.{◌+◌, ◌-◌}
use mathlib.Core.Path.{ap}
use lib.ListN.{get_or}
use Rattle.writing.proofs.PartLaws.{laying, laid, all_laid}
use Rattle.writing.proofs.formats.lay_number.Goals as goal

pub loop-k-init : goal.loop-k-init
loop-k-init c = laying _ _ _ _ c.requires.size_in_bounds

pub loop-k-preserved : goal.loop-k-preserved
loop-k-preserved c = laid c.loop-k.invariant c.requires.size_bound.0 c.requires.size_bound.1 c.loop-k-test.true (ap (λ s. get_or s (8 - c.args.size + c.loop-k.k) 0) c.to_be_bytes.ensures)

pub returns : goal.returns
returns c = all_laid c.loop-k.invariant c.loop-k-test.false
