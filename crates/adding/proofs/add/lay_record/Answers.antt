-- `add::lay_record` meets its contract: LEN, then the FSPEC, then the items. The loop's invariant: so many items' octets are laid. Assumes nothing.
use mathlib.Core.Path.{refl, ap, ap₂, ◌∙◌}
use native.Mathlib.Omega.{arith}
use lib.ListN.{length}
use lib.Seq.{paste}
use Rattle.sets.specs.Sets.{fspec_at}
use Rattle.adding.proofs.AddLaws.{lay_start, lay_again, lay_end}
use Rattle.adding.proofs.add.lay_record.Goals as goal

pub loop-k-init : goal.loop-k-init
loop-k-init c = lay_start _ _ _ (omega (arith, c.requires.2, c.requires.3, c.lay_len.auto.out, c.lay_fspec.auto.out))

pub loop-k-preserved : goal.loop-k-preserved
loop-k-preserved c = lay_again c.loop-k.invariant c.loop-k-test.true refl

pub returns : goal.returns
returns c =
    lay_end c.loop-k.invariant c.loop-k-test.false
    ∙ ap₂ (λ z k. paste z k c.args.items.now (length c.args.items.now))
    (c.lay_fspec.ensures ∙ ap (λ z. paste z c.args.used (fspec_at c.args.profile c.args.set.bits) (length (fspec_at c.args.profile c.args.set.bits))) c.lay_len.ensures) (omega (arith, c.requires.3))
