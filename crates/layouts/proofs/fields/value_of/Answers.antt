-- `layouts::fields::value_of` meets its contract: each `return` is a case of `value_of`. Assumes nothing.
use mathlib.Core.Path.{sym, ◌∙◌, ap}
use Prim.Native.Nat.{◌-◌, ◌^◌}
use native.Mathlib.Omega.{arith}
use mir.Syntax.{w64}
use mir.ValLaws.{to_z-of_z}
use lib.Pow.{pow_pos}
use lib.IntN.{negsuc}
use denote.Enum.Bare.{differs_true, differs_false}
use Rattle.tables.specs.contracts.tables.Holds.{the_type}
use Rattle.tables.specs.declared.tables.Holds.TheVariants.{Twos}
use Rattle.tables.proofs.KindLaws.{holds_same, holds_other}
use Rattle.layouts.proofs.FieldCodes.{below63, value_plain, value_low, value_high}
use Rattle.layouts.proofs.fields.value_of.Goals as goal

pub up-requires : goal.up-requires
up-requires c =
    below63 _ _ c.requires.le_bits.1 c.requires.code_bound

pub returns-then-ne : goal.returns-then-ne
returns-then-ne c =
    to_z-of_z w64 _ (record { sfits = c.up.type_inv }) ∙ c.up.ensures ∙ sym (value_plain c.args.f c.args.code (holds_other _ Twos (differs_true the_type _ _ (sym c.ne.ensures ∙ c.if-ne.true))))

pub up-requires-then-code-pow2 : goal.up-requires-then-code-pow2
up-requires-then-code-pow2 c =
    below63 _ _ c.requires.le_bits.1 c.requires.code_bound

pub returns-then-code-pow2 : goal.returns-then-code-pow2
returns-then-code-pow2 c =
    to_z-of_z w64 _ (record { sfits = c.up-then-code-pow2.type_inv }) ∙ c.up-then-code-pow2.ensures
    ∙ sym (value_low c.args.f c.args.code (omega (arith, c.if-code-pow2.true, c.pow2.ensures)))

pub down-requires : goal.down-requires
down-requires c =
    omega (arith, c.pow2-2.ensures, below63 c.args.f.bits (2 ^ c.args.f.bits - 1) c.requires.le_bits.1 (omega (arith, pow_pos c.args.f.bits)))

pub returns : goal.returns
returns c =
    to_z-of_z w64 _ (record { sfits = c.down.type_inv }) ∙ c.down.ensures ∙ ap negsuc (omega (arith, c.pow2-2.ensures))
    ∙ sym (value_high c.args.f c.args.code (holds_same _ Twos (differs_false the_type tt _ _ (sym c.ne.ensures ∙ c.if-ne.false))) (omega (arith, c.if-code-pow2.false, c.pow2.ensures)))
