-- `sheets::offset_code` meets its contract. Assumes nothing.
use mathlib.Core.Path.{◌∙◌, ap, sym}
use mir.Syntax.{w32, w64}
use mir.Val.{to_z, of_z}
use mir.ValLaws.{to_z-of_z}
use Rattle.rules.specs.Answer.{ok}
use Rattle.rules.specs.Merge.{in_range}
use Rattle.sheets.proofs.WriteSteps.{code_no, code_told}
use Rattle.sheets.proofs.offset_code.Goals as goal

pub returns-then-not-offset_ok : goal.returns-then-not-offset_ok
returns-then-not-offset_ok c = code_no c.args.offset (ap in_range (sym (to_z-of_z w64 c.args.offset c.ranges.offset)) ∙ sym c.offset_ok.ensures ∙ c.if-not-offset_ok.true)

pub returns : goal.returns
returns c =
    ap ok (c.cast_unsigned.ensures ∙ ap (λ z. of_z w32 (to_z w32 (of_z w32 z))) (to_z-of_z w64 c.args.offset c.ranges.offset))
    ∙ code_told c.args.offset (ap in_range (sym (to_z-of_z w64 c.args.offset c.ranges.offset)) ∙ sym c.offset_ok.ensures ∙ c.if-not-offset_ok.false)
