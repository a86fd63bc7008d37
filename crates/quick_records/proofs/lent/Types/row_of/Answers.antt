-- `quick_records::lent::Types::row_of` meets its contract: the table's row is the rules' row. Assumes nothing.
use Prim.Native.Nat.{◌+◌, ◌*◌}
use mathlib.Core.Path.{ap, ◌∙◌}
use native.Mathlib.Omega.{arith}
use lib.ListN.{get_or}
use Rattle.quick_records.specs.Record.{kind_count}
use Rattle.quick_records.proofs.RecordLaws.{typed_known}
use Rattle.quick_records.proofs.lent.Types.row_of.Goals as goal

pub returns : goal.returns
returns c =
    typed_known c.args.self.now.octets.now _ c.args.self.now.sound c.requires _ _ (omega (arith, c.octet-number.ensures.0, c.if-number-ge-KINDS.false))
    (c.octet.ensures.0 ∙ ap (λ x. get_or c.args.self.now.octets.now (c.args.profile * kind_count + x) 0) c.octet-number.ensures.0)
