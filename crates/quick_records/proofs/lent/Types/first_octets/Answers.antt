-- `quick_records::lent::Types::first_octets` meets its contract. Assumes nothing.
use mathlib.Core.Path.{sym}
use Rattle.quick_records.proofs.RecordLaws.{sum_read}
use Rattle.quick_records.proofs.lent.Types.first_octets.Goals as goal

pub returns : goal.returns
returns c =
    let r = sum_read c.args.self.now.octets.now _ c.args.self.now.sound c.requires.0 _ _ c.requires.1 (sym c.octet-octets.ensures.0) c.if-octets-eq0.false in
    (c.octet-octets.ensures.1, r.0, r.1)
