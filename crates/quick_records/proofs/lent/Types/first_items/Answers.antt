-- `quick_records::lent::Types::first_items` meets its contract. Assumes nothing.
use mathlib.Core.Path.{◌∙◌}
use Rattle.quick_records.proofs.RecordLaws.{front_there, front_read, place_read_lem}
use Rattle.quick_records.proofs.lent.Types.first_items.Goals as goal

pub returns : goal.returns
returns c =
    let ts = c.args.self.now.octets.now in
    let h = c.if-profile-ge-PROFILES.false in
    let e = c.octet-octets.ensures.0 in
    let n = c.if-octets-eq0.false in
    (h, front_there ts _ c.args.self.now.sound h e n, front_read ts _ c.args.self.now.sound h e n, c.octet-kind.ensures.0 ∙ place_read_lem ts _ c.args.self.now.sound h e n)
