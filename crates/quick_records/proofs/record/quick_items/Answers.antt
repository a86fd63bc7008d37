-- `quick_records::record::quick_items` meets its contract. Assumes nothing.
use mathlib.Core.Path.{refl}
use Rattle.sets.proofs.SetLaws.{octets_all}
use Rattle.quick_records.proofs.RecordLaws.{pass_three, pass_seven}
use Rattle.quick_records.proofs.record.quick_items.Goals as goal

pub returns-in_default : goal.returns-in_default
returns-in_default c = pass_three _ _ _ c.requires.0 c.requires.1 (octets_all c.args.part.now c.type_inv.part) c.requires.3 _ _ c.requires.2 c.if-part-front.false c.in_ok-later.ensures

pub returns : goal.returns
returns c =
    pass_seven _ _ _ c.requires.0 c.requires.1 (octets_all c.args.part.now c.type_inv.part) c.requires.3 _ _ refl c.in-Some.ensures.1 c.in-Some.ensures.2 c.if-part-octets.false _ c.in_ok-later-2.ensures
