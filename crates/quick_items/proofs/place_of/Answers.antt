-- `quick_items::place_of` meets its contract: by the tests that led to each answer. Assumes nothing.
use Rattle.quick_items.proofs.ItemLaws.{place_past, place_beyond, place_is}
use Rattle.quick_items.proofs.place_of.Goals as goal

pub returns-then-profile-ge-PROFILES : goal.returns-then-profile-ge-PROFILES
returns-then-profile-ge-PROFILES c = place_past _ _ c.if-profile-ge-PROFILES.true

pub returns-then-frn-ge-FRNS : goal.returns-then-frn-ge-FRNS
returns-then-frn-ge-FRNS c = place_beyond _ _ c.if-profile-ge-PROFILES.false c.if-frn-ge-FRNS.true

pub returns : goal.returns
returns c = place_is _ _ c.if-profile-ge-PROFILES.false c.if-frn-ge-FRNS.false
