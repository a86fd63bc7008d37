-- `tables::profiles::profile_row` meets its contract: each row is the one that the rules' categories give. Assumes nothing.
use mathlib.Core.Path.{refl}
use Rattle.rules.specs.Answer.{when◌then◌else◌}
use Rattle.rules.specs.Presence.{number}
use Rattle.rules.specs.Catalogue.{categories}
use Rattle.tables.specs.Places.{frn_as}
use Rattle.tables.specs.Profiles.{bits_of, profile_row_at}
use Rattle.tables.proofs.ProfileLaws.{row_past}
use Rattle.tables.proofs.profiles.profile_row.Goals as goal

pub returns-then-profile-lt-PROFILES : goal.returns-then-profile-lt-PROFILES
unfolding profile_row_at categories bits_of number frn_as when◌then◌else◌
returns-then-profile-lt-PROFILES c = refl

pub returns : goal.returns
unfolding categories
returns c = row_past _ c.if-profile-lt-PROFILES.false
