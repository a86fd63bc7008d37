-- `tables::profiles::profile_of` meets its contract: the search from an index on says what the whole search says. Assumes nothing.
use mathlib.Core.Path.{sym, ◌∙◌}
use Rattle.rules.specs.Answer.{when◌then◌else◌}
use Rattle.rules.specs.Presence.{number}
use Rattle.rules.specs.Catalogue.{categories}
use Rattle.tables.specs.Places.{frn_as}
use Rattle.tables.specs.Profiles.{bits_of, profile_row_at}
use Rattle.tables.proofs.ProfileLaws.{row_cat, seek_first, seek_found, seek_next, seek_end}
use Rattle.tables.proofs.profiles.profile_of.Goals as goal

pub loop-profile-init : goal.loop-profile-init
loop-profile-init c = seek_first _ _

pub returns-then-row-cat : goal.returns-then-row-cat
unfolding profile_row_at categories bits_of number frn_as when◌then◌else◌
returns-then-row-cat c = seek_found c.loop-profile.invariant c.loop-profile-test.true (sym (row_cat c.loop-profile.profile) ∙ c.if-row-cat.true)

pub loop-profile-preserved : goal.loop-profile-preserved
unfolding profile_row_at categories bits_of number frn_as when◌then◌else◌
loop-profile-preserved c = seek_next c.loop-profile.invariant c.loop-profile-test.true (λ e. c.if-row-cat.false (row_cat c.loop-profile.profile ∙ e))

pub returns : goal.returns
unfolding categories
returns c = seek_end c.loop-profile.invariant c.loop-profile-test.false
