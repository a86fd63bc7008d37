-- What the loop keeps.
use Rattle.rules.specs.Catalogue.{categories}
use Rattle.tables.proofs.ProfileLaws.{Seeking}
use Rattle.tables.proofs.profiles.profile_of.Given as goal

abbrev pub invariant-loop-profile : goal.invariant-loop-profile
invariant-loop-profile l = Seeking l.cat categories l.profile
