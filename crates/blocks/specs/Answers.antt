-- What each answer of this crate says, in the rules' words: a refusal's number and place (document 01, "Refusal numbers and their order"), or what
-- was found. Assumes nothing.
use Rattle.std.specs.Prelude.{ℕ, Result}
use Rattle.rules.specs.Answer.{Answer}
use Rattle.rules.specs.Block as rules
use Rattle.rules.specs.Told.{told, told_as, begun_as}
use Rattle.rules.specs.declared.faults.Fault.{Fault}
use Rattle.rules.specs.declared.faults.Refusal.{Refusal}
use Rattle.sets.specs.Sets.{category_at}
use Rattle.blocks.specs.declared.heads.Head.{Head}
use Rattle.blocks.specs.declared.check.Opened.{Opened}
use Rattle.blocks.specs.declared.check.Front as code
use Rattle.blocks.specs.Read.{Opening, Front, opening}

-- ---- a head

abbrev pub head_said : Head → rules.Head
head_said h = record { category = category_at h.profile; len = h.len }

abbrev pub head_of : Result Head Fault → Answer rules.Head
head_of r = begun_as head_said r

-- ---- a check

abbrev pub checked_of : Result ℕ Refusal → Answer ℕ
checked_of r = told r

abbrev pub opened_said : Opened → Opening
opened_said o = opening (category_at o.profile) o.records

abbrev pub opened_of : Result Opened Refusal → Answer Opening
opened_of r = told_as opened_said r

abbrev pub front_said : code.Front → Front
front_said f = record { len = f.len; records = f.records }

abbrev pub front_of : Result code.Front Refusal → Answer Front
front_of r = told_as front_said r
