-- The flag is 1 where the record is timed. Assumes nothing.
use Rattle.asterix.proofs.StructLaws.{flag_is}
use Rattle.asterix.proofs.MergeHeadFromMergingStanding.from.Goals as goal

pub returns : goal.returns
returns c = rw (c.from.ensures, flag_is c.args.standing.timed)
