-- The flag is 1 where the marks are split by log. Assumes nothing.
use Rattle.asterix.proofs.StructLaws.{flag_is}
use Rattle.asterix.proofs.sheet.MarksFromLists.from.Goals as goal

pub returns : goal.returns
returns c = rw (c.from.ensures, flag_is c.args.lists.split)
