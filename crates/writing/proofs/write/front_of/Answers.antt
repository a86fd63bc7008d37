-- `writing::write::front_of` meets its contract: the last value is found from the end (`AbsentLaws`). Assumes nothing.
use Rattle.std.proofs.Common.{rules}
use Rattle.writing.proofs.AbsentLaws.{front_last, front_none}
use Rattle.writing.proofs.write.front_of.Goals as goal

pub returns-in-Some : goal.returns-in-Some
returns-in-Some c = front_last c.args.fields.now c.in-Some.last (search rules) (search rules) (search rules)

pub returns-in-None : goal.returns-in-None
returns-in-None c = front_none c.args.fields.now (search rules)
