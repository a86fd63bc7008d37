-- `laying::put_mark` meets its contract. Assumes nothing.
use mathlib.Core.Path.{◌∙◌, ap}
use borrow.Author.Rules.{rules}
use lib.Seq.{sets}
use Rattle.laying.proofs.PutLaws.{mark_own, mark_whole}
use Rattle.laying.proofs.put_mark.Goals as goal

pub returns-in-Whole : goal.returns-in-Whole
returns-in-Whole c = c.put.ensures ∙ ap (sets c.args.out.now c.args.at) (mark_whole c.args.shape c.args.m c.to_be_bytes.result c.in-Whole.is (search rules) c.to_be_bytes.ensures)

pub returns-in-InLog : goal.returns-in-InLog
returns-in-InLog c = c.put-in-InLog.ensures ∙ ap (sets c.args.out.now c.args.at) (mark_own c.args.shape c.args.m c.to_be_bytes.result _ c.in-InLog.is (search rules) c.to_be_bytes.ensures)
