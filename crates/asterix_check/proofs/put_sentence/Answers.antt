-- `put_sentence` meets its contract: the five texts, one after another. Assumes nothing.
use Rattle.asterix_check.proofs.VerdictLaws.{put_five}
use Rattle.asterix_check.proofs.put_sentence.Goals as goal

pub returns : goal.returns
returns c = put_five _ _ _ _ _ _ c.put_text-a.ensures c.put_decimal-b.ensures c.put_text-c.ensures c.put_decimal-d.ensures c.put_text.ensures
