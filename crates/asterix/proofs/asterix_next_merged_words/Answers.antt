-- `asterix_next_merged_words` meets its contract. Assumes nothing.
use Rattle.asterix.proofs.MergeLaws.{next_made}
use Rattle.asterix.proofs.asterix_next_merged_words.Goals as goal

pub returns : goal.returns
returns c =
    let told = next_made c.args.merge _ c.from.ensures _ _ _ _ _ _ _ c.next_records-ran.ensures.answer c.next_records-ran.ensures.left c.from-2.ensures in
    record { answer = told.0; left = told.1 }
