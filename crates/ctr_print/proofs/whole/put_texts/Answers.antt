use Rattle.ctr_print.proofs.Joins.{both}
use Rattle.ctr_print.proofs.whole.put_texts.Goals as goal

pub returns : goal.returns
returns g c = both c.put_transcript.ensures c.put_last_line.ensures
