use Rattle.ctr_value.proofs.PayloadLaws.{row_written}
use Rattle.ctr_value.proofs.payload.written_payload.Goals as goal

pub returns : goal.returns
returns c = row_written
