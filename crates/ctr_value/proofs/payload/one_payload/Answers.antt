use Rattle.ctr_value.proofs.PayloadLaws.{one_row}
use Rattle.ctr_value.proofs.payload.one_payload.Goals as goal

pub returns : goal.returns
returns c = one_row
