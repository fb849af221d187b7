use Rattle.ctr_value.proofs.ValueLaws.{row_said}
use Rattle.ctr_value.proofs.payload.said_by_payload.Goals as goal

pub returns : goal.returns
returns c = row_said
