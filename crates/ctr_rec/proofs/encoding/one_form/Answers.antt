use Rattle.ctr_rec.proofs.RecordForms.{one_record}
use Rattle.ctr_rec.proofs.encoding.one_form.Goals as goal

pub returns : goal.returns
returns c = one_record
