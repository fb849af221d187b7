use Rattle.ctr_rec.proofs.ReadBack.{record_read}
use Rattle.ctr_rec.proofs.encoding.bytes_tell.Goals as goal

pub returns : goal.returns
returns c = record_read
