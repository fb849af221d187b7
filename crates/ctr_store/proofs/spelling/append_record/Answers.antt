use Rattle.std.proofs.Common.{arith}
use Rattle.ctr_store.proofs.RecordLaws.{record_short}
use Rattle.ctr_store.proofs.spelling.append_record.Goals as goal

pub encode-len-requires-clause-room : goal.encode-len-requires-clause-room
encode-len-requires-clause-room c = let short = record_short c.args.rec.now c.requires.is_record c.requires.change in omega (arith, short)
