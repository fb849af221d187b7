use Rattle.std.proofs.Common.{sym}
use Rattle.ctr_rec.proofs.Laws.{field-none}
use Rattle.ctr_rec.proofs.fields.number.Goals as goal

pub returns-in-Nothing : goal.returns-in-Nothing
returns-in-Nothing c = rw c.in-Nothing.is (sym (field-none c.args.at c.args.bytes.now))
