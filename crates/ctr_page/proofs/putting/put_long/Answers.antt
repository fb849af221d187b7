use Rattle.ctr_page.proofs.Puts.{field_put}
use Rattle.ctr_page.proofs.putting.put_long.Goals as goal

pub returns-clause-put : goal.returns-clause-put
returns-clause-put c = field_put 8 c.args.at c.args.v c.args.into.now c.put_u64.new.bytes c.requires c.put_u64.ensures.put
