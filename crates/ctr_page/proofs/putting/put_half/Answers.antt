use Rattle.ctr_page.proofs.Puts.{field_put}
use Rattle.ctr_page.proofs.putting.put_half.Goals as goal

pub returns-clause-put : goal.returns-clause-put
returns-clause-put c = field_put 2 c.args.at c.args.v c.args.into.now c.put_u16.new.bytes c.requires c.put_u16.ensures.put
