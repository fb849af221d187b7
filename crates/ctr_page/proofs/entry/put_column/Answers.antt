use Rattle.ctr_page.proofs.Entries.{column_put}
use Rattle.ctr_page.proofs.entry.put_column.Goals as goal

pub returns-clause-put : goal.returns-clause-put
returns-clause-put c = column_put _ _ _ c.kind_number.result c.args.column.now _ _ _ c.kind_number.ensures c.kind_number.type_inv c.put_name-at.ensures.put c.put_byte.ensures.put
