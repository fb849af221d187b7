use Rattle.ctr_page.specs.Making.{PutsBytes}
use Rattle.ctr_rec.specs.bytes_Fields.{spelled}
use Rattle.std.proofs.Common.{subst}
use Rattle.ctr_page.proofs.Puts.{puts_more}
use Rattle.ctr_page.proofs.entry.put_entry.Goals as goal

pub returns-clause-put : goal.returns-clause-put
returns-clause-put c =
    let front = subst (λ n. PutsBytes 0 (spelled 1 n) c.args.into.now c.put_byte-at.new.into c.put_byte-at.result) c.byte.ensures c.put_byte-at.ensures.put in
    let creator = puts_more _ _ _ _ _ _ _ _ front c.put_long-at.ensures.put in
    let dropper = puts_more _ _ _ _ _ _ _ _ creator c.put_long-at-2.ensures.put in
    let name = puts_more _ _ _ _ _ _ _ _ dropper c.put_name-at.ensures.put in
    let columns = puts_more _ _ _ _ _ _ _ _ name c.put_columns-at.ensures.put in
    puts_more _ _ _ _ _ _ _ _ columns c.put_zeros.ensures.put
