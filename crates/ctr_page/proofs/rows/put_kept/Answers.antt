use Rattle.ctr_page.specs.Making.{PutsBytes}
use Rattle.ctr_rec.specs.bytes_Fields.{spelled}
use Rattle.std.proofs.Common.{subst}
use Rattle.ctr_page.proofs.Puts.{puts_more, key_put}
use Rattle.ctr_page.proofs.rows.put_kept.Goals as goal

pub returns-clause-put : goal.returns-clause-put
returns-clause-put c =
    let front = subst (λ n. PutsBytes 0 (spelled 1 n) c.args.into.now c.put_byte-at.new.into c.put_byte-at.result) c.byte.ensures c.put_byte-at.ensures.put in
    let key = puts_more _ _ _ _ _ _ _ _ front (key_put _ _ c.args.entry.now.key _ _ c.requires.fits.key c.put_key-at.ensures.put) in
    let head = puts_more _ _ _ _ _ _ _ _ key c.put_version-at.ensures.put in
    puts_more _ _ _ _ _ _ _ _ head c.put_pointer.ensures.put
