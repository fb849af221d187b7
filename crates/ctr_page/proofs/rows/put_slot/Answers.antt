use Rattle.ctr_page.specs.Making.{PutsBytes}
use Rattle.ctr_rec.specs.bytes_Fields.{spelled}
use Rattle.std.proofs.Common.{subst}
use Rattle.std.proofs.Common.{◌≡◌, arith}
use Rattle.ctr_page.specs.Places.{previous_at}
use Rattle.ctr_page.proofs.Puts.{puts_more, key_put, ends_at}
use Rattle.ctr_page.proofs.rows.put_slot.Goals as goal

pub returns-clause-put : goal.returns-clause-put
returns-clause-put c =
    let front = subst (λ n. PutsBytes 0 (spelled 1 n) c.args.into.now c.put_byte-at.new.into c.put_byte-at.result) c.byte.ensures c.put_byte-at.ensures.put in
    let key = puts_more _ _ _ _ _ _ _ _ front (key_put _ _ c.args.slot.now.key _ _ c.requires.fits.key c.put_key-at.ensures.put) in
    let head = puts_more _ _ _ _ _ _ _ _ key c.put_version.ensures.put in
    let here : c.put_version.result ≡ previous_at c.args.w = omega (arith, c.put_version.ensures.end, c.put_key-at.ensures.end, c.put_byte-at.ensures.end, c.requires.fits.head.2) in
    let previous = puts_more _ _ _ _ _ _ _ _ (ends_at _ _ _ _ _ _ here head) c.put_previous-at.ensures.put in
    puts_more _ _ _ _ _ _ _ _ previous c.put_pointer.ensures.put
