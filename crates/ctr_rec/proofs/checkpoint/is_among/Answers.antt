use Rattle.std.proofs.Common.{◌∙◌, ap, sym}
use Rattle.ctr_bytes.specs.Fields.{field}
use Rattle.ctr_rec.proofs.ListLaws.{among_found}
use Rattle.ctr_rec.proofs.checkpoint.is_among.Goals as goal

pub returns-then-get_u64-x : goal.returns-then-get_u64-x
returns-then-get_u64-x c =
    let bytes = c.args.bytes.now in
    let is = sym (ap (λ at. field 8 at bytes) c.xid_at.ensures) ∙ sym c.get_u64.ensures.got ∙ c.if-get_u64-x.true in
    among_found c.args.opens bytes c.args.x c.loop-i.i c.args.n c.loop-i-test.true is
