use Rattle.std.proofs.Common.{◌<◌, sym, ap, subst}
use Rattle.ctr_record_effects.specs.page_Header.{Header}
use Rattle.ctr_walk.proofs.Limits.{next_counted}
use Rattle.ctr_walk.proofs.along.look_at.Goals as goal

pub returns-clause-next : goal.returns-clause-next
returns-clause-next g c =
    subst (λ n. n < c.args.counted) (sym (ap (λ (h : Header). h.next) c.read_header.ensures.read))
    (next_counted c.args.chain c.args.counted c.args.page.now (sym c.in_ok-check_header.ensures) c.requires.some)
