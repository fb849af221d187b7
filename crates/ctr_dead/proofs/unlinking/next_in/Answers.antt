use Rattle.std.proofs.Common.{◌<◌, sym, ◌∙◌, subst}
use Rattle.ctr_page.specs.declared.header.Header.{Header}
use Rattle.ctr_walk.proofs.Limits.{next_counted}
use Rattle.ctr_dead.proofs.unlinking.next_in.Goals as goal

pub returns-clause-small : goal.returns-clause-small
returns-clause-small c =
    subst (λ (h : Header). h.next < c.args.counted) (sym c.read_header.ensures.read)
    (next_counted c.args.chain c.args.counted c.args.page.now (sym c.check_header.ensures ∙ c.in_ok-check_header.was) c.requires.some)
