use Rattle.std.proofs.Common.{◌≡◌, ◌∷◌, ◌++◌, ◌∙◌, ap, sym, subst}
use Rattle.ctr_snap.specs.Seeing.{least, all_named, AreFrom}
use Rattle.ctr_snap.proofs.Least.{least_append, least_below}
use Rattle.ctr_snap.proofs.low.low_mark.Goals as goal

pub returns-clause-below : goal.returns-clause-below
returns-clause-below c =
    let xs = c.args.unanswered.now ++ all_named c.args.live.now in
    let value : c.least_named.result ≡ least c.args.next xs = c.least_named.ensures ∙ ap (λ m. least m (all_named c.args.live.now)) c.least_of.ensures ∙ sym (least_append c.args.next c.args.unanswered.now (all_named c.args.live.now)) in
    subst (λ m. AreFrom m (c.args.next ∷ xs)) (sym value) (least_below c.args.next xs)
