use Rattle.std.proofs.Common.{◌+◌, ◌∷◌, List, Option, sym, ◌∙◌, ap}
use Rattle.ctr_snap.specs.Seeing.{least}
use Rattle.ctr_versions.specs.Laws.{sessions_named}
use Rattle.ctr_txn.specs.Held.{TxnHeld, held_from}
use Rattle.ctr_txn.proofs.Naming.{named_undoing}
use Rattle.ctr_txn.proofs.txns.+least_named.Goals as goal

pub returns-then-txn : goal.returns-then-txn
returns-then-txn t c n =
    c.least_named-then-txn.ensures (n + 1)
    ∙ ap (least c.args.mark) (sym (ap (λ (xs : List (Option TxnHeld)). sessions_named (held_from n xs)) (c.in-Some.ensures.cases.0 ∙ ap (λ (o : Option TxnHeld). o ∷ c.in-Some.rest.now) c.in-Some-first.is)
    ∙ named_undoing n c.in-Some-first.txn c.in-Some.rest.now (ap (λ (t : TxnHeld). t.session.undoing) (sym c.txn.view_is) ∙ c.if-txn.true)))
