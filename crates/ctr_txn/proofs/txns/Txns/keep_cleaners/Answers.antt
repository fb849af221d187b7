use Rattle.std.proofs.Common.{◌≡◌, false, subst, sym}
use Rattle.ctr_txn.specs.Held.{TxnsHeld}
use Rattle.ctr_txn.specs.Rooms.{GetsBack}
use Rattle.ctr_txn.specs.TxnsInside.{txns_here}
use Rattle.ctr_txn.proofs.Rooming.{cleaners_back}
use Rattle.ctr_txn.proofs.txns.Txns.keep_cleaners.Goals as goal

pub returns-clause-gets_back : goal.returns-clause-gets_back
returns-clause-gets_back c none some = subst (λ (a : TxnsHeld). GetsBack a (record (txns_here c.self.inside) { cleaner = c.args.item })) c.self.view_is
    (cleaners_back (txns_here c.self.inside) c.args.item (subst (λ (a : TxnsHeld). a.cleaner ≡ false) (sym c.self.view_is) none) some)
