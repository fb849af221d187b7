use Rattle.std.proofs.Common.{◌-◌, false, None, refl, ◌∙◌, ap}
use Rattle.ctr_txn.specs.Held.{TxnHeld, txn_of}
use Rattle.ctr_txn.specs.TxnsInside.{txns_here}
use Rattle.ctr_txn.proofs.Acting.{below}
use Rattle.ctr_txn.proofs.Slots.{begun_txns}
use Rattle.ctr_txn.proofs.txns.Txns.begin_txn.Goals as goal

pub invariant_of-self : goal.invariant_of-self
invariant_of-self c =
    let u : TxnHeld = record { session = record { me = 0; snapshot = c.in_ok-snapshot.snapshot; undoing = false }; since = c.self.inside.answered; asked = None; item = false } in
    begun_txns (txns_here c.self.inside) _ c.self.invariant (c.args.s - 1) (below (txns_here c.self.inside) c.args.self.now c.self.view_is c.self.invariant c.args.s c.requires.one) _ refl refl refl u
    (ap (txn_of c.args.s) c.self.view_is ∙ c.requires.out) refl refl refl
