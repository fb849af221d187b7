use Rattle.std.proofs.Common.{◌-◌, None, refl, sym, ◌∙◌, ap}
use Rattle.ctr_txn.specs.Held.{txn_of}
use Rattle.ctr_txn.specs.TxnsInside.{txns_here}
use Rattle.ctr_txn.proofs.Acting.{below}
use Rattle.ctr_txn.proofs.Slots.{ended_txns}
use Rattle.ctr_txn.proofs.txns.Txns.end.Goals as goal

pub invariant_of-self : goal.invariant_of-self
invariant_of-self c =
    let a = txns_here c.self.inside in
    ended_txns a _ c.self.invariant (c.args.s - 1) (below a c.args.self.now c.self.view_is c.self.invariant c.args.s c.requires.one) None refl refl refl
    (λ t at. c.requires.unasked t (ap (txn_of c.args.s) (sym c.self.view_is) ∙ at)) refl
