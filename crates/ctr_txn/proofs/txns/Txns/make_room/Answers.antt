use Rattle.ctr_txn.specs.TxnsInside.{txns_here}
use Rattle.ctr_txn.proofs.Slots.{same_but_room}
use Rattle.ctr_txn.proofs.txns.Txns.make_room.Goals as goal

pub invariant_of-self : goal.invariant_of-self
invariant_of-self c = same_but_room (txns_here c.self.inside) c.reserve.new.self c.self.invariant c.reserve.ensures.same c.reserve.ensures.kept.1
