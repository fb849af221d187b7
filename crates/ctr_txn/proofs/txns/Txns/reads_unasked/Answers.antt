use Rattle.std.proofs.Common.{◌∙◌, ap}
use Rattle.ctr_txn.specs.Held.{txn_of}
use Rattle.ctr_txn.specs.TxnsInside.{txns_here}
use Rattle.ctr_txn.proofs.Acting.{unasked}
use Rattle.ctr_txn.proofs.txns.Txns.reads_unasked.Goals as goal

pub returns : goal.returns
returns c t is = unasked (txns_here c.self.inside) c.args.self.now c.self.view_is c.self.invariant c.args.s c.requires.one t (ap (txn_of c.args.s) c.self.view_is ∙ is) c.requires.reader
