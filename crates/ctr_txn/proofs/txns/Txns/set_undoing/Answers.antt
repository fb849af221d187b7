use Rattle.std.proofs.Common.{◌-◌, Some, refl, sym, ap, subst}
use Rattle.ctr_txn.specs.declared.txns.Txns.TheInside.{Inside}
use Rattle.ctr_txn.specs.Held.{TxnHeld, AreTxns}
use Rattle.ctr_txn.specs.Steps.{txn_undoing}
use Rattle.ctr_txn.specs.TxnsInside.{txns_here}
use Rattle.ctr_txn.proofs.Acting.{below, there}
use Rattle.ctr_txn.proofs.Slots.{alike_txns, put_again}
use Rattle.ctr_txn.proofs.txns.Txns.set_undoing.Goals.{in-Some, in_default}
use Rattle.ctr_txn.proofs.txns.Txns.set_undoing.Goals as goal

pub invariant_of-self : goal.invariant_of-self
invariant_of-self c =
    let a = txns_here c.self.inside in
    elim c.match-index_mut.branch [
      | in-Some w ↦
          let t = w.in-Some.txn in
          let at = there a c.args.self.now c.self.view_is c.self.invariant c.args.s c.requires.one _ c.index_mut.result.now t c.index_mut.ensures.value w.in-Some.is in
          subst (λ (i : Inside). AreTxns (txns_here i)) (sym w.self-inside-is)
          (alike_txns a _ c.self.invariant (c.args.s - 1) (below a c.args.self.now c.self.view_is c.self.invariant c.args.s c.requires.one) _ refl refl refl t (txn_undoing t) at refl refl
          (ap (λ (z : TxnHeld). Some (txn_undoing z)) w.txn.view_is))
      | in_default w ↦ subst (λ (i : Inside). AreTxns (txns_here i)) (sym w.self-inside-is) (put_again a (c.args.s - 1) c.index_mut.result.now c.index_mut.ensures.value c.self.invariant)
    ]
