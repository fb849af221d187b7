use Rattle.std.proofs.Common.{◌-◌, ◌≤◌, Some, refl, sym, ◌∙◌, ap, subst}
use Rattle.std.specs.Prelude.{is_some}
use Rattle.std.proofs.lemmas.Bool.{false≢true}
use Rattle.ctr_snap.specs.Seeing.{has}
use Rattle.ctr_txn.specs.declared.txns.Txns.TheInside.{Inside}
use Rattle.ctr_txn.specs.Held.{TxnsHeld, AreTxns}
use Rattle.ctr_txn.specs.Steps.{txn_drawn}
use Rattle.ctr_txn.specs.TxnsInside.{txns_here}
use Rattle.ctr_txn.proofs.Acting.{below, there, none_there, unasked}
use Rattle.ctr_txn.proofs.Slots.{drawn_txns}
use Rattle.ctr_txn.proofs.txns.Txns.draw.Goals.{in-Some, in_default}
use Rattle.ctr_txn.proofs.txns.Txns.draw.Goals as goal

pub invariant_of-self : goal.invariant_of-self
invariant_of-self c =
    let a = txns_here c.self.inside in
    elim c.match-index_mut.branch [
      | in-Some w ↦
          let t = w.in-Some.txn in
          let at = there a c.args.self.now c.self.view_is c.self.invariant c.args.s c.requires.one _ c.index_mut.result.now t c.index_mut.ensures.value w.in-Some.is in
          let x = c.draw-x.ensures.number in
          subst (λ (i : Inside). AreTxns (txns_here i)) (sym w.self-inside-is)
          (drawn_txns a _ c.self.invariant (c.args.s - 1) (below a c.args.self.now c.self.view_is c.self.invariant c.args.s c.requires.one) _ refl c.draw-x.ensures.draws refl t at
          (unasked a c.args.self.now c.self.view_is c.self.invariant c.args.s c.requires.one t at c.requires.reader)
          ((λ i. Some (txn_drawn (x i) (w.txn.view_is i))))
          (subst (λ n. c.self.inside.numbers.first ≤ n) x c.draw-x.ensures.fresh.0) (ap (λ n. has n c.self.inside.numbers.commits) (sym x) ∙ c.draw-x.ensures.fresh.1)
          (subst (λ n. 8 ≤ n) (sym c.draw-x.ensures.kept) (subst (λ (b : TxnsHeld). 8 ≤ b.numbers.asks) (sym c.self.view_is) c.requires.room.asks)))
      | in_default w ↦ absurd (false≢true (ap is_some (sym (none_there a c.args.self.now c.self.view_is c.self.invariant c.args.s c.requires.one _ c.index_mut.result.now c.index_mut.ensures.value w.in_default.is) ∙ c.requires.reader.there)))
    ]
