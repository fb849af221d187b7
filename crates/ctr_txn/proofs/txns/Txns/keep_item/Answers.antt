use Rattle.std.proofs.Common.{◌-◌, Option, Some, refl, sym, ◌∙◌, ap, subst}
use Rattle.std.specs.Prelude.{is_some, slice_set, if◌then◌else◌}
use Rattle.std.proofs.lemmas.Bool.{false≢true}
use Rattle.ctr_txn.specs.declared.txns.Txns.TheInside.{Inside}
use Rattle.ctr_txn.specs.Held.{TxnHeld, TxnsHeld, AreTxns}
use Rattle.ctr_txn.specs.Rooms.{item_kept, GetsBack}
use Rattle.ctr_txn.specs.Steps.{txn_room}
use Rattle.ctr_txn.specs.TxnsInside.{txns_here}
use Rattle.ctr_txn.proofs.Acting.{below, there, none_there, same, within}
use Rattle.ctr_txn.proofs.Rooming.{gets_back, one_item}
use Rattle.ctr_txn.proofs.Slots.{alike_txns, put_again}
use Rattle.ctr_txn.proofs.txns.Txns.keep_item.Goals.{in-Some, in_default}
use Rattle.ctr_txn.proofs.txns.Txns.keep_item.Goals as goal

pub invariant_of-self : goal.invariant_of-self
invariant_of-self c =
    let a = txns_here c.self.inside in
    elim c.match-index_mut.branch [
      | in-Some w ↦
          let t = w.in-Some.txn in
          let at = there a c.args.self.now c.self.view_is c.self.invariant c.args.s c.requires.one _ c.index_mut.result.now t c.index_mut.ensures.value w.in-Some.is in
          subst (λ (i : Inside). AreTxns (txns_here i)) (sym w.self-inside-is)
          (alike_txns a _ c.self.invariant (c.args.s - 1) (below a c.args.self.now c.self.view_is c.self.invariant c.args.s c.requires.one) _ refl refl refl t (txn_room c.args.item t) at refl refl
          (ap (λ (z : TxnHeld). Some (txn_room c.args.item z)) w.txn.view_is))
      | in_default w ↦ subst (λ (i : Inside). AreTxns (txns_here i)) (sym w.self-inside-is) (put_again a (c.args.s - 1) c.index_mut.result.now c.index_mut.ensures.value c.self.invariant)
    ]

pub returns-clause-gets_back : goal.returns-clause-gets_back
returns-clause-gets_back c t is none some =
    let a = txns_here c.self.inside in
    subst (λ (b : TxnsHeld). GetsBack b (txns_here c.match-index_mut.self-inside)) c.self.view_is
    (elim c.match-index_mut.branch [
      | in-Some w ↦
          let u = w.in-Some.txn in
          let at = there a c.args.self.now c.self.view_is c.self.invariant c.args.s c.requires.one _ c.index_mut.result.now u c.index_mut.ensures.value w.in-Some.is in
          let his = same a c.args.self.now c.self.view_is c.self.invariant c.args.s c.requires.one u t at is in
          let v : Option TxnHeld = Some (txn_room c.args.item (record {
            session = record { me = w.txn.inside.me; snapshot = w.txn.inside.snapshot; undoing = w.txn.inside.undoing };
            since = w.txn.inside.since;
            asked = w.txn.inside.asked;
            item = w.txn.inside.item;
          })) in
          let b : TxnsHeld = record a { sessions = slice_set a.sessions (c.args.s - 1) v } in
          subst (λ (i : Inside). GetsBack a (txns_here i)) (sym w.self-inside-is)
          (gets_back a b (c.args.s - 1) v (within a c.args.self.now c.self.view_is c.self.invariant c.args.s c.requires.one) refl refl
          (ap item_kept at ∙ ap (λ b. if b then 1 else 0) (ap (λ (z : TxnHeld). z.item) (sym his) ∙ none)) (one_item v))
      | in_default w ↦ absurd (false≢true (ap is_some (sym (none_there a c.args.self.now c.self.view_is c.self.invariant c.args.s c.requires.one _ c.index_mut.result.now c.index_mut.ensures.value w.in_default.is) ∙ is)))
    ])
