use Rattle.std.proofs.Common.{◌-◌, ◌≤◌, ◌<◌, Some, refl, sym, ◌∙◌, ap, subst}
use Rattle.ctr_snap.specs.Seeing.{has}
use Rattle.ctr_txn.specs.declared.txn.Asked.{Asked}
use Rattle.ctr_txn.specs.Held.{TxnHeld}
use Rattle.ctr_txn.specs.Steps.{AsksOne, txn_asked}
use Rattle.ctr_txn.specs.TxnsInside.{txns_here}
use Rattle.ctr_txn.proofs.Acting.{below, there, writes}
use Rattle.ctr_txn.proofs.Slots.{asked_txns}
use Rattle.ctr_txn.proofs.txns.Txns.ask.Goals as goal

pub ask-k-requires-clause-drawn : goal.ask-k-requires-clause-drawn
ask-k-requires-clause-drawn c =
    let a = txns_here c.self.inside in
    let at = there a c.args.self.now c.self.view_is c.self.invariant c.args.s c.requires.one _ c.index_mut.result.now c.in-Some.txn c.index_mut.ensures.value c.in-Some.is in
    let may = writes a c.args.self.now c.self.view_is c.self.invariant c.args.s c.requires.one c.in-Some.txn at c.requires.writer in
    let both = (c.self.invariant.each (c.args.s - 1) c.in-Some.txn at).drawn may.0 in
    let me = ap (λ (t : TxnHeld). t.session.me) c.txn.view_is in
    (subst (λ n. c.self.inside.numbers.first ≤ n) (sym me) both.0, subst (λ n. n < c.self.inside.numbers.next) (sym me) both.1)

pub ask-k-requires-clause-unasked : goal.ask-k-requires-clause-unasked
ask-k-requires-clause-unasked c =
    let a = txns_here c.self.inside in
    let at = there a c.args.self.now c.self.view_is c.self.invariant c.args.s c.requires.one _ c.index_mut.result.now c.in-Some.txn c.index_mut.ensures.value c.in-Some.is in
    let may = writes a c.args.self.now c.self.view_is c.self.invariant c.args.s c.requires.one c.in-Some.txn at c.requires.writer in
    ap (λ n. has n c.self.inside.numbers.commits) (ap (λ (t : TxnHeld). t.session.me) c.txn.view_is)
    ∙ (c.self.invariant.each (c.args.s - 1) c.in-Some.txn at).unasked may.1 may.0

pub invariant_of-self-2 : goal.invariant_of-self-2
invariant_of-self-2 c =
    let a = txns_here c.self.inside in
    let t = c.in-Some.txn in
    let at = there a c.args.self.now c.self.view_is c.self.invariant c.args.s c.requires.one _ c.index_mut.result.now t c.index_mut.ensures.value c.in-Some.is in
    let may = writes a c.args.self.now c.self.view_is c.self.invariant c.args.s c.requires.one t at c.requires.writer in
    let q : Asked = record { k = c.ask-k.result; statement = c.args.statement } in
    let me = ap (λ (t : TxnHeld). t.session.me) c.txn.view_is in
    asked_txns a _ c.self.invariant (c.args.s - 1) (below a c.args.self.now c.self.view_is c.self.invariant c.args.s c.requires.one) _ refl q t
    (subst (λ n. AsksOne n c.self.inside.numbers c.ask-k.new.self) me c.ask-k.ensures.asks) refl c.ask-k.ensures.number at may.0 may.1
    (ap (λ (t : TxnHeld). Some (txn_asked q t)) c.txn.view_is) c.ask-k.ensures.kept
