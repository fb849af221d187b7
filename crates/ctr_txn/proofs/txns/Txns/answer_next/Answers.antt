use Rattle.std.proofs.Common.{ℕ, ◌<◌, Option, None, refl, sym, ◌∙◌, ap, arith, length, List}
use Rattle.std.specs.Prelude.{get_or}
use Rattle.ctr_txn.specs.Held.{TxnHeld}
use Rattle.ctr_txn.specs.TxnsInside.{txns_here}
use Rattle.ctr_txn.proofs.Slots.{answered_txns}
use Rattle.ctr_txn.proofs.txns.Txns.answer_next.Goals as goal

pub invariant_of-self : goal.invariant_of-self
invariant_of-self c =
    let found = c.in_ok-at.ensures.found in
    let eight = c.self.invariant.eight in
    let lt : c.in_ok-at.at < 8 = omega (arith, found.0, ap (λ (l : List (Option TxnHeld)). length l) c.deref.ensures.value, eight) in
    answered_txns (txns_here c.self.inside) _ c.self.invariant c.in_ok-at.at lt None refl c.in_ok-at.asked found.2.0 refl refl
    (ap (λ (l : List (Option TxnHeld)). get_or l c.in_ok-at.at None) (sym c.deref.ensures.value) ∙ found.2.1) found.2.2 found.1
    (omega (arith, found.1, c.self.invariant.answered, c.if-self-commits.false, ap (λ (l : List ℕ). length l) c.commits.ensures)) refl
