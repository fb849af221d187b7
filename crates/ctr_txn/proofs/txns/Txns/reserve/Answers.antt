use Rattle.std.proofs.Common.{◌-◌, ◌≤◌, true, Some, sym, ◌∙◌, ap, subst, arith}
use Rattle.std.specs.Prelude.{slice_set}
use Rattle.ctr_txn.specs.Numbered.{NumbersHeld}
use Rattle.ctr_txn.specs.Held.{TxnsHeld, txn_of}
use Rattle.ctr_txn.specs.Steps.{txn_room}
use Rattle.ctr_txn.proofs.Rooming.{nine_items}
use Rattle.ctr_txn.proofs.txns.Txns.reserve.Goals as goal

pub returns-clause-room : goal.returns-clause-room
returns-clause-room g c =
    let new = c.keep_item.new.self in
    let r = c.in_ok-make_room.ensures.room in
    let few = nine_items new c.counts_sessions.ensures in (
      record {
        draws = subst (λ (n : NumbersHeld). 1 ≤ n.draws) (sym c.keep_item.ensures.numbers) r.draws;
        asks = subst (λ (n : NumbersHeld). 8 ≤ n.asks) (sym c.keep_item.ensures.numbers) r.asks;
      },
      c.in_ok-reserve.ensures.opens,
      omega (arith, few, c.in_ok-reserve.ensures.items),
    )

pub returns-clause-sets : goal.returns-clause-sets
returns-clause-sets g c t is =
    let same = c.make_room.ensures.same in
    let sets = c.keep_item.ensures.sets t (ap (txn_of c.args.s) same ∙ is) in
    record {
      sessions = sets.sessions ∙ ap (λ (m : TxnsHeld). slice_set m.sessions (c.args.s - 1) (Some (txn_room true t))) same;
      answered = sets.answered ∙ ap (λ (m : TxnsHeld). m.answered) same;
      cleaner = sets.cleaner ∙ ap (λ (m : TxnsHeld). m.cleaner) same;
    }
