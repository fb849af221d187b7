use Rattle.ctr_txn.proofs.Runs.{answered_room}
use Rattle.ctr_txn.proofs.Showing.{answered_shows}
use Rattle.ctr_txn.proofs.txns.Txns.answer_hardened.Goals as goal

pub returns-clause-shows : goal.returns-clause-shows
returns-clause-shows g c low site state t shown =
    answered_shows c.a_turn_without_a_record_is_shown.ensures.answered c.args.self.now c.answer_next.new.self low site state t shown c.answer_next.result c.answer_next.ensures.next

pub returns-clause-items : goal.returns-clause-items
returns-clause-items g c =
    answered_room c.args.self.now c.answer_next.new.self c.counts_sessions.ensures c.answer_next.result (λ none. (c.answer_next.ensures.none none).1) c.answer_next.ensures.next
