use Rattle.std.proofs.Common.{Some, arith, sym, subst}
use Rattle.ctr_disk.proofs.Moments.{on_ok}
use Rattle.ctr_model.specs.State.{begun, with_transaction}
use Rattle.ctr_paged.specs.Paged.{Run}
use Rattle.ctr_paged.specs.Shown.{IsShown}
use Rattle.ctr_txn.specs.Held.{scene_with}
use Rattle.ctr_txn.specs.Steps.{SetsTxn, txn_begun}
use Rattle.ctr_txn.specs.Rooms.{StaysRoom}
use Rattle.ctr_txn.proofs.Runs.{room_behind}
use Rattle.ctr_txn.proofs.Showing.{begun_run}
use Rattle.ctr_txn.proofs.txns.Txns.begin.Goals as goal

pub returns-clause-shows : goal.returns-clause-shows
returns-clause-shows c low site state tables none shown =
    let old = c.args.self.now in
    let new = c.begin_txn.new.self in
    on_ok c.begin_txn.result (SetsTxn c.args.s (Some (txn_begun c.args.meta.now.tables old)) old new) (IsShown low site (scene_with new (with_transaction c.args.s (begun state.answered) state)))
    (λ sets. subst (λ (run : Run). IsShown low site (record { run = run; state = with_transaction c.args.s (begun state.answered) state }))
    (sym (begun_run c.args.s old new c.requires.one c.counts_sessions.ensures c.begin_txn.ensures.numbers site c.args.meta.now.tables tables sets))
    (c.a_turn_without_a_record_is_shown.ensures.begun low site (scene_with old state) c.args.s shown none)) c.begin_txn.ensures.sets

pub returns-clause-items : goal.returns-clause-items
returns-clause-items c =
    let old = c.args.self.now in
    let new = c.begin_txn.new.self in
    let u = txn_begun c.args.meta.now.tables old in
    on_ok c.begin_txn.result (SetsTxn c.args.s (Some u) old new) (StaysRoom old new)
    (λ sets k l left. room_behind c.args.s (Some u) old new c.requires.one c.counts_sessions.ensures sets (omega arith) k l left.1) c.begin_txn.ensures.sets
