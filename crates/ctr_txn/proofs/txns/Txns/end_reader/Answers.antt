use Rattle.std.proofs.Common.{None, arith, sym, ap, subst, ◌∙◌}
use Rattle.ctr_versions.specs.Engine.{SessionHeld}
use Rattle.ctr_versions.proofs.Keys.{some_is}
use Rattle.ctr_model.specs.State.{without_transaction}
use Rattle.ctr_paged.specs.Paged.{Run}
use Rattle.ctr_paged.specs.Shown.{IsShown}
use Rattle.ctr_txn.specs.Held.{scene_with}
use Rattle.ctr_txn.proofs.Runs.{room_behind}
use Rattle.ctr_txn.proofs.Showing.{ended_run, found_session}
use Rattle.ctr_txn.proofs.txns.Txns.end_reader.Goals as goal

pub returns-clause-shows : goal.returns-clause-shows
returns-clause-shows c low site state shown =
    let old = c.args.self.now in
    let new = c.end.new.self in
    let r = c.requires.reader in
    subst (λ (run : Run). IsShown low site (record { run = run; state = without_transaction c.args.s state }))
    (sym (ended_run c.args.s old new c.requires.one c.counts_sessions.ensures c.end.ensures.numbers c.end.ensures.sets))
    (c.a_turn_without_a_record_is_shown.ensures.ended low site (scene_with old state) c.args.s shown
    (λ b at. ap (λ (q : SessionHeld). q.me) (sym (some_is r.t.session b (sym (found_session c.args.s old r.t c.requires.one r.there) ∙ at))) ∙ r.none))

pub returns-clause-items : goal.returns-clause-items
returns-clause-items c k l left = room_behind c.args.s None c.args.self.now c.end.new.self c.requires.one c.counts_sessions.ensures c.end.ensures.sets (omega arith) k l left.1
