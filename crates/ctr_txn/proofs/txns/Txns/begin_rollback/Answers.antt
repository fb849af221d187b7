use Rattle.std.proofs.Common.{Some, refl, sym, subst}
use Rattle.ctr_paged.specs.Paged.{Run}
use Rattle.ctr_paged.specs.Shown.{IsShown}
use Rattle.ctr_txn.specs.Held.{scene_with, txn_of}
use Rattle.ctr_txn.specs.Steps.{txn_undoing}
use Rattle.ctr_txn.proofs.Rooming.{as_much}
use Rattle.ctr_txn.proofs.Runs.{room_behind}
use Rattle.ctr_txn.proofs.Showing.{undoing_run, found_session}
use Rattle.ctr_txn.proofs.txns.Txns.begin_rollback.Goals as goal

pub returns-clause-shows : goal.returns-clause-shows
returns-clause-shows c low site state b t is at shown =
    let old = c.args.self.now in
    let new = c.set_undoing.new.self in
    subst (λ (run : Run). IsShown low site (record { run = run; state = state }))
    (sym (undoing_run c.args.s old new c.requires.one c.counts_sessions.ensures c.set_undoing.ensures.numbers b (c.set_undoing.ensures.sets b is)))
    (c.a_turn_without_a_record_is_shown.ensures.undoing low site (scene_with old state) c.args.s b.session t shown (found_session c.args.s old b c.requires.one is) at)

pub returns-clause-items : goal.returns-clause-items
returns-clause-items c t is k l left =
    let old = c.args.self.now in
    room_behind c.args.s (Some (txn_undoing t)) old c.set_undoing.new.self c.requires.one c.counts_sessions.ensures (c.set_undoing.ensures.sets t is) (as_much (txn_of c.args.s old) t (txn_undoing t) is refl) k l left.1
