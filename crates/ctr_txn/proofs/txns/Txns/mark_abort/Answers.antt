use Rattle.std.proofs.Common.{Ok, Err, None, arith, inl, refl, sym, ◌∙◌, ap, subst}
use Rattle.ctr_model.specs.State.{without_transaction}
use Rattle.ctr_rec.specs.declared.record.Record.TheVariants.{Abort}
use Rattle.ctr_walk.specs.OneRecord.{LogsOne}
use Rattle.ctr_paged.specs.actions_Sites.{Site, site_of}
use Rattle.ctr_paged.specs.actions_Actions.{Aborts, site_after}
use Rattle.ctr_paged.specs.Shown.{IsShown}
use Rattle.ctr_txn.specs.Held.{scene_with, me_in}
use Rattle.ctr_txn.proofs.Runs.{room_behind}
use Rattle.ctr_txn.proofs.Showing.{found_session}
use Rattle.ctr_txn.proofs.OneRecord.{aborted_run, aborted_site, logged_now, refused_now}
use Rattle.ctr_txn.proofs.txns.Txns.mark_abort.Goals as goal

pub returns-in-Ok-clause-leaves : goal.returns-in-Ok-clause-leaves
returns-in-Ok-clause-leaves g c told sound =
    let s = c.args.store.now.now in
    ap site_of (c.in-Ok.ensures.logs told sound).now ∙ aborted_site c.me-x.result s ∙ ap (λ n. site_after n Aborts (site_of s)) c.me-x.ensures

pub returns-in-Ok-clause-shows : goal.returns-in-Ok-clause-shows
unfolding returns-in-Ok-clause-leaves
returns-in-Ok-clause-shows g c low state b t is is_t unasked owed told sound shown =
    let s = c.args.store.now.now in
    let old = c.args.self.now in
    let new = c.end.new.self in
    let run = aborted_run c.args.s old new c.requires.may.one c.end.ensures.numbers c.end.ensures.sets in
    let site = returns-in-Ok-clause-leaves g c told sound ∙ ap (λ n. site_after n Aborts (site_of s)) (ap me_in is) in
    subst (λ (site : Site). IsShown low site (scene_with new (without_transaction c.args.s state))) (sym site)
    (c.an_action_is_shown.ensures low b.session.me Aborts (site_of s) (scene_with old state) (scene_with new (without_transaction c.args.s state)) shown owed shown.paged.bounds
    (inl (record {
      by = record { s = c.args.s; session = b.session; t = t; at = found_session c.args.s old b c.requires.may.one is; is_t = is_t; unasked = unasked; me = refl };
      leads = λ i. record { run = run i; state = without_transaction c.args.s state };
    })))

pub returns-in-Ok-clause-one : goal.returns-in-Ok-clause-one
returns-in-Ok-clause-one g c = subst (λ n. LogsOne {T = Unit {0}} g.O.Origin.first g.D.Disk (Abort n) c.args.store.now c.log_record.new.store (Ok tt)) c.me-x.ensures
    (logged_now g.O.Origin.first g.D.Disk (Abort c.me-x.result) c.args.store.now c.log_record.new.store c.in-Ok.field-0 tt c.in-Ok.ensures)

pub returns-in-Err-clause-one : goal.returns-in-Err-clause-one
returns-in-Err-clause-one g c = subst (λ n. LogsOne {T = Unit {0}} g.O.Origin.first g.D.Disk (Abort n) c.args.store.now c.log_record.new.store (Err c.in-Err.fault)) c.me-x.ensures
    (refused_now g.O.Origin.first g.D.Disk (Abort c.me-x.result) c.args.store.now c.log_record.new.store c.in-Err.fault c.requires.may.room.going c.in-Err.ensures)

pub returns-in-Ok-clause-items : goal.returns-in-Ok-clause-items
returns-in-Ok-clause-items g c room =
    room_behind c.args.s None c.args.self.now c.end.new.self c.requires.may.one c.counts_sessions.ensures c.end.ensures.sets (omega arith)
    c.args.store.now.meta c.log_record.new.store.meta c.in-Ok.ensures.takes.left.1 room
