use Rattle.std.proofs.Common.{ℕ, Ok, Err, Some, refl, sym, ◌∙◌, ap, subst}
use Rattle.ctr_meta.specs.Tables.{Tables}
use Rattle.ctr_rec.specs.declared.record.Record.TheVariants.{Commit}
use Rattle.ctr_walk.specs.OneRecord.{LogsOne}
use Rattle.ctr_paged.specs.actions_Sites.{Site, site_of}
use Rattle.ctr_paged.specs.actions_Actions.{Commits, site_after}
use Rattle.ctr_paged.specs.Shown.{IsShown}
use Rattle.ctr_txn.specs.declared.txn.Asked.{Asked}
use Rattle.ctr_txn.specs.Held.{scene_with, me_in, txn_of}
use Rattle.ctr_txn.specs.Calls.{after_asking}
use Rattle.ctr_txn.specs.Steps.{txn_asked}
use Rattle.ctr_txn.proofs.Rooming.{as_much}
use Rattle.ctr_txn.proofs.Runs.{room_behind}
use Rattle.ctr_txn.proofs.Showing.{found_session}
use Rattle.ctr_txn.proofs.OneRecord.{asked_run, committed_site, committed_next, logged_now, refused_now}
use Rattle.ctr_txn.proofs.txns.Txns.ask_commit.Goals as goal

pub returns-in-Ok-clause-asks : goal.returns-in-Ok-clause-asks
returns-in-Ok-clause-asks g c = ((c.ask.ensures.number, λ t is. let both = c.ask.ensures.sets t is in (both.1, both.0)), tt)

pub returns-in-Ok-clause-over : goal.returns-in-Ok-clause-over
returns-in-Ok-clause-over g c =
    let w = c.requires.may.writer in
    (c.ask.ensures.sets w.t w.there).1.next ∙ c.requires.may.over
    ∙ sym (ap (λ (t : Tables). t.next) c.in-Ok.ensures.takes.tables ∙ committed_next c.me-x.result c.args.store.now.meta.tables)

pub returns-in-Ok-clause-leaves : goal.returns-in-Ok-clause-leaves
returns-in-Ok-clause-leaves g c told sound =
    let s = c.args.store.now.now in
    ap site_of (c.in-Ok.ensures.logs told sound).now ∙ committed_site c.me-x.result s ∙ ap (λ n. site_after n Commits (site_of s)) c.me-x.ensures

pub returns-in-Ok-clause-shows : goal.returns-in-Ok-clause-shows
unfolding returns-in-Ok-clause-leaves
returns-in-Ok-clause-shows g c low state b t is calm is_t unasked untouched owed told sound shown =
    let s = c.args.store.now.now in
    let x = b.session.me in
    let old = c.args.self.now in
    let new = c.ask.new.self in
    let q : Asked = record { k = c.ask.result; statement = c.args.statement } in
    let both = c.ask.ensures.sets b is in
    let run = asked_run c.args.s old new c.requires.may.one q b is both.1 both.0 in
    let site = returns-in-Ok-clause-leaves g c told sound ∙ ap (λ n. site_after n Commits (site_of s)) (ap me_in is) in
    subst (λ (site : Site). IsShown low site (scene_with new (after_asking c.args.s t state))) (sym site)
    (c.an_action_is_shown.ensures low x Commits (site_of s) (scene_with old state) (scene_with new (after_asking c.args.s t state)) shown owed shown.paged.bounds
    (record {
      by = record { s = c.args.s; session = b.session; t = t; at = found_session c.args.s old b c.requires.may.one is; is_t = is_t; unasked = unasked; me = refl };
      calm = calm;
      untouched = untouched;
      leads = λ i. record { run = run i; state = after_asking c.args.s t state };
    }))

pub returns-in-Ok-clause-one : goal.returns-in-Ok-clause-one
returns-in-Ok-clause-one g c = subst (λ n. LogsOne {T = ℕ} g.O.Origin.first g.D.Disk (Commit n) c.args.store.now c.log_record.new.store (Ok c.ask.result)) c.me-x.ensures
    (logged_now g.O.Origin.first g.D.Disk (Commit c.me-x.result) c.args.store.now c.log_record.new.store c.in-Ok.field-0 c.ask.result c.in-Ok.ensures)

pub returns-in-Err-clause-one : goal.returns-in-Err-clause-one
returns-in-Err-clause-one g c = subst (λ n. LogsOne {T = ℕ} g.O.Origin.first g.D.Disk (Commit n) c.args.store.now c.log_record.new.store (Err c.in-Err.fault)) c.me-x.ensures
    (refused_now g.O.Origin.first g.D.Disk (Commit c.me-x.result) c.args.store.now c.log_record.new.store c.in-Err.fault c.requires.may.room.going c.in-Err.ensures)

pub returns-in-Ok-clause-items : goal.returns-in-Ok-clause-items
returns-in-Ok-clause-items g c room =
    let old = c.args.self.now in
    let w = c.requires.may.writer in
    let q : Asked = record { k = c.ask.result; statement = c.args.statement } in
    let u = txn_asked q w.t in
    room_behind c.args.s (Some u) old c.ask.new.self c.requires.may.one c.counts_sessions.ensures (c.ask.ensures.sets w.t w.there).0 (as_much (txn_of c.args.s old) w.t u w.there refl)
    c.args.store.now.meta c.log_record.new.store.meta c.in-Ok.ensures.takes.left.1 room
