use Rattle.std.proofs.Common.{◌≤◌, Ok, Err, Some, refl, sym, ◌∙◌, ap, subst, arith}
use Rattle.ctr_meta.specs.Tables.{Tables}
use Rattle.ctr_meta.specs.Kept.{TablesKept}
use Rattle.ctr_model.specs.State.{with_transaction}
use Rattle.ctr_rec.specs.declared.record.Record.TheVariants.{Begin}
use Rattle.ctr_walk.specs.OneRecord.{LogsOne}
use Rattle.ctr_paged.specs.actions_Sites.{Site, site_of}
use Rattle.ctr_paged.specs.actions_Actions.{Begins, site_after}
use Rattle.ctr_paged.specs.Moving.{held_as}
use Rattle.ctr_paged.specs.Shown.{IsShown}
use Rattle.ctr_txn.specs.Held.{scene_with, run_of, txn_of}
use Rattle.ctr_txn.specs.Steps.{txn_drawn}
use Rattle.ctr_txn.proofs.Rooming.{as_much}
use Rattle.ctr_txn.proofs.Runs.{room_behind}
use Rattle.ctr_txn.proofs.Showing.{found_session}
use Rattle.ctr_txn.proofs.OneRecord.{drawn_run, begun_site, logged_now, refused_now}
use Rattle.ctr_txn.proofs.txns.Txns.first_write.Goals as goal

pub returns-in-Ok-clause-leaves : goal.returns-in-Ok-clause-leaves
returns-in-Ok-clause-leaves g c told sound =
    let s = c.args.store.now.now in
    ap site_of (c.in-Ok.ensures.logs told sound).now ∙ begun_site c.next-x.result s
    ∙ ap (λ n. site_after n Begins (site_of s)) (c.next-x.ensures.next ∙ ap (λ (k : TablesKept). k.tables.next) c.meta.ensures.tables)

pub returns-in-Ok-clause-shows : goal.returns-in-Ok-clause-shows
unfolding returns-in-Ok-clause-leaves
returns-in-Ok-clause-shows g c low state t u is_t unasked unwritten granted told sound shown =
    let s = c.args.store.now.now in
    let x = c.args.store.now.meta.tables.next in
    let old = c.args.self.now in
    let new = c.draw.new.self in
    let r = c.requires.may.reader in
    let some : 1 ≤ x = subst (λ (k : TablesKept). 1 ≤ k.tables.next) c.meta.ensures.tables c.next-x.ensures.xids.some in
    let run = drawn_run c.args.s old new c.requires.may.one old.numbers.next r.t c.counts_sessions.ensures c.draw.ensures.numbers (c.draw.ensures.sets r.t r.there)
    ∙ ap (λ n. held_as c.args.s (record r.t.session { me = n }) (run_of old)) c.requires.may.over in
    subst (λ (site : Site). IsShown low site (scene_with new (with_transaction c.args.s u state))) (sym (returns-in-Ok-clause-leaves g c told sound))
    (c.an_action_is_shown.ensures low x Begins (site_of s) (scene_with old state) (scene_with new (with_transaction c.args.s u state)) shown
    (record { is_next = ap (λ (t : Tables). t.next) (c.meta.ensures.now told sound c.requires.may.room.going); some = omega (arith, some) }) shown.paged.bounds
    (record {
      by = record { s = c.args.s; session = r.t.session; t = t; at = found_session c.args.s old r.t c.requires.may.one r.there; is_t = is_t; unasked = unasked; me = r.none };
      granted = u;
      is_granted = granted;
      unwritten = unwritten;
      leads = λ i. record { run = run i; state = with_transaction c.args.s u state };
    }))

pub returns-in-Ok-clause-one : goal.returns-in-Ok-clause-one
returns-in-Ok-clause-one g c = subst (λ n. LogsOne g.O.Origin.first g.D.Disk (Begin n) c.args.store.now c.log_record.new.store (Ok c.draw.result)) (c.next-x.ensures.next ∙ ap (λ (k : TablesKept). k.tables.next) c.meta.ensures.tables)
    (logged_now g.O.Origin.first g.D.Disk (Begin c.next-x.result) c.args.store.now c.log_record.new.store c.in-Ok.field-0 c.draw.result c.in-Ok.ensures)

pub returns-in-Err-clause-one : goal.returns-in-Err-clause-one
returns-in-Err-clause-one g c = subst (λ n. LogsOne g.O.Origin.first g.D.Disk (Begin n) c.args.store.now c.log_record.new.store (Err c.in-Err.fault)) (c.next-x.ensures.next ∙ ap (λ (k : TablesKept). k.tables.next) c.meta.ensures.tables)
    (refused_now g.O.Origin.first g.D.Disk (Begin c.next-x.result) c.args.store.now c.log_record.new.store c.in-Err.fault c.requires.may.room.going c.in-Err.ensures)

pub draw-requires-clause-small : goal.draw-requires-clause-small
draw-requires-clause-small g c =
    let low = c.bounds_numbers.ensures.0 in
    let number = c.requires.may.room.number in
    omega (arith, low, number, c.requires.may.over)

pub returns-in-Ok-clause-items : goal.returns-in-Ok-clause-items
returns-in-Ok-clause-items g c room =
    let old = c.args.self.now in
    let r = c.requires.may.reader in
    let u = txn_drawn old.numbers.next r.t in
    room_behind c.args.s (Some u) old c.draw.new.self c.requires.may.one c.counts_sessions.ensures (c.draw.ensures.sets r.t r.there) (as_much (txn_of c.args.s old) r.t u r.there refl)
    c.args.store.now.meta c.log_record.new.store.meta c.in-Ok.ensures.takes.left.1 room
