use Rattle.std.proofs.Common.{◌≡◌, ℕ, ◌<◌, false, [], ◌∷◌, Some, Ok, Err, refl, sym, ◌∙◌, ap, subst}
use Rattle.std.specs.Option.{option_map}
use Rattle.ctr_versions.specs.Engine.{SessionHeld}
use Rattle.ctr_versions.proofs.Keys.{some_is}
use Rattle.ctr_meta.specs.Needs.{needs}
use Rattle.ctr_meta.specs.Tables.{Tables}
use Rattle.ctr_rec.specs.declared.record.Record.TheVariants.{Begin}
use Rattle.ctr_record_effects.specs.States.{pages_in}
use Rattle.ctr_asking.specs.ctr_wishes.actions_Actions.{Begins, Owes, site_after}
use Rattle.ctr_asking.specs.ctr_wishes.actions_Sites.{site_of}
use Rattle.ctr_session_world.specs.paged_Moving.{held_as}
use Rattle.ctr_store.specs.Store.{Logs}
use Rattle.ctr_session_world.specs.txn_Held.{TxnHeld, run_of}
use Rattle.ctr_session_world.specs.txn_Steps.{txn_drawn}
use Rattle.ctr_session_world.proofs.ctr_told.ctr_rollback.Records.{refused_by_disk}
use Rattle.ctr_session_world.proofs.Ready.{others_set, own_set, ready_logged, unasked_as}
use Rattle.ctr_session_world.proofs.Disks.{disk_done, disk_failed, disk_one}
use Rattle.ctr_looks.proofs.drawing.draw_next.Goals as goal

pub returns-in-Ok-clause-over : goal.returns-in-Ok-clause-over
returns-in-Ok-clause-over g c = λ room.
    let a = c.args.store.now in
    let b = c.first_write.new.store in
    let s = c.args.s in
    let old = c.args.txns.now in
    let new = c.first_write.new.self in
    let may = c.requires.may in
    let t = may.reader.t in
    let u = txn_drawn old.numbers.next t in
    let its = c.in-Ok.ensures in
    let sets = its.draws.0.1 t may.reader.there in (
      ready_logged s old new a b (Begin a.meta.tables.next) a.next (record { next = its.over; items = its.items room }) (others_set s (Some u) old new may.one sets) its.one.going its.one.takes,
      unasked_as s t u old new may.one c.counts_sessions.ensures may.reader.there refl sets,
    )

pub returns-in-Err-clause-over : goal.returns-in-Err-clause-over
returns-in-Err-clause-over g c = λ room. tt

pub returns-in-Ok-clause-draws : goal.returns-in-Ok-clause-draws
returns-in-Ok-clause-draws g c = λ told sound some.
    let a = c.args.store.now in
    let b = c.first_write.new.store in
    let old = c.args.txns.now in
    let x = a.now.tables.next in
    let s = c.args.s in
    let may = c.requires.may in
    let same : a.meta.tables.next ≡ x = ap (λ (t : Tables). t.next) (c.meta-tables.ensures.now told sound may.room.going) in
    let owed : Owes x Begins (site_of a.now) = record { is_next = refl; some = some } in
    let one = c.in-Ok.ensures.one in
    let logs = subst (λ n. Logs (Begin n ∷ []) a b) same (one.logs told sound) in
    let leaves = subst (λ n. site_of b.now ≡ site_after n Begins (site_of a.now)) same (c.in-Ok.ensures.leaves told sound) in
    let draws = c.in-Ok.ensures.draws in
    let number = may.over ∙ same in
    record {
      acts = c.a_record_acts.ensures x Begins (Begin x) a b logs owed leaves (c.records_without_bytes_lie_as_their_actions.ensures.begins a.now x, tt);
      logs = record { rec = Begin x; logs = logs; front = one.any_moment told sound; rests = c.rests.ensures told sound one.going; later = one.time.later };
      run = λ t at.
          let its = some_is may.reader.t.session t (sym (c.the_run_is_of_the_sessions.ensures.found s old may.one ∙ ap (option_map (λ (q : TxnHeld). q.session)) may.reader.there) ∙ at) in (
            ap (λ (q : SessionHeld). q.me) (sym its) ∙ may.reader.none,
            c.the_run_is_of_the_sessions.ensures.sets s (txn_drawn old.numbers.next may.reader.t) old c.first_write.new.self may.one c.counts_sessions.ensures (draws.0.1 may.reader.t may.reader.there)
                ∙ ap (λ l. record (held_as s (txn_drawn old.numbers.next may.reader.t).session (run_of old)) { commits = l }) draws.0.0.commits
                ∙ (λ i. held_as s (record (its i) { me = number i }) (run_of old)),
          );
    }

pub returns-in-Ok-clause-item : goal.returns-in-Ok-clause-item
returns-in-Ok-clause-item g c = λ has.
    let old = c.args.txns.now in
    record {
      t = txn_drawn old.numbers.next has.t;
      there = own_set c.args.s (Some (txn_drawn old.numbers.next has.t)) old c.first_write.new.self c.requires.may.one c.counts_sessions.ensures (c.in-Ok.ensures.draws.0.1 has.t has.there);
      kept = has.kept;
    }

pub returns-in-Err-clause-refused : goal.returns-in-Err-clause-refused
returns-in-Err-clause-refused g c = λ told sound database.
    let a = c.args.store.now in
    let x = a.meta.tables.next in
    let tables = c.meta-tables.ensures.now told sound c.requires.may.room.going in
    let owed : Owes x Begins (site_of a.now) = record { is_next = ap (λ (t : Tables). t.next) tables; some = subst (λ n. 0 < n) (sym (ap (λ (t : Tables). t.next) tables)) database.some } in
    refused_by_disk {T = ℕ} (Begin x) a c.first_write.new.store (Err c.in-Err.fault)
    (subst (λ (t : Tables). needs (Begin x) t ≡ Ok tt) (sym tables)
    (c.an_action_meets_its_needs.ensures.fits x Begins (site_of a.now) (record { page = 0; clear = false; offset = 0; bytes = [] }) (c.pages_are_in_bounds.ensures (pages_in a.now)) database.sound owed))
    (c.in-Err.ensures.one.refused told sound)

-- ---- what is left of the disk

pub returns-in-Ok-clause-disk : goal.returns-in-Ok-clause-disk
returns-in-Ok-clause-disk g c =
    let a = c.args.store.now in
    let b = c.first_write.new.store in
    disk_done g.O.Origin.first g.D.Disk a b c.in-Ok.field-0 _ (disk_one g.O.Origin.first g.D.Disk (Begin a.meta.tables.next) a b (Ok c.in-Ok.field-0) c.in-Ok.ensures.one)

pub returns-in-Err-clause-disk : goal.returns-in-Err-clause-disk
returns-in-Err-clause-disk g c =
    let a = c.args.store.now in
    let b = c.first_write.new.store in
    disk_failed g.O.Origin.first g.D.Disk a b c.in-Err.fault (disk_one g.O.Origin.first g.D.Disk (Begin a.meta.tables.next) a b (Err c.in-Err.fault) c.in-Err.ensures.one)
