use Rattle.std.proofs.Common.{false, [], Err, ap, ◌∙◌}
use Rattle.ctr_rec.specs.declared.record.Record.TheVariants.{Abort}
use Rattle.ctr_actions.specs.Sites.{site_of}
use Rattle.ctr_actions.specs.Actions.{Aborts}
use Rattle.ctr_rollback.proofs.ctr_txn.OneRecord.{aborted_site, logged_now, refused_now}
use Rattle.ctr_undo.proofs.calls.end.Goals as goal

pub returns-in-Ok-clause-one : goal.returns-in-Ok-clause-one
returns-in-Ok-clause-one g c = logged_now g.O.Origin.first g.D.Disk (Abort c.args.x) c.args.store.now c.log_record-2.new.store c.in-Ok.field-0 tt c.in-Ok.ensures

pub returns-in-Err-clause-one : goal.returns-in-Err-clause-one
returns-in-Err-clause-one g c = refused_now g.O.Origin.first g.D.Disk (Abort c.args.x) c.args.store.now c.log_record-2.new.store c.in-Err.fault c.requires.room.going c.in-Err.ensures

pub returns-in-Ok-clause-acts : goal.returns-in-Ok-clause-acts
returns-in-Ok-clause-acts g c = λ told sound owed.
    let x = c.args.x in
    let a = c.args.store.now in
    let b = c.log_record-2.new.store in
    let logs = c.in-Ok.ensures.logs told sound in
    c.a_record_acts.ensures x Aborts (Abort x) a b logs owed (ap site_of logs.now ∙ aborted_site x a.now) (c.records_without_bytes_lie_as_their_actions.ensures.aborts a.now x, tt)

pub returns-in-Err-clause-refused : goal.returns-in-Err-clause-refused
unfolding returns-in-Err-clause-one
returns-in-Err-clause-refused g c = λ told sound database owed.
    c.a_record_is_refused_by_the_disk_alone.ensures c.args.x Aborts (record { page = 0; clear = false; offset = 0; bytes = [] }) c.args.store.now c.log_record-2.new.store (Err c.in-Err.fault) database owed
    (c.meta-tables.ensures.now told sound c.requires.room.going) ((returns-in-Err-clause-one g c).refused told sound)
