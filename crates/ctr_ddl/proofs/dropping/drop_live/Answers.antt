use Rattle.std.proofs.Common.{ap, Err}
use Rattle.ctr_meta.specs.Tables.{Tables}
use Rattle.ctr_bytes.specs.Fields.{spelled}
use Rattle.ctr_page.specs.declared.table.TheConstants.{DROPPER_AT}
use Rattle.ctr_undamaged.specs.record_effects_Changing.{drop_record, laid_in_entry}
use Rattle.ctr_page_turns.specs.actions_Actions.{Drops}
use Rattle.ctr_ddl.proofs.dropping.drop_live.Goals as goal

pub returns-in-Ok-clause-one : goal.returns-in-Ok-clause-one
returns-in-Ok-clause-one g c = (drop_record c.args.x c.args.entry, c.in-Ok.ensures.one)

pub returns-in-Err-clause-one : goal.returns-in-Err-clause-one
returns-in-Err-clause-one g c = (drop_record c.args.x c.args.entry, c.in-Err.ensures.one)

pub returns-in-Ok-clause-left : goal.returns-in-Ok-clause-left
returns-in-Ok-clause-left g c =
    let takes = c.in-Ok.ensures.one.takes in
    (takes.left, ap (λ (t : Tables). t.next) takes.tables)

pub returns-in-Ok-clause-drops : goal.returns-in-Ok-clause-drops
returns-in-Ok-clause-drops g c = λ told sound may.
    let x = c.args.x in
    let e = c.args.entry in
    let v = c.args.store.now in
    let done = c.in-Ok.ensures in
    c.a_record_acts.ensures x (Drops e) (drop_record x e) v c.drop_table.new.store (done.one.logs told sound) may.owed (done.leaves told sound)
    (c.owed_records_are_laid_as_their_actions.ensures.drops v.now x e may.sound may.owed (done.whole told sound))

pub returns-in-Err-clause-refused : goal.returns-in-Err-clause-refused
returns-in-Err-clause-refused g c = λ told sound may.
    c.a_record_is_refused_by_the_disk_alone.ensures c.args.x (Drops c.args.entry) (laid_in_entry c.args.entry DROPPER_AT (spelled 8 c.args.x)) c.args.store.now c.drop_table.new.store (Err c.in-Err.fault) may.sound may.owed
    (c.meta-tables.ensures.now told sound c.requires.room.going) (c.in-Err.ensures.one.refused told sound)
