use Rattle.std.proofs.Common.{sym, ◌∙◌, ap}
use Rattle.std.specs.Prelude.{is_some}
use Rattle.ctr_versions.specs.Chains.{above, newest_since}
use Rattle.ctr_versions.specs.Xids.{number_of}
use Rattle.ctr_paged.specs.area_Images.{is_committed_in}
use Rattle.ctr_paged.proofs.record_laws_Slots.{slot_wasnt}
use Rattle.ctr_catalog.proofs.names_Fates.{agrees}
use Rattle.ctr_paged.specs.Paged.{xids_of}
use Rattle.ctr_views.proofs.Looking.{of_tables, session_shown}
use Rattle.ctr_views.proofs.Changers.{rows_told, rows_refused}
use Rattle.ctr_views.proofs.changes.what_newest_answers_is_in_the_model.Goals as goal

pub returns-clause-number : goal.returns-clause-number
returns-clause-number c = λ low site scene v name e at shown firm found used quiet uncreated.
    let xids = xids_of site.tables scene.run.commits in
    ap (above v.t.snapshot) (c.a_slot_is_read_as_its_row.ensures.newest site.counted site.tables site.area (number_of xids) e at shown.paged.sound shown.paged.bounds used (agrees site.tables xids (of_tables low site scene shown)))
    ∙ rows_told low site scene shown v firm name e found quiet uncreated (site.area.slot at).key

pub returns-clause-told : goal.returns-clause-told
returns-clause-told c = λ low site scene v e at shown used.
    let xids = xids_of site.tables scene.run.commits in
    let its = session_shown low site scene shown v in
    c.a_changed_row_is_told.ensures site.counted site.tables site.area xids v.session.snapshot v.t.snapshot e at shown.paged.sound shown.paged.bounds used (of_tables low site scene shown) its.snapshot its.old
    ∙ ap (λ o. is_some (above v.t.snapshot o)) (sym (c.a_slot_is_read_as_its_row.ensures.newest site.counted site.tables site.area (number_of xids) e at shown.paged.sound shown.paged.bounds used (agrees site.tables xids (of_tables low site scene shown))))

pub returns-clause-none : goal.returns-clause-none
returns-clause-none c = λ low site scene v name e key shown firm found none quiet uncreated.
    let number = number_of (xids_of site.tables scene.run.commits) in
    sym (rows_told low site scene shown v firm name e found quiet uncreated key)
    ∙ ap (newest_since number v.t.snapshot) (slot_wasnt (is_committed_in site.tables) site.area e key found.0 (λ b in_ used is. none b (in_, used) is))

pub returns-clause-refused : goal.returns-clause-refused
returns-clause-refused c = λ low site scene v name e at shown firm found used quiet settled.
    let xids = xids_of site.tables scene.run.commits in
    ap (above v.t.snapshot) (c.a_slot_is_read_as_its_row.ensures.newest site.counted site.tables site.area (number_of xids) e at shown.paged.sound shown.paged.bounds used (agrees site.tables xids (of_tables low site scene shown)))
    ∙ rows_refused low site scene shown v firm name e found quiet (site.area.slot at).key settled

pub returns-clause-unrefused : goal.returns-clause-unrefused
returns-clause-unrefused c = λ low site scene v name e key shown firm found none quiet settled.
    let number = number_of (xids_of site.tables scene.run.commits) in
    sym (rows_refused low site scene shown v firm name e found quiet key settled)
    ∙ ap (newest_since number v.t.snapshot) (slot_wasnt (is_committed_in site.tables) site.area e key found.0 (λ b in_ used is. none b (in_, used) is))
