use Rattle.std.proofs.Common.{sym, ◌∙◌}
use Rattle.ctr_paged.specs.Paged.{xids_of}
use Rattle.ctr_views.proofs.Looking.{of_tables}
use Rattle.ctr_views.proofs.Reading.{row_viewed, none_viewed}
use Rattle.ctr_views.proofs.rows.the_view_has_what_slots_show.Goals as goal

pub returns-clause-used : goal.returns-clause-used
returns-clause-used c = λ low site scene v name e at shown firm found used.
    row_viewed low site scene shown v firm name e found (site.area.slot at).key
    ∙ sym (c.a_slot_is_read_as_its_row.ensures.session site.counted site.tables site.area (xids_of site.tables scene.run.commits) v.session v.me e at shown.paged.sound shown.paged.bounds used (of_tables low site scene shown) v.is_me)

pub returns-clause-none : goal.returns-clause-none
returns-clause-none c = λ low site scene v name e key shown firm found none. none_viewed low site scene shown v firm name e found key none
