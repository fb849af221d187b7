use Rattle.ctr_model.specs.Database.{table_at}
use Rattle.ctr_model.specs.State.{view}
use Rattle.ctr_views.specs.Viewing.{sees_by}
use Rattle.ctr_reading.proofs.Viewed.{rows_viewed, row_viewed}
use Rattle.ctr_reading.proofs.laws.rows_are_those_of_the_view.Goals as goal

pub returns-clause-rows : goal.returns-clause-rows
returns-clause-rows c = λ low site scene v name e at rows shown firm found are.
    let o = table_at (view scene.state v.t) name in
    rows_viewed o (site.area.title e).columns (sees_by site v) site.area e
    (λ entries scanned. c.a_scan_gives_the_table.ensures.scanned low site scene v name e entries shown firm found scanned)
    (λ key row seen. row_viewed o (sees_by site v) site.area e key row (λ place used. c.the_view_has_what_slots_show.ensures.used low site scene v name e place shown firm found used)
    (λ none. c.the_view_has_what_slots_show.ensures.none low site scene v name e key shown firm found none) seen)
    at rows are
