use Rattle.std.proofs.Common.{⊎_elim, ℤ, List, Some, sym, ◌∙◌, ap}
use Rattle.std.specs.Prelude.{is_some}
use Rattle.std.proofs.lemmas.Bool.{false≢true}
use Rattle.ctr_types.specs.declared.value.Row.{Row}
use Rattle.ctr_model.specs.Database.{table_at}
use Rattle.ctr_model.specs.Refusals.{row_of}
use Rattle.ctr_model.specs.State.{view}
use Rattle.ctr_paged.specs.area_Chains.{slot_places}
use Rattle.ctr_views.specs.Scanning.{rows_scanned}
use Rattle.ctr_views.specs.Viewing.{sees_by}
use Rattle.ctr_views.proofs.Reading.{table_found, seen_rows, seen_sorted}
use Rattle.ctr_views.proofs.Scanning.{scanned_alike, all_scanned, slot_or_none}
use Rattle.ctr_views.proofs.rows.a_scan_gives_the_table.Goals as goal

pub returns-clause-scanned : goal.returns-clause-scanned
returns-clause-scanned c = λ low site scene v name e rows shown firm found scanned.
    let view_has = c.the_view_has_what_slots_show.ensures in
    let at_ = table_found low site scene shown v firm name e found in
    let theirs = seen_rows low site scene shown v firm name e found in
    at_ ∙ ap (λ (rows : List (ℤ × Row)). Some (record { schema = record { columns = (site.area.title e).columns }; rows = rows }))
    (scanned_alike (sees_by site v) site.area e theirs rows (record {
      sorted = seen_sorted low site scene shown v firm name e found;
      used = λ at used. sym (ap (λ o. row_of o (site.area.slot at).key) at_) ∙ view_has.used low site scene v name e at shown firm found used;
      others = λ key none. sym (ap (λ o. row_of o key) at_) ∙ view_has.none low site scene v name e key shown firm found none;
    }) scanned)

pub returns-clause-gathered : goal.returns-clause-gathered
unfolding returns-clause-scanned
returns-clause-gathered c = λ low site scene v name e shown firm found.
    returns-clause-scanned c low site scene v name e (rows_scanned (sees_by site v) site.area (slot_places site.area e)) shown firm found (all_scanned (sees_by site v) site.area e shown.paged.sound.keys)

pub returns-clause-stands : goal.returns-clause-stands
returns-clause-stands c = λ low site scene v name e key row shown firm found is.
    let view_has = c.the_view_has_what_slots_show.ensures in
    ⊎_elim
    (λ its. (its.0, its.1, its.2, sym (view_has.used low site scene v name e its.0 shown firm found its.1) ∙ ap (row_of (table_at (view scene.state v.t) name)) its.2 ∙ is))
    (λ none. absurd (false≢true (ap is_some (sym (view_has.none low site scene v name e key shown firm found none) ∙ is))))
    (slot_or_none (sees_by site v) site.area e key)

pub returns-clause-once : goal.returns-clause-once
returns-clause-once c = λ low site scene e a b shown used_a used_b same. shown.paged.sound.keys.once e a b used_a used_b same
