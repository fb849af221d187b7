use Rattle.std.proofs.Common.{sym, ap, subst}
use Rattle.ctr_model.specs.Database.{table_at}
use Rattle.ctr_model.specs.State.{view}
use Rattle.ctr_model.specs.Refusals.{columns_of}
use Rattle.ctr_record_effects.specs.States.{area_in}
use Rattle.ctr_reading.specs.actions_Sites.{site_of}
use Rattle.ctr_reading.specs.ctr_views.Viewing.{sees_by}
use Rattle.ctr_wishes.specs.Preparing.{IsMadeIn}
use Rattle.ctr_wishes.proofs.Chains.{there_columns, seen_good}
use Rattle.ctr_wishes.proofs.Modelled.{modelled}
use Rattle.ctr_wishes.proofs.Unrefused.{values_fine}
use Rattle.ctr_wishes.proofs.laws.what_is_prepared_is_the_models.Goals as goal

pub returns : goal.returns
returns c = λ low s scene v name e statement p shown db firm found named free prepared.
    let site = site_of s in
    let area = area_in s in
    let test = sees_by site v in
    let table = table_at (view scene.state v.t) name in
    let there = c.a_scan_gives_the_table.ensures.gathered low site scene v name e shown firm found in
    let made = subst (λ o. IsMadeIn test area e statement o p) (there_columns test name area e found) prepared in
    let keyed = c.an_entry_has_columns.ensures.keyed (area.title e).columns made.columns in
    let row = sym (c.rows_are_those_of_the_view.ensures.row low site scene v name e made.key made.row shown firm found made.seen) in
    modelled (view scene.state v.t) name (area.title e).columns statement made.key made.row keyed made.wide named made.written (ap columns_of there) row
    p (values_fine scene.state v.s v.t statement name _ named there free) (seen_good s db e keyed test made.key made.row made.seen) made.wished
