use Rattle.std.specs.Prelude.{◌&&◌, nat_lt}
use Rattle.ctr_kept.specs.ctr_paged.area_Images.{is_committed_in}
use Rattle.ctr_kept.specs.Turns.{scene_now}
use Rattle.ctr_cleaning.proofs.Away.{Laws, away_from_all, stays}
use Rattle.ctr_cleaning.proofs.laws.what_is_cleaned_is_kept.Goals as goal

pub returns : goal.returns
returns c = λ run now later low site w a keeps le may owed bounds.
    let scene = scene_now run w in
    let shown = keeps.scene.shown in
    let marked = c.the_low_mark_is_old.ensures keeps.scene.low site scene shown in
    let laws : Laws = record {
      slots = c.locked_rows_are_away.ensures.slots;
      copies = c.locked_rows_are_away.ensures.copies;
      tables = c.live_tables_are_away.ensures;
      dying = c.a_dying_table_is_away.ensures;
    } in
    c.an_action_of_nobodys_is_kept.ensures run now later marked.0 site w a keeps le marked.1 owed bounds (stays low marked.0 site scene may.mark marked.2 site.tables.next a may.cleans)
    (away_from_all laws (λ x. is_committed_in site.tables x && nat_lt x low) site.tables.next a site scene w.facts shown.paged.bounds shown.paged.sound may.cleans may.free owed) may.spares
