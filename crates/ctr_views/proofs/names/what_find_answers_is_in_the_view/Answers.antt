use Rattle.std.proofs.Common.{◌≡◌, Option, Some, None, refl, sym, ap}
use Rattle.std.specs.Prelude.{is_some}
use Rattle.std.specs.Option.{option_map}
use Rattle.std.proofs.lemmas.Bool.{false≢true}
use Rattle.ctr_model.specs.declared.database.Table.{Table}
use Rattle.ctr_model.specs.Database.{table_at}
use Rattle.ctr_model.specs.State.{view}
use Rattle.ctr_paged.proofs.names_Search.{found_viewed, missed_viewed}
use Rattle.ctr_paged.specs.Paged.{xids_of}
use Rattle.ctr_views.proofs.Looking.{of_tables, names_shown, look, looking, found_as}
use Rattle.ctr_views.proofs.names.what_find_answers_is_in_the_view.Goals as goal

none_mapped : {X Y : Type 0} (f : X → Y) (o : Option X) → option_map f o ≡ None → o ≡ None
none_mapped f None e = refl
none_mapped f (Some x) e = absurd (false≢true (sym (ap is_some e)))

pub returns-clause-found : goal.returns-clause-found
returns-clause-found c = λ low site scene v name e shown firm finds_.
    let xids = xids_of site.tables scene.run.commits in
    let looker = look low site scene shown v firm name in
    let its = c.what_find_answers_is_found.ensures.found site.counted site.tables site.area xids looker v.me finds_.0 e shown.paged.sound (of_tables low site scene shown) v.is_me finds_.1 in (
      found_as low site scene shown v name e its,
      found_viewed site.counted low site.tables site.area xids scene.state looker shown.paged.sound shown.paged.bounds (names_shown low site scene shown) (looking low site scene shown v firm name) e its.0 its.1 its.2,
    )

pub returns-clause-none : goal.returns-clause-none
returns-clause-none c = λ low site scene v name shown firm finds_.
    let xids = xids_of site.tables scene.run.commits in
    let looker = look low site scene shown v firm name in
    none_mapped (λ (t : Table). t.schema) (table_at (view scene.state v.t) name)
    (missed_viewed site.counted low site.tables site.area xids scene.state looker shown.paged.sound shown.paged.bounds (names_shown low site scene shown) (looking low site scene shown v firm name)
    (c.what_find_answers_is_found.ensures.none site.counted site.tables site.area xids looker v.me finds_.0 shown.paged.sound (of_tables low site scene shown) v.is_me finds_.1))
