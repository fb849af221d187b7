use Rattle.std.proofs.Common.{◌≡◌, true, [], ◌∷◌, ◌++◌, None, Some, refl, sym, ◌∙◌, ap, subst}
use Rattle.ctr_types.specs.declared.tape.Act.TheVariants as act
use Rattle.ctr_types.specs.declared.tape.Reply.TheVariants as reply
use Rattle.ctr_model.specs.declared.database.Change.TheVariants as change
use Rattle.ctr_model.specs.Reply.{changes_of}
use Rattle.ctr_model.specs.State.{view, has_name}
use Rattle.ctr_versions.specs.Chains.{changed_since}
use Rattle.ctr_versions.specs.Keys.{schema_writes}
use Rattle.ctr_versions.specs.Laws.{with_own}
use Rattle.ctr_versions.specs.Versions.{name_written}
use Rattle.ctr_area.specs.Changes.{new_title}
use Rattle.ctr_area.specs.Images.{made_by_entry}
use Rattle.ctr_rollback.specs.record_effects_States.{area_in}
use Rattle.ctr_views.proofs.names_Entries.{name_of}
use Rattle.ctr_rollback.specs.actions_Actions.{Creates, Drops, site_after}
use Rattle.ctr_rollback.specs.actions_Facts.{Fact, IsOpen, HasNoPageBut, HasTable, HoldsFact}
use Rattle.ctr_views.specs.actions_Sites.{site_of}
use Rattle.ctr_rollback.specs.paged_Moving.{WritesName, with_its}
use Rattle.ctr_rollback.specs.kept_Turns.{carrying, entry_of, scene_now, state_now, telling}
use Rattle.ctr_rollback.proofs.kept_Tables.{uses_more}
use Rattle.ctr_told.specs.Turning.{facts_idle}
use Rattle.ctr_told.proofs.Idle.{carried_more, idle_blanks}
use Rattle.ctr_told.proofs.Tabled.{acting, is_open, no_page, name_quiet, tables_held, tables_under, apart_free, by_table}
use Rattle.ctr_told.proofs.tables.a_table_that_is_made_or_dropped_is_told.Goals as goal

pub returns-clause-made : goal.returns-clause-made
returns-clause-made g c = λ run opened a b w is e schema f stated comes ends made rested.
    let dev = g.D.Disk in
    let seat = is.seat in
    let s = is.s in
    let me = seat.session.me in
    let site = site_of a.now in
    let shown = is.keeps.walks.scene.shown in
    let acts = made.acts in
    let creates = Creates f is.name schema.columns (area_in b.now) in
    let wrote = name_written is.name (Some (made_by_entry (f, new_title me is.name schema.columns))) in
    let is_change = ap (changes_of (view (state_now run w) seat.t)) stated in
    let z = site_after me creates site in
    let stays = λ (fact : Fact). c.ones_own_action_leaves_what_is_held.ensures me creates fact site shown.paged.bounds shown.paged.few shown.paged.sound acts.does.owed in
    let held = by_table (λ f. HoldsFact me f z) is.more is.tables (λ d title in_. stays (HasTable d title) (apart_free dev run opened a w is d f title made.free in_) tt (tables_held dev run opened a w is (HasTable d title) in_)) in
    let mine = facts_idle ++ is.more in
    let carried = carried_more me seat.t (with_own wrote seat.t) site z is.more is.tables (tables_under dev run opened a w is) (uses_more seat.t (with_own wrote seat.t) (λ name on. on) (λ name on. on)) held
    (stays IsOpen tt tt (is_open dev run opened a w is)) (stays (HasNoPageBut []) tt tt (no_page dev run opened a w is)) in
    let moves : WritesName me is.name (Some (made_by_entry (f, new_title me is.name schema.columns))) (scene_now run w) (with_its s (with_own wrote seat.t) (scene_now run w)) = record { by = acting dev run opened a w is; calm = is.calm.1; holds = is.holds; leads = refl } in
    let turned = c.a_write_is_kept.ensures run (dev.moment_of a.disk) s site w seat e creates wrote mine is.keeps.walks comes is.some is_change acts.does.owed is.holds
    (c.what_is_done_stays.ensures.bounds me creates a.now b.now acts.does) moves carried in
    let told = telling e act.Write reply.Done w (carrying s mine w) in
    c.an_entry_with_a_record_is_kept.ensures run opened a b w told (entry_of s e act.Write reply.Done) s seat creates mine is.keeps is.some acts refl turned ends refl (λ r two. refl) refl (idle_blanks is.more is.tables) rested

pub returns-clause-dropped : goal.returns-clause-dropped
returns-clause-dropped g c = λ run opened a b w is e f rest stated comes ends found acts rested its.
    let dev = g.D.Disk in
    let seat = is.seat in
    let s = is.s in
    let me = seat.session.me in
    let site = site_of a.now in
    let shown = is.keeps.walks.scene.shown in
    let title = (area_in a.now).title f in
    let named = (name_of (area_in a.now).title is.name f found.1).1 in
    let wrote = name_written title.name None in
    let is_change = ap (changes_of (view (state_now run w) seat.t)) stated ∙ ap (λ n. change.Drop n ∷ []) (sym named) in
    let z = site_after me (Drops f) site in
    let stays = λ (fact : Fact). c.ones_own_action_leaves_what_is_held.ensures me (Drops f) fact site shown.paged.bounds shown.paged.few shown.paged.sound acts.does.owed in
    let held = by_table (λ fact. HoldsFact me fact z) rest its.tables (λ d title in_. stays (HasTable d title) (its.others d title in_) tt (tables_held dev run opened a w is (HasTable d title) (its.among (HasTable d title) in_))) in
    let mine = facts_idle ++ rest in
    let carried = carried_more me seat.t (with_own wrote seat.t) site z rest its.tables (λ fact in_. tables_under dev run opened a w is fact (its.among fact in_)) (uses_more seat.t (with_own wrote seat.t) (λ name on. on) (λ name on. on)) held
    (stays IsOpen tt tt (is_open dev run opened a w is)) (stays (HasNoPageBut []) tt tt (no_page dev run opened a w is)) in
    let holds = subst (λ n. has_name n seat.t.holds ≡ true) (sym named) is.holds in
    let writes : WritesName me title.name None (scene_now run w) (with_its s (with_own wrote seat.t) (scene_now run w)) = record { by = acting dev run opened a w is; calm = is.calm.1; holds = holds; leads = refl } in
    let quiet = subst (λ n. changed_since seat.t.snapshot (schema_writes n (state_now run w).asked) ≡ None) (sym named) (name_quiet dev run opened a w is) in
    let turned = c.a_write_is_kept.ensures run (dev.moment_of a.disk) s site w seat e (Drops f) wrote mine is.keeps.walks comes is.some is_change acts.does.owed holds
    (c.what_is_done_stays.ensures.bounds me (Drops f) a.now b.now acts.does) (writes, quiet) carried in
    let told = telling e act.Write reply.Done w (carrying s mine w) in
    c.an_entry_with_a_record_is_kept.ensures run opened a b w told (entry_of s e act.Write reply.Done) s seat (Drops f) mine is.keeps is.some acts refl turned ends refl (λ r two. refl) refl (idle_blanks rest its.tables) rested
