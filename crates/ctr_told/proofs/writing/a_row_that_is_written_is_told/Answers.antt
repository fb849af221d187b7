use Rattle.std.proofs.Common.{◌≡◌, true, [], ◌∷◌, ◌++◌, None, Some, refl, sym, subst}
use Rattle.ctr_types.specs.declared.tape.Act.TheVariants as act
use Rattle.ctr_types.specs.declared.tape.Reply.TheVariants as reply
use Rattle.ctr_model.specs.Reply.{changes_of}
use Rattle.ctr_model.specs.State.{view}
use Rattle.ctr_versions.specs.Keys.{row_written}
use Rattle.ctr_versions.specs.Laws.{with_own}
use Rattle.ctr_versions.proofs.Keys.{known}
use Rattle.ctr_area.specs.Areas.{Title}
use Rattle.ctr_area.specs.Images.{made_by_entry}
use Rattle.ctr_area.specs.Reading.{version_said}
use Rattle.ctr_model.specs.Refusals.{has_lock}
use Rattle.ctr_legal.specs.Ready.{HasKey}
use Rattle.ctr_sessions.specs.Answers.{Seat}
use Rattle.ctr_sessions.specs.Laws.{IsSeat}
use Rattle.ctr_rollback.specs.actions_Actions.{Writes, site_after}
use Rattle.ctr_rollback.specs.actions_Facts.{Fact, IsOpen, HasTable, HasBlank, HasNoPageBut}
use Rattle.ctr_views.specs.actions_Sites.{site_of}
use Rattle.ctr_area.specs.Sound.{IsAmong}
use Rattle.ctr_rollback.specs.paged_Moving.{IsActing, WritesRow, with_its}
use Rattle.ctr_views.specs.paged_Paged.{engine_at}
use Rattle.ctr_views.specs.Viewing.{Viewer}
use Rattle.ctr_views.proofs.Looking.{session_shown}
use Rattle.ctr_views.proofs.Reading.{found_made}
use Rattle.ctr_rollback.specs.kept_Turns.{carrying, entry_of, scene_now, state_now, telling}
use Rattle.ctr_rollback.proofs.kept_Tables.{by_parts, no_blank, titles_held, carries_more, uses_more}
use Rattle.ctr_rollback.proofs.kept_Walking.{keeps_reached, keeps_begun}
use Rattle.ctr_write.specs.Carrying.{wish_of, facts_looking}
use Rattle.ctr_write.specs.declared.stages.Written.TheVariants.{Done}
use Rattle.ctr_write.specs.Laying.{move_of}
use Rattle.ctr_write.proofs.Carried.{opens_table}
use Rattle.ctr_told.proofs.Acting.{is_ready}
use Rattle.ctr_told.proofs.Rows.{laid, more_among, without_page, carried_done, none_blank}
use Rattle.ctr_told.proofs.writing.a_row_that_is_written_is_told.Goals as goal

pub returns : goal.returns
returns g c = λ run opened a b w writes e of comes is ends rested.
    let seat = writes.seat in
    let s = writes.s in
    let t = seat.t in
    let me = seat.session.me in
    let en = writes.entry in
    let title = writes.title in
    let key = writes.key in
    let site = site_of a.now in
    let now = g.D.Disk.moment_of a.disk in
    let world = writes.keeps in
    let state = state_now run w in
    let scene = scene_now run w in
    let keeps = world.walks.scene in
    let low = keeps.low in
    let shown = keeps.shown in
    let reached = keeps_reached run.lines run.moment run.base run.stuck run.size now site w world.walks in
    let ready = is_ready run now s w e act.Write reply.Done comes reached seat in
    let calm = known seat.session.undoing (λ undoing. absurd (cc (c.who_rolls_back_is_at_its_rollback.ensures.next run now s site w seat e act.Write reply.Done world.walks undoing comes).0)) (λ isnt. isnt) in
    let wish = wish_of writes in
    let lays = laid wish a.now b.now writes.stage ends in
    let m = move_of wish lays.0 lays.1 a.now in
    let acts = lays.2 in
    let both = opens_table title en key writes.stage writes.more (w.facts s) writes.carries in
    let held = λ (f : Fact) (in_ : IsAmong f (w.facts s)). keeps.carried.held s seat.session f seat.at in_ in
    let has = held (HasTable en title) both.1 in
    let under = keeps.carried.under s t (HasTable en title) seat.is_t both.1 in
    let none = held (HasNoPageBut []) (without_page wish a.now b.now Done tt title en key writes.stage writes.more (w.facts s) writes.carries ends) in
    let v : Viewer scene = record { s = s; session = seat.session; t = t; me = Some me; at = seat.at; is_t = seat.is_t; calm = (ready.unasked, calm); is_me = refl } in
    let found = c.a_table_that_is_counted_on_is_found.ensures.found low site scene v en title shown reached.kept of.entry has under in
    let firm = reached.kept.firm s t seat.is_t ready.unasked in
    let made = made_by_entry (en, site.area.title en) in
    let made_is = found_made low site scene shown v firm title.name en found in
    let seated : Seat = record { db = record { engine = engine_at site w.run; since = w.since }; session = seat.session; since = t.snapshot; busy = None; locked = λ k. None } in
    let is_seat : IsSeat low state s t seated = record {
      shows = keeps_begun run.lines run.moment run.base run.stuck run.size now site w world.walks;
      kept = reached.kept;
      here = record { there = seat.is_t; held = seat.at; shown = session_shown low site scene shown v; unasked = ready.unasked; calm = calm };
      since = refl;
    } in
    let has_key = subst (λ o. HasKey t title.name o) of.key (ready.under title.name of.table) in
    let keys = c.locks_keep_others_off.ensures.keys low state s t seated title.name key made is_seat made_is has_key writes.some in
    let by : IsActing scene me = record { s = s; session = seat.session; t = t; at = seat.at; is_t = seat.is_t; unasked = ready.unasked; me = refl } in
    let change = row_written title.name m.key m.row in
    let is_change = subst (λ (l : Title). changes_of (view state t) e.statement ≡ row_written title.name key (version_said l.columns key writes.head).1 ∷ []) (sym has) of.change in
    let covers = subst (λ (l : Title). has_lock l.name key t ≡ true) (sym has) writes.lock in
    let moves : WritesRow me m site scene (with_its s (with_own change t) scene) = record { by = by; table = title.name; on = keys.0; free = keys.1; leads = refl } in
    let stays = λ (f : Fact). c.ones_own_action_leaves_what_is_held.ensures me (Writes m) f site shown.paged.bounds shown.paged.few shown.paged.sound acts.does.owed in
    let its = facts_looking title en in
    let more = writes.more in
    let mine = its ++ more in
    let z = site_after me (Writes m) site in
    let others = more_among wish a.now b.now title en key writes.stage more (w.facts s) writes.carries in
    let carried = carries_more me more writes.tables t (with_own change t) site z its (λ f in_. keeps.carried.under s t f seat.is_t (others f in_)) (uses_more t (with_own change t) (λ name is_. is_) (λ name is_. is_))
    (titles_held me more writes.tables site z (λ f in_. held f (others f in_)) (λ n. refl)) (carried_done me (with_own change t) title en z (stays IsOpen tt tt (held IsOpen both.0)) (stays (HasTable en title) tt tt has) under (stays (HasNoPageBut []) tt tt none)) in
    let turned = c.a_write_is_kept.ensures run now s site w seat e (Writes m) change mine world.walks comes writes.some is_change acts.does.owed covers
    (c.what_is_done_stays.ensures.bounds me (Writes m) a.now b.now acts.does) moves carried in
    let told = telling e act.Write reply.Done w (carrying s mine w) in
    c.an_entry_with_a_record_is_kept.ensures run opened a b w told (entry_of s e act.Write reply.Done) s seat (Writes m) mine world writes.some acts refl turned is refl (λ r two. refl) refl (λ p h in_. by_parts (HasBlank p h) its more in_ (none_blank me t title en site p h) (no_blank more writes.tables p h)) rested
