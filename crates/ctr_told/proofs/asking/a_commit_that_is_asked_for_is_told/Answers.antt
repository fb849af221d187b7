use Rattle.std.proofs.Common.{◌+◌, [], Some, length, refl, ap, subst}
use Rattle.ctr_types.specs.declared.tape.Act.TheVariants as act
use Rattle.ctr_types.specs.declared.tape.Reply.TheVariants as reply
use Rattle.ctr_versions.proofs.Keys.{known}
use Rattle.ctr_rollback.specs.actions_Actions.{Commits}
use Rattle.ctr_rollback.specs.actions_Facts.{IsOpen, HasNoPageBut}
use Rattle.ctr_views.specs.actions_Sites.{Site, site_of}
use Rattle.ctr_rollback.specs.paged_Moving.{IsActing, AsksCommit}
use Rattle.ctr_rollback.specs.kept_Walk.{Mind}
use Rattle.ctr_rollback.specs.kept_Turns.{InTransaction, asked_scene, carrying, entry_of, scene_now, state_now, telling}
use Rattle.ctr_rollback.proofs.kept_Tables.{no_blank, titles_held, carries_more, uses_more}
use Rattle.ctr_rollback.proofs.kept_Walking.{keeps_reached}
use Rattle.ctr_rollback.specs.stops_World.{KeepsWorld}
use Rattle.ctr_rollback.proofs.Worlds.{carries_none}
use Rattle.ctr_told.proofs.Acting.{is_ready, asked_now}
use Rattle.ctr_told.proofs.Idle.{idle_open, idle_none}
use Rattle.ctr_told.proofs.Silent.{last_carried}
use Rattle.ctr_told.proofs.asking.a_commit_that_is_asked_for_is_told.Goals as goal

pub returns-clause-owed : goal.returns-clause-owed
returns-clause-owed g c = λ run opened a w s seat more world idle.
    let held = world.walks.scene.carried.held s seat.session in
    c.what_is_held_pays.ensures.committed seat.session.me (site_of a.now) (held IsOpen seat.at (idle_open more (w.facts s) idle)) (held (HasNoPageBut []) seat.at (idle_none more (w.facts s) idle))

pub returns-clause-told : goal.returns-clause-told
returns-clause-told g c = λ run opened a b w s tells more some tables among comes acts rested.
    let seat = tells.seat in
    let e = tells.e in
    let t = seat.t in
    let me = seat.session.me in
    let world = tells.keeps in
    let now = g.D.Disk.moment_of a.disk in
    let site = site_of a.now in
    let state = state_now run w in
    let r = reply.Asked (length state.asked + 1) in
    let reached = keeps_reached run.lines run.moment run.base run.stuck run.size now site w world.walks in
    let unasked = is_ready run now s w e act.Ask r comes reached seat in
    let calm = known seat.session.undoing (λ undoing. absurd (cc (c.who_rolls_back_is_at_its_rollback.ensures.next run now s site w seat e act.Ask r world.walks undoing comes).0)) (λ isnt. isnt) in
    let by : IsActing (scene_now run w) me = record { s = s; session = seat.session; t = t; at = seat.at; is_t = seat.is_t; unasked = unasked; me = refl } in
    let moves : AsksCommit me (scene_now run w) (asked_scene seat) = record { by = by; calm = calm; untouched = c.locks_keep_others_off.ensures.tables state s t reached.kept seat.is_t unasked; leads = refl } in
    let turned = c.a_commit_is_asked_for.ensures run now s site w seat e world.walks comes some acts.does.owed (c.what_is_done_stays.ensures.bounds me Commits a.now b.now acts.does) moves in
    let v = telling e act.Ask r w (record (carrying s [] w) { run = (asked_scene seat).run }) in
    let asked = c.an_entry_with_a_record_is_kept.ensures run opened a b w v (entry_of s e act.Ask r) s seat Commits [] world some acts refl turned tells.at_end refl (λ q two. refl) refl (λ p h in_. in_) rested in
    let u = record t { asked = Some (length state.asked + 1) } in
    let waits : InTransaction run v s = record { session = seat.session; t = u; at = seat.at; is_t = asked_now run now s w e act.Ask r comes (length state.asked + 1) refl refl seat v refl } in
    let keeps = world.walks.scene in
    let z = site_of b.now in
    let held = titles_held me more tables site z (λ f in_. keeps.carried.held s seat.session f seat.at (among f in_)) (λ n. ap (λ (y : Site). y.area.title n) acts.does.leaves) in
    let carries = carries_more me more tables t u site z [] (λ f in_. keeps.carried.under s t f seat.is_t (among f in_)) (uses_more t u (λ name on. on) (λ name on. on)) held (carries_none me u z) in
    subst (λ (m : Mind). KeepsWorld g.D.Disk run opened b m) (last_carried s more w v refl)
    (c.a_session_may_count_on_what_holds.ensures run opened b v s waits more asked carries (λ p h in_. absurd (no_blank more tables p h in_)))
