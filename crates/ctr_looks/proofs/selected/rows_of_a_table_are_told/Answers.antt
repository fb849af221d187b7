use Rattle.std.proofs.Common.{◌≡◌, inl, ℕ, ℤ, true, Some, refl, sym, ◌∙◌, ap, subst}
use Rattle.ctr_types.specs.declared.statement.Statement.{Statement}
use Rattle.ctr_types.specs.declared.statement.Statement.TheVariants as st
use Rattle.ctr_types.specs.declared.tape.Act.TheVariants as act
use Rattle.ctr_types.specs.declared.tape.Reply.{Reply}
use Rattle.ctr_types.specs.declared.tape.Reply.TheVariants as reply
use Rattle.ctr_model.specs.Reply.{next_from, refused_or, reply_from, rows_read, with_use}
use Rattle.ctr_model.specs.State.{view, with_transaction}
use Rattle.ctr_model.specs.Tape.{Allowed}
use Rattle.ctr_versions.specs.Engine.{SessionHeld}
use Rattle.ctr_redo.specs.States.{State as Stored}
use Rattle.ctr_record_effects.specs.States.{area_in}
use Rattle.ctr_asking.specs.ctr_wishes.actions_Sites.{site_of}
use Rattle.ctr_locks.specs.Held.{held_by_session, locks_key, session_locks}
use Rattle.ctr_session_world.specs.kept_Walk.{Mind}
use Rattle.ctr_session_world.specs.kept_Turns.{scene_now, state_now, telling}
use Rattle.ctr_session_world.proofs.kept_Walking.{keeps_reached}
use Rattle.ctr_asking.specs.ctr_wishes.ctr_views.Viewing.{Viewer}
use Rattle.ctr_session_world.specs.ctr_told.Turning.{IdleCountsOn, TellsTurnOf}
use Rattle.ctr_session_world.proofs.ctr_told.Silent.{same_carried}
use Rattle.ctr_asking.specs.Asking.{me_held}
use Rattle.ctr_asking.proofs.Passing.{number_held}
use Rattle.ctr_session_world.specs.World.{IsInTable, names_in}
use Rattle.ctr_session_world.proofs.Alike.{in_table_still}
use Rattle.ctr_session_world.proofs.Changed.{changed_told}
use Rattle.ctr_session_world.proofs.Standing.{comes, told_state}
use Rattle.ctr_looks.proofs.selected.rows_of_a_table_are_told.Goals as goal

pub returns : goal.returns
returns g c = λ run opened a b h s name at next free e stands rows shown more idle mid room left uses rested.
    let w = next.mind in
    let seat = free.seat in
    let t = seat.t in
    let state = state_now run w in
    let statement : Statement = st.Select name at in
    let said : Reply = reply.Rows rows in
    let scene = next.world.keeps.walks.scene in
    let viewer : Viewer (scene_now run w) = record { s = s; session = free.txn.session; t = t; me = me_held free.txn; at = seat.at ∙ ap Some free.same; is_t = seat.is_t; calm = free.calm; is_me = number_held free.txn } in
    let kept = (keeps_reached run.lines run.moment run.base run.stuck run.size (g.D.Disk.moment_of a.disk) (site_of a.now) w next.world.keeps.walks).kept in
    let same = c.rows_are_those_of_the_view.ensures.rows scene.low (site_of a.now) (scene_now run w) viewer name e at rows.rows scene.shown (kept.firm s t seat.is_t free.calm.0) stands.found shown in
    let allowed : Allowed state s act.Read statement said =
    inl (ap (λ l. reply.Rows (record { rows = l })) same ∙ sym (ap (λ o. reply_from state s o act.Read statement) seat.is_t ∙ ap (λ o. refused_or o (reply.Rows (record { rows = rows_read (view state t) statement }))) free.free)) in
    let come = comes g.D.Disk run opened a b h s statement 0 next act.Read said refl tt allowed in
    let tells : TellsTurnOf g.D.Disk run opened a b w s = record { keeps = next.world.keeps; seat = seat; e = next.e; at_end = next.at_end } in
    let keeps = c.rows_that_are_read_are_told.ensures run opened a b w s tells rows more (subst (λ (q : SessionHeld). IdleCountsOn q.me more (w.facts s)) (sym free.same) idle) come rested in
    let v : Mind = telling next.e act.Read said w w in
    let is_state = told_state g.D.Disk run opened a b h s statement 0 next act.Read said v refl ∙ ap (λ o. next_from state s o act.Read (Some statement) said) seat.is_t in
    let shows = c.key_locks_show.ensures.uses (names_in a.now) s name mid.locks left state t uses (c.room_shows_the_same.ensures run opened a b h s statement 0 next mid room) seat.is_t in
    let own : (f : ℕ) (k : ℤ) → session_locks s f k left ≡ true → IsInTable a.now f (with_use name t) (w.facts s) = λ f k is.
    in_table_still a.now a.now f t (with_use name t) (w.facts s) (w.facts s) refl (λ n is. is) (λ in_. in_)
    (next.world.tables s f k t (sym (ap (λ l. locks_key f k (record (held_by_session s mid.locks) { keys = l })) uses.here.keys ∙ room.locks.here.keys f k) ∙ is) seat.is_t) in
    (changed_told g.D.Disk run opened a b h s statement 0 next act.Read said (with_use name t) (with_transaction s (with_use name t) state) refl v (w.facts s) (sym (ap (λ (m : Mind). m.facts) (same_carried s w)))
    left (λ q two. uses.others q two ∙ room.locks.others q two) (λ f. ap (λ (q : Stored). (area_in q).title f) rested.logs.now) own mid.txns (next.world.run_is ∙ sym room.run) refl refl is_state shows refl keeps).0
