use Rattle.std.proofs.Common.{◌≡◌, ⊎_elim, List, [], ◌++◌, Some, None, refl, sym, ◌∙◌, ap, subst}
use Rattle.std.specs.List.{AllByRecursion}
use Rattle.std.specs.Ordering.{nat_cmp}
use Rattle.std.specs.FinMap.Entries.{find}
use Rattle.ctr_types.specs.declared.tape.Act.TheVariants as act
use Rattle.ctr_types.specs.declared.tape.Reply.TheVariants as reply
use Rattle.ctr_model.specs.Refusals.{first_session, has_lock, key_refusals, locked_by}
use Rattle.ctr_model.specs.Reply.{with_use}
use Rattle.ctr_model.proofs.Sessions.{find-put-same}
use Rattle.ctr_legal.proofs.Keep.{grants as granted_by, key_free}
use Rattle.ctr_versions.specs.Engine.{SessionHeld}
use Rattle.ctr_area.specs.Sound.{IsAmong}
use Rattle.ctr_redo.specs.States.{State as Stored}
use Rattle.ctr_record_effects.specs.States.{area_in}
use Rattle.ctr_session_world.specs.actions_Facts.{Fact, HasTable}
use Rattle.ctr_asking.specs.ctr_wishes.actions_Sites.{Site}
use Rattle.ctr_locks.specs.Held.{locks_key}
use Rattle.ctr_locks.specs.Shows.{IsOnlyEntry}
use Rattle.ctr_session_world.specs.paged_Paged.{Run}
use Rattle.ctr_session_world.specs.paged_Moving.{held_as}
use Rattle.ctr_session_world.specs.txn_Held.{run_of}
use Rattle.ctr_session_world.specs.kept_Walk.{Mind}
use Rattle.ctr_session_world.specs.kept_Turns.{carrying, drawn_mind, state_now, telling}
use Rattle.ctr_session_world.specs.ctr_told.Turning.{facts_idle, TellsTurnOf}
use Rattle.ctr_session_world.specs.World.{names_in}
use Rattle.ctr_session_world.proofs.Alike.{put_in_order, table_of_more}
use Rattle.ctr_session_world.proofs.Numbers.{idle_in}
use Rattle.ctr_looks.proofs.Granted.{grants, idle_reader, locked_told, row_locks_first, shows_now, used_state, without-put}
use Rattle.ctr_session_world.proofs.Standing.{comes}
use Rattle.ctr_looks.proofs.grants.a_row_that_is_locked_is_told.Goals as goal

pub returns-clause-free : goal.returns-clause-free
returns-clause-free g c = λ run opened a b h s statement next free row of mid room used uses ordered.
    let state = state_now run next.mind in
    let t = free.seat.t in
    let names = names_in a.now in
    let shows = c.key_locks_show.ensures.uses names s row.name.now mid.locks used state t uses (c.room_shows_the_same.ensures run opened a b h s statement 0 next mid room) free.seat.is_t in
    let only : IsOnlyEntry names s row.entry row.key used = λ r f two locked same. of.only r f two (sym (ap (locks_key f row.key) (uses.others r two ∙ room.locks.others r two)) ∙ locked) same in
    let keys = (granted_by state s t act.Lock statement row.name.now of.named free.free).keys in
    c.key_locks_are_the_models.ensures.locked names s row.entry row.key used (used_state g.D.Disk run opened a b h s statement next free row of) ordered (put_in_order s (with_use row.name.now t) state next.world.in_order) only shows
    ∙ ap (first_session (has_lock (names row.entry) row.key)) (without-put s (with_use row.name.now t) state.sessions)
    ∙ ap (λ n. locked_by state s n row.key) of.title
    ∙ key_free state s t row.name.now row.key (subst (λ k. AllByRecursion (λ (r : _). r ≡ None) (key_refusals state s t row.name.now k)) of.key keys)

pub returns-clause-told : goal.returns-clause-told
returns-clause-told g c = λ run opened a b h s statement next free row of more idle mid held room takes number.
    let w = next.mind in
    let seat = free.seat in
    let state = state_now run w in
    let x = a.now.tables.next in
    let f = row.entry in
    let title = (area_in a.now).title f in
    let at : find nat_cmp s (run_of mid.txns).sessions ≡ Some seat.session = ap (λ (r : Run). find nat_cmp s r.sessions) (room.run ∙ sym next.world.run_is) ∙ seat.at in
    let come = comes g.D.Disk run opened a b h s statement 0 next act.Lock reply.Granted (row_locks_first state s statement row.key of.key) tt (grants g.D.Disk run opened a b h s statement next free) in
    let tells : TellsTurnOf g.D.Disk run opened a b w s = record { keeps = next.world.keeps; seat = seat; e = next.e; at_end = next.at_end } in
    let shown = shows_now g.D.Disk run opened a b h s statement next free row of mid.locks held.locks takes (c.room_shows_the_same.ensures run opened a b h s statement 0 next mid room) c.key_locks_show.ensures.uses c.key_locks_show.ensures.lock in
    let me_is = ap (λ (b : SessionHeld). b.me) (sym free.same) in
    let told = locked_told g.D.Disk run opened a b h s statement next free row of in
    let now_ = held.txns in
    ⊎_elim
    (λ draws.
    let drawn = draws.run seat.session at in
    let nothing = idle_reader free.txn.session.me seat.session.me more (w.facts s) me_is drawn.0 idle in
    let session : SessionHeld = record seat.session { me = x } in
    let v : Mind = telling next.e act.Lock reply.Granted w (drawn_mind s seat.session x facts_idle w) in
    told [] tt (λ e l in_. absurd (subst (λ (fs : List Fact). IsAmong (HasTable e l) fs) nothing in_)) mid held.locks room takes shown now_ v refl refl
    (ap (held_as s session) (next.world.run_is ∙ sym room.run) ∙ sym drawn.1) refl session (find-put-same s session w.run.sessions) (λ e. ap (λ (z : Site). z.area.title e) draws.acts.does.leaves)
    (c.a_first_lock_is_told.ensures run opened a b w s tells drawn.0 come draws.acts draws.logs) c.a_session_may_count_on_what_holds.ensures)
    (λ has.
    let counted = idle_in free.txn.session.me seat.session.me more (w.facts s) me_is (has.some seat.session at) idle in
    let v : Mind = telling next.e act.Lock reply.Granted w (carrying s (facts_idle ++ more) w) in
    told more counted.0 (λ e l in_. table_of_more e l more (w.facts s) counted.1 in_) mid held.locks room takes shown now_ v refl refl
    (next.world.run_is ∙ sym room.run ∙ sym has.run) refl seat.session seat.at (λ e. ap (λ (q : Stored). (area_in q).title e) has.rests.logs.now)
    (c.a_lock_is_told.ensures run opened a b w s tells more (has.some seat.session at) counted.0 counted.1 come has.rests) c.a_session_may_count_on_what_holds.ensures)
    number
