use Rattle.std.proofs.Common.{◌≡◌, ⊎_elim, List, [], ◌++◌, Some, refl, sym, ◌∙◌, ap, subst}
use Rattle.std.specs.Ordering.{nat_cmp}
use Rattle.std.specs.FinMap.Entries.{find}
use Rattle.ctr_types.specs.declared.tape.Act.TheVariants as act
use Rattle.ctr_types.specs.declared.tape.Reply.TheVariants as reply
use Rattle.ctr_model.proofs.Sessions.{find-put-same}
use Rattle.ctr_versions.specs.Engine.{SessionHeld}
use Rattle.ctr_area.specs.Sound.{IsAmong}
use Rattle.ctr_redo.specs.States.{State as Stored}
use Rattle.ctr_record_effects.specs.States.{area_in}
use Rattle.ctr_session_world.specs.actions_Facts.{Fact, HasTable}
use Rattle.ctr_asking.specs.ctr_wishes.actions_Sites.{Site}
use Rattle.ctr_session_world.specs.paged_Paged.{Run}
use Rattle.ctr_session_world.specs.paged_Moving.{held_as}
use Rattle.ctr_session_world.specs.txn_Held.{run_of}
use Rattle.ctr_session_world.specs.kept_Walk.{Mind}
use Rattle.ctr_session_world.specs.kept_Turns.{carrying, drawn_mind, state_now, telling}
use Rattle.ctr_session_world.specs.ctr_told.Turning.{facts_idle, TellsTurnOf}
use Rattle.ctr_session_world.proofs.Numbers.{idle_in}
use Rattle.ctr_looks.proofs.Granted.{grants, idle_reader}
use Rattle.ctr_looks.proofs.Naming.{held_found}
use Rattle.ctr_session_world.proofs.Standing.{comes}
use Rattle.ctr_looks.proofs.grants.a_name_that_is_held_is_told.Goals as goal

pub returns : goal.returns
returns g c = λ run opened a b h s statement next free first name of found stands more idle mid held room holds number.
    let w = next.mind in
    let seat = free.seat in
    let state = state_now run w in
    let x = a.now.tables.next in
    let at : find nat_cmp s (run_of mid.txns).sessions ≡ Some seat.session = ap (λ (r : Run). find nat_cmp s r.sessions) (room.run ∙ sym next.world.run_is) ∙ seat.at in
    let come = comes g.D.Disk run opened a b h s statement 0 next act.Lock reply.Granted (first state s) tt (grants g.D.Disk run opened a b h s statement next free) in
    let tells : TellsTurnOf g.D.Disk run opened a b w s = record { keeps = next.world.keeps; seat = seat; e = next.e; at_end = next.at_end } in
    let shown = c.room_shows_the_same.ensures run opened a b h s statement 0 next mid room in
    let me_is = ap (λ (b : SessionHeld). b.me) (sym free.same) in
    let told = held_found g.D.Disk run opened a b h s statement next free name of.named of.keyless in
    let may = c.a_session_may_count_on_what_holds.ensures in
    ⊎_elim
    (λ draws.
    let drawn = draws.run seat.session at in
    let nothing = idle_reader free.txn.session.me seat.session.me more (w.facts s) me_is drawn.0 idle in
    let session : SessionHeld = record seat.session { me = x } in
    let v : Mind = telling next.e act.Lock reply.Granted w (drawn_mind s seat.session x facts_idle w) in
    told [] tt (λ e l in_. absurd (subst (λ (fs : List Fact). IsAmong (HasTable e l) fs) nothing in_)) mid held.locks room holds held.txns v refl refl
    (ap (held_as s session) (next.world.run_is ∙ sym room.run) ∙ sym drawn.1) refl session (find-put-same s session w.run.sessions) (λ e. ap (λ (z : Site). z.area.title e) draws.acts.does.leaves) shown c.key_locks_show.ensures.hold
    (c.a_first_lock_is_told.ensures run opened a b w s tells drawn.0 come draws.acts draws.logs) may found stands)
    (λ has.
    let counted = idle_in free.txn.session.me seat.session.me more (w.facts s) me_is (has.some seat.session at) idle in
    let v : Mind = telling next.e act.Lock reply.Granted w (carrying s (facts_idle ++ more) w) in
    told more counted.0 (λ e l in_. subst (λ (fs : List Fact). IsAmong (HasTable e l) fs) counted.1 in_) mid held.locks room holds held.txns v refl refl
    (next.world.run_is ∙ sym room.run ∙ sym has.run) refl seat.session seat.at (λ e. ap (λ (q : Stored). (area_in q).title e) has.rests.logs.now) shown c.key_locks_show.ensures.hold
    (c.a_lock_is_told.ensures run opened a b w s tells more (has.some seat.session at) counted.0 counted.1 come has.rests) may found stands)
    number
