use Rattle.std.proofs.Common.{◌≡◌, ◌∷◌, [], ℕ, ◌<◌, ◌==◌, true, false, cond, List, Some, refl, sym, ◌∙◌, subst, arith}
use Rattle.std.proofs.lemmas.Bool.{false≢true}
use Rattle.std.specs.Ordering.{nat_cmp}
use Rattle.std.specs.FinMap.Entries.{find}
use Rattle.ctr_types.specs.declared.tape.Act.TheVariants as act
use Rattle.ctr_types.specs.declared.tape.Reply.TheVariants as reply
use Rattle.ctr_model.specs.Tape.{progress_of}
use Rattle.ctr_model.proofs.Sessions.{find-put-other}
use Rattle.ctr_versions.specs.Engine.{SessionHeld}
use Rattle.ctr_versions.proofs.Keys.{known}
use Rattle.ctr_page.specs.declared.header.Header.{Header}
use Rattle.ctr_area.specs.Sound.{IsAmong}
use Rattle.ctr_rollback.specs.actions_Actions.{Begins, site_after}
use Rattle.ctr_rollback.specs.actions_Facts.{Fact, HasBlank}
use Rattle.ctr_views.specs.actions_Sites.{Site, site_of}
use Rattle.ctr_sessions.specs.Sessions.{IsDrawnFor}
use Rattle.ctr_rollback.specs.paged_Moving.{IsActing, DrawsNumber}
use Rattle.ctr_rollback.specs.kept_Turns.{KeepsRun, drawn_mind, drawn_scene, entry_of, granted_to, point_now, scene_now, state_now, telling}
use Rattle.ctr_rollback.proofs.kept_Walking.{keeps_reached}
use Rattle.ctr_rollback.proofs.Worlds.{no_answer}
use Rattle.ctr_told.specs.Turning.{facts_idle}
use Rattle.ctr_told.proofs.Acting.{act_of, is_ready}
use Rattle.ctr_told.proofs.Granting.{granted_so, granted_writer}
use Rattle.ctr_told.proofs.Idle.{carried_idle, idle_blank}
use Rattle.ctr_told.proofs.locking.a_first_lock_is_told.Goals as goal

none_below : (n : ℕ) → 0 < n → n ≡ 0 → ⊥
none_below n some zero_ = omega (arith, some, zero_)

beyond : (d n : ℕ) → d < n → d ≡ n → ⊥
beyond d n lt is = omega (arith, lt, is)

-- the others count on the empty pages that they counted on
no_more : (s : ℕ) (facts : ℕ → List Fact) (r : ℕ) (b : SessionHeld) (c : SessionHeld) (sessions : List (ℕ × SessionHeld)) (now : List (ℕ × SessionHeld)) (p : ℕ) (h : Header)
    → ((r == s) ≡ false → find nat_cmp r now ≡ find nat_cmp r sessions) → find nat_cmp r now ≡ Some b → (x : _) → (r == s) ≡ x → IsAmong (HasBlank p h) (cond x facts_idle (facts r))
    → (d : SessionHeld) × (find nat_cmp r sessions ≡ Some d) × IsAmong (HasBlank p h) (facts r)
no_more s facts r b c sessions now p h others at true one is = absurd (idle_blank p h is)
no_more s facts r b c sessions now p h others at false two is = (b, sym (others two) ∙ at, is)

pub returns : goal.returns
returns g c = λ run opened a b w s tells zero_ comes acts rested.
    let seat = tells.seat in
    let e = tells.e in
    let t = seat.t in
    let world = tells.keeps in
    let now = g.D.Disk.moment_of a.disk in
    let later = g.D.Disk.moment_of b.disk in
    let site = site_of a.now in
    let next = a.now.tables.next in
    let keeps = world.walks.scene in
    let paged = keeps.shown.paged in
    let reached = keeps_reached run.lines run.moment run.base run.stuck run.size now site w world.walks in
    let ready = is_ready run now s w e act.Lock reply.Granted comes reached seat in
    let u = granted_to e t in
    let so = granted_so e.statement t in
    let writer = granted_writer (state_now run w) s (progress_of (point_now run w) s).made e.statement t (act_of run now s w e act.Lock reply.Granted comes).next_act in
    let was = keeps.begun.drawn s t seat.session seat.is_t seat.at in
    let reads = known t.writer (λ yes. absurd (none_below seat.session.me (was.writer yes) zero_)) (λ no. no) in
    let session = record seat.session { me = next } in
    let by : IsActing (scene_now run w) 0 = record { s = s; session = seat.session; t = t; at = seat.at; is_t = seat.is_t; unasked = ready.1; me = zero_ } in
    let moves : DrawsNumber next (scene_now run w) (drawn_scene seat next u) = record { by = by; granted = u; is_granted = so.0; unwritten = reached.kept.readers s t seat.is_t reads; leads = refl } in
    let drawn : IsDrawnFor session u = record { writer = λ yes. paged.some; reader = λ no. absurd (false≢true (sym no ∙ writer)) } in
    let carried = carried_idle next u (site_after next Begins site) (c.an_action_gives_its_fact.ensures.begun next site) (c.who_draws_a_number_has_no_page.ensures site paged.sound) in
    let turned = c.a_number_is_drawn.ensures run now s site w seat e facts_idle world.walks comes acts.does.owed (c.what_is_done_stays.ensures.bounds next Begins a.now b.now acts.does) moves so.0.snapshot drawn carried in
    let v = telling e act.Lock reply.Granted w (drawn_mind s seat.session next facts_idle w) in
    let walks = subst (λ (z : Site). KeepsRun run later z v) (sym acts.does.leaves) (subst (λ n. KeepsRun run n (site_after next Begins site) v) tells.at_end turned) in
    let pages = c.an_action_keeps_the_pages.ensures.nobodys run now next a.now b.now w v Begins world.walks world.pages (λ r d at is. beyond d.me next (paged.shows.below r d at) is) acts.does acts.lies acts.passes
    (λ r d p h at in_. no_more s w.facts r d session w.run.sessions v.run.sessions p h (λ two. find-put-other r s session w.run.sessions two) at (r == s) refl in_) in
    c.a_turn_of_a_world_is_kept.ensures.logged run opened a b w v (entry_of s e act.Lock reply.Granted ∷ []) rested.rec world refl walks
    (record { at = (tells.at_end, tt); none = no_answer w.tape (entry_of s e act.Lock reply.Granted) refl }) pages rested.front rested.rests rested.logs
