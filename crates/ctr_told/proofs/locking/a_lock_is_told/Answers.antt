use Rattle.std.proofs.Common.{refl, sym, ◌∙◌, [], ◌++◌}
use Rattle.std.proofs.lemmas.Bool.{false≢true}
use Rattle.ctr_types.specs.declared.tape.Act.TheVariants as act
use Rattle.ctr_types.specs.declared.tape.Reply.TheVariants as reply
use Rattle.ctr_model.specs.Tape.{progress_of}
use Rattle.ctr_rollback.specs.actions_Facts.{IsOpen, HasNoPageBut}
use Rattle.ctr_views.specs.actions_Sites.{site_of}
use Rattle.ctr_sessions.specs.Sessions.{IsDrawnFor}
use Rattle.ctr_rollback.specs.kept_Turns.{carrying, entry_of, granted_to, point_now, state_now, telling}
use Rattle.ctr_rollback.proofs.kept_Tables.{uses_more}
use Rattle.ctr_told.specs.Turning.{facts_idle}
use Rattle.ctr_told.proofs.Acting.{act_of}
use Rattle.ctr_told.proofs.Facts.{no_more}
use Rattle.ctr_told.proofs.Granting.{granted_so, granted_writer}
use Rattle.ctr_told.proofs.Idle.{carried_more, idle_blanks, idle_more, idle_open, idle_none}
use Rattle.ctr_told.proofs.locking.a_lock_is_told.Goals as goal

pub returns : goal.returns
returns g c = λ run opened a b w s tells more some tables idle comes rested.
    let seat = tells.seat in
    let e = tells.e in
    let t = seat.t in
    let now = g.D.Disk.moment_of a.disk in
    let site = site_of a.now in
    let world = tells.keeps in
    let so = granted_so e.statement t in
    let writer = granted_writer (state_now run w) s (progress_of (point_now run w) s).made e.statement t (act_of run now s w e act.Lock reply.Granted comes).next_act in
    let drawn : IsDrawnFor seat.session (granted_to e t) = record { writer = λ yes. some; reader = λ no. absurd (false≢true (sym no ∙ writer)) } in
    let held = world.walks.scene.carried.held s seat.session in
    let its = idle_more more (w.facts s) idle in
    let u = granted_to e t in
    let mine = facts_idle ++ more in
    let carried = carried_more seat.session.me t u site site more tables (λ f in_. world.walks.scene.carried.under s t f seat.is_t (its f in_)) (uses_more t u so.2 so.1) (λ f in_. held f seat.at (its f in_))
    (held IsOpen seat.at (idle_open more (w.facts s) idle)) (held (HasNoPageBut []) seat.at (idle_none more (w.facts s) idle)) in
    let walked = c.locks_and_reads_are_kept.ensures.granted run now s site w seat e mine world.walks comes so.0 so.1 drawn carried in
    let v = telling e act.Lock reply.Granted w (carrying s mine w) in
    c.an_entry_alone_is_kept.ensures run opened a b w v (entry_of s e act.Lock reply.Granted) world refl walked tells.at_end refl refl (no_more s w v mine refl refl (λ p h in_. absurd (idle_blanks more tables p h in_))) rested
