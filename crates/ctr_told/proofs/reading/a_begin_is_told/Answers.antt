use Rattle.std.proofs.Common.{refl}
use Rattle.ctr_types.specs.declared.tape.Act.TheVariants as act
use Rattle.ctr_types.specs.declared.tape.Reply.TheVariants as reply
use Rattle.ctr_model.proofs.Sessions.{find-put-other}
use Rattle.ctr_views.specs.actions_Sites.{site_of}
use Rattle.ctr_rollback.specs.paged_Moving.{begun_now}
use Rattle.ctr_rollback.specs.kept_Turns.{begun_mind, entry_of, state_now, telling}
use Rattle.ctr_told.proofs.Silent.{none_more}
use Rattle.ctr_told.proofs.reading.a_begin_is_told.Goals as goal

pub returns : goal.returns
returns g c = λ run opened a b w s tells comes rested.
    let e = tells.e in
    let n = (state_now run w).answered in
    let site = site_of a.now in
    let walked = c.a_session_begins.ensures run (g.D.Disk.moment_of a.disk) s site w e tells.keeps.walks tells.none comes in
    let v = telling e act.Begin (reply.Began n) w (begun_mind s site n w) in
    c.an_entry_alone_is_kept.ensures run opened a b w v (entry_of s e act.Begin (reply.Began n)) tells.keeps refl walked tells.at_end refl refl
    (none_more s w v (λ r two. find-put-other r s (begun_now site w.run) w.run.sessions two) refl) rested
