use Rattle.std.proofs.Common.{◌<◌, sym, ◌∙◌, ap, subst}
use Rattle.ctr_types.specs.declared.statement.Statement.TheVariants as st
use Rattle.ctr_versions.specs.Engine.{SessionHeld}
use Rattle.ctr_writing.specs.ctr_session_world.ctr_rollback.Rolling.{MayRoll}
use Rattle.ctr_writing.specs.ctr_session_world.txn_Held.{me_in}
use Rattle.ctr_writing.proofs.ctr_session_world.Standing.{seat_of}
use Rattle.ctr_control.proofs.Rolled.{is_open}
use Rattle.ctr_control.proofs.rolling.a_writer_may_roll_back.Goals as goal

pub returns : goal.returns
returns g c = λ run opened a b h s one next writing.
    let seated = seat_of g.D.Disk run opened a b h s st.Rollback 0 next c.the_run_is_of_the_sessions.ensures.found one writing.t writing.there in
    let seat = seated.0 in
    let some = subst (λ (b : SessionHeld). 0 < b.me) (sym seated.1) writing.some in
    let me_is = ap me_in writing.there ∙ ap (λ (b : SessionHeld). b.me) (sym seated.1) in
    subst (λ x. MayRoll x a.now) (sym me_is) (record { sound = next.world.keeps.pages.sound; is_open = is_open g.D.Disk run opened a b h.txns h.locks s next seat some })
