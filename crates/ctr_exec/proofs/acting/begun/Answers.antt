use Rattle.std.proofs.Common.{inl, refl}
use Rattle.ctr_types.specs.declared.statement.Statement.TheVariants as st
use Rattle.ctr_types.specs.declared.tape.Act.TheVariants as act
use Rattle.ctr_control.specs.ctr_session_world.World.{SessionsHeld}
use Rattle.ctr_control.proofs.ctr_session_world.Disks.{disk_still}
use Rattle.ctr_exec.proofs.Answered.{not_asked}
use Rattle.ctr_exec.proofs.acting.begun.Goals as goal

pub returns-clause-over : goal.returns-clause-over
returns-clause-over g c = let leaves = c.begin.ensures.over c.requires.may.stand c.requires.may.room.going in (leaves.0, leaves.1, tt)

pub returns-clause-ready : goal.returns-clause-ready
returns-clause-ready g c = (λ state. refl, refl)

pub returns-clause-told : goal.returns-clause-told
returns-clause-told g c = λ run opened locks tells sound next idle.
    let a = c.args.store.now in
    let h : SessionsHeld = record { txns = c.args.txns.now; locks = locks } in
    let now : SessionsHeld = record { txns = c.begin.new.txns; locks = locks } in
    let told = c.begin.ensures.told run opened locks tells sound c.requires.may.room.going next in (
      told,
      c.a_session_is_idle_behind_a_reply.ensures.idle run opened a a h c.args.s st.Begin 0 next now act.Begin c.begin.result told (inl idle)
          (not_asked g.D.Disk run opened a a h c.args.s c.requires.may.one st.Begin 0 next now act.Begin c.begin.result told (λ is. absurd (cc is))),
      tt,
    )

pub returns-clause-disk : goal.returns-clause-disk
returns-clause-disk g c = disk_still g.O.Origin.first g.D.Disk _ _ _ refl (λ tells sound. c.rests.ensures tells sound c.requires.may.room.going)
