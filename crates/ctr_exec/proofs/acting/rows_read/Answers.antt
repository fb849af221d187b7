use Rattle.std.proofs.Common.{inl, refl}
use Rattle.ctr_types.specs.declared.tape.Act.TheVariants as act
use Rattle.ctr_control.specs.ctr_session_world.World.{SessionsHeld}
use Rattle.ctr_control.proofs.ctr_session_world.Disks.{disk_done, disk_failed}
use Rattle.ctr_exec.proofs.Answered.{not_asked}
use Rattle.ctr_exec.proofs.Points.{read_at}
use Rattle.ctr_exec.proofs.acting.rows_read.Goals as goal

pub returns-in-Ok-clause-over : goal.returns-in-Ok-clause-over
returns-in-Ok-clause-over g c = (c.in-Ok.ensures.over.0, c.in-Ok.ensures.over.1, tt)

pub returns-in-Ok-clause-ready : goal.returns-in-Ok-clause-ready
returns-in-Ok-clause-ready g c = (read_at c.args.s c.args.statement.now c.requires.select, refl)

pub returns-in-Ok-clause-told : goal.returns-in-Ok-clause-told
returns-in-Ok-clause-told g c = λ run opened tells sound next stuck idle.
    let a = c.args.store.now in
    let b = c.read.new.store in
    let statement = c.args.statement.now in
    let h : SessionsHeld = record { txns = c.args.txns.now; locks = c.args.locks.now } in
    let now : SessionsHeld = record { txns = c.args.txns.now; locks = c.read.new.locks } in
    let told = c.in-Ok.ensures.told run opened tells sound next stuck idle in (
      told,
      c.a_session_is_idle_behind_a_reply.ensures.idle run opened a b h c.args.s statement 0 next now act.Read c.in-Ok.reply told (inl idle)
          (not_asked g.D.Disk run opened a b h c.args.s c.requires.may.one statement 0 next now act.Read c.in-Ok.reply told (λ is. absurd (cc is))),
      tt,
    )

pub returns-in-Err-clause-told : goal.returns-in-Err-clause-told
returns-in-Err-clause-told g c = λ run opened tells sound next stuck idle. c.in-Err.ensures.refused tells sound next.world.keeps.pages.sound

pub returns-in-Ok-clause-disk : goal.returns-in-Ok-clause-disk
returns-in-Ok-clause-disk g c = disk_done g.O.Origin.first g.D.Disk _ _ c.in-Ok.reply _ c.in-Ok.ensures.disk

pub returns-in-Err-clause-disk : goal.returns-in-Err-clause-disk
returns-in-Err-clause-disk g c = disk_failed g.O.Origin.first g.D.Disk _ _ c.in-Err.fault c.in-Err.ensures.disk
