use Rattle.std.proofs.Common.{Bool, cond, inl, refl, ap, subst}
use Rattle.ctr_types.specs.declared.tape.Act.TheVariants as act
use Rattle.ctr_types.specs.declared.tape.Reply.TheVariants as reply
use Rattle.ctr_control.specs.ctr_session_world.World.{SessionsHeld}
use Rattle.ctr_control.proofs.ctr_session_world.Disks.{disk_done, disk_failed}
use Rattle.ctr_control.specs.ctr_writing.ctr_looks.Locking.{IsReadyLocked, IsReadyBehind, locked_reply}
use Rattle.ctr_control.specs.ctr_session_world.Told.{IsActTold}
use Rattle.ctr_exec.proofs.Answered.{not_asked}
use Rattle.ctr_exec.proofs.Points.{row_acts}
use Rattle.ctr_exec.proofs.acting.row_locked.Goals as goal

pub returns-in-Refused-clause-over : goal.returns-in-Refused-clause-over
returns-in-Refused-clause-over g c = (c.in-Ok.ensures.over.0, c.in-Ok.ensures.over.1, tt)

pub returns-in-Granted-clause-over : goal.returns-in-Granted-clause-over
returns-in-Granted-clause-over g c = (c.in-Ok.ensures.over.0, c.in-Ok.ensures.over.1, tt)

pub returns-in-Refused-clause-told : goal.returns-in-Refused-clause-told
returns-in-Refused-clause-told g c = λ run opened tells sound next stuck idle.
    let a = c.args.store.now in
    let b = c.lock_row.new.store in
    let statement = c.args.statement.now in
    let why = c.in-Refused.refusal in
    let h : SessionsHeld = record { txns = c.args.txns.now; locks = c.args.locks.now } in
    let now : SessionsHeld = record { txns = c.lock_row.new.txns; locks = c.lock_row.new.locks } in
    let told = subst (λ l. (told : IsActTold next now act.Lock (locked_reply l)) × IsReadyBehind run c.args.s statement told.mind l) c.in-Refused.is (c.in-Ok.ensures.told run opened tells sound next stuck idle) in (
      told.0,
      c.a_session_is_idle_behind_a_reply.ensures.idle run opened a b h c.args.s statement 0 next now act.Lock (reply.Refused why) told.0 (inl idle)
          (not_asked g.D.Disk run opened a b h c.args.s c.requires.may.one statement 0 next now act.Lock (reply.Refused why) told.0 (λ is. absurd (cc is))),
      tt,
    )

pub returns-in-Granted-clause-told : goal.returns-in-Granted-clause-told
returns-in-Granted-clause-told g c = λ run opened tells sound next stuck idle.
    let statement = c.args.statement.now in
    let now : SessionsHeld = record { txns = c.lock_row.new.txns; locks = c.lock_row.new.locks } in
    let told = subst (λ l. (told : IsActTold next now act.Lock (locked_reply l)) × IsReadyBehind run c.args.s statement told.mind l) c.in-Granted.is (c.in-Ok.ensures.told run opened tells sound next stuck idle) in
    (told.0, record { may = told.1; so_far = told.0.counts })

pub returns-in-Granted-clause-ready : goal.returns-in-Granted-clause-ready
returns-in-Granted-clause-ready g c =
    let ready = subst (IsReadyLocked c.args.s c.lock_row.new.txns) c.in-Granted.is c.in-Ok.ensures.ready in
    (refl, refl, (c.requires.writes, ready.0, (tt, record { t = ready.1.t; there = ready.1.there; room = ap (λ (b : Bool). cond b 1 0) ready.1.kept })), (row_acts c.args.s c.args.statement.now c.requires.writes).0)

pub returns-in-Refused-clause-ready : goal.returns-in-Refused-clause-ready
returns-in-Refused-clause-ready g c = ((row_acts c.args.s c.args.statement.now c.requires.writes).0, refl)

pub returns-in-Err-clause-told : goal.returns-in-Err-clause-told
returns-in-Err-clause-told g c = λ run opened tells sound next stuck idle. c.in-Err.ensures.refused tells sound next.world.keeps.pages.sound

pub returns-in-Refused-clause-disk : goal.returns-in-Refused-clause-disk
returns-in-Refused-clause-disk g c = disk_done g.O.Origin.first g.D.Disk _ _ c.in-Ok.locked _ c.in-Ok.ensures.disk

pub returns-in-Granted-clause-disk : goal.returns-in-Granted-clause-disk
returns-in-Granted-clause-disk g c = disk_done g.O.Origin.first g.D.Disk _ _ c.in-Ok.locked _ c.in-Ok.ensures.disk

pub returns-in-Err-clause-disk : goal.returns-in-Err-clause-disk
returns-in-Err-clause-disk g c = disk_failed g.O.Origin.first g.D.Disk _ _ c.in-Err.fault c.in-Err.ensures.disk
