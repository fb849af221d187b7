use Rattle.std.proofs.Common.{inl, Ok, Option, refl, ap, subst}
use Rattle.ctr_types.specs.declared.statement.Statement.TheVariants as st
use Rattle.ctr_types.specs.declared.tape.Act.TheVariants as act
use Rattle.ctr_control.specs.ctr_session_world.World.{SessionsHeld}
use Rattle.ctr_control.proofs.ctr_session_world.Disks.{disk_done, disk_failed}
use Rattle.ctr_control.specs.ctr_session_world.Told.{TellsOrGoesOn}
use Rattle.ctr_types.specs.declared.tape.Reply.{Reply}
use Rattle.ctr_control.specs.Rolling.{rolled_by}
use Rattle.ctr_control.specs.ctr_rollback.Rolling.{RollsTo}
use Rattle.ctr_control.specs.txn_Held.{number_drawn}
use Rattle.ctr_exec.proofs.acting.rolled_back.Goals as goal

pub returns-in-None-clause-over : goal.returns-in-None-clause-over
returns-in-None-clause-over g c = (c.in-Ok.ensures.over.0, c.in-Ok.ensures.over.1, inl (c.in-Ok.ensures.steps.1 (ap (λ r. Ok r) c.in-None.is)))

pub returns-in-Some-clause-over : goal.returns-in-Some-clause-over
returns-in-Some-clause-over g c = (c.in-Ok.ensures.over.0, c.in-Ok.ensures.over.1, tt)

pub returns-in-Some-clause-ready : goal.returns-in-Some-clause-ready
returns-in-Some-clause-ready g c = (λ state. refl, refl)

pub returns-in-None-clause-told : goal.returns-in-None-clause-told
returns-in-None-clause-told g c = λ run opened tells sound next.
    let now : SessionsHeld = record { txns = c.roll_back.new.txns; locks = c.roll_back.new.locks } in
    (subst (TellsOrGoesOn next now act.Rollback) c.in-None.is (c.in-Ok.ensures.told run opened tells sound next), tt)

pub returns-in-Some-clause-told : goal.returns-in-Some-clause-told
returns-in-Some-clause-told g c = λ run opened tells sound next.
    let a = c.args.store.now in
    let b = c.roll_back.new.store in
    let h : SessionsHeld = record { txns = c.args.txns.now; locks = c.args.locks.now } in
    let now : SessionsHeld = record { txns = c.roll_back.new.txns; locks = c.roll_back.new.locks } in
    let told = subst (TellsOrGoesOn next now act.Rollback) c.in-Some.is (c.in-Ok.ensures.told run opened tells sound next) in
    (told, c.a_session_is_idle_behind_a_reply.ensures.rolled run opened a b h c.args.s st.Rollback 0 next now c.in-Some.reply told, tt)

pub returns-in-Err-clause-told : goal.returns-in-Err-clause-told
returns-in-Err-clause-told g c = λ run opened tells sound next. c.in-Err.ensures.refused run opened tells sound next

pub returns-in-None-clause-disk : goal.returns-in-None-clause-disk
returns-in-None-clause-disk g c = disk_done g.O.Origin.first g.D.Disk _ _ c.in-Ok.rolled _ c.in-Ok.ensures.disk

pub returns-in-Some-clause-disk : goal.returns-in-Some-clause-disk
returns-in-Some-clause-disk g c = disk_done g.O.Origin.first g.D.Disk _ _ c.in-Ok.rolled _ c.in-Ok.ensures.disk

pub returns-in-Err-clause-disk : goal.returns-in-Err-clause-disk
returns-in-Err-clause-disk g c = disk_failed g.O.Origin.first g.D.Disk _ _ c.in-Err.fault c.in-Err.ensures.disk

pub returns-in-None-clause-rolls : goal.returns-in-None-clause-rolls
returns-in-None-clause-rolls g c = λ run opened tells sound next writing.
    let a = c.args.store.now in
    let b = c.roll_back.new.store in
    let h : SessionsHeld = record { txns = c.args.txns.now; locks = c.args.locks.now } in
    let may = c.a_writer_may_roll_back.ensures run opened a b h c.args.s c.requires.may.one next writing in (
      subst (λ (o : Option Reply). RollsTo (number_drawn c.args.s c.args.txns.now) a.now b.now (rolled_by o)) c.in-None.is (c.in-Ok.ensures.rolls writing tells sound may),
      c.in-Ok.ensures.steps.2 writing,
    )

pub returns-in-Some-clause-rolls : goal.returns-in-Some-clause-rolls
returns-in-Some-clause-rolls g c = λ run opened tells sound next writing.
    let a = c.args.store.now in
    let b = c.roll_back.new.store in
    let h : SessionsHeld = record { txns = c.args.txns.now; locks = c.args.locks.now } in
    let may = c.a_writer_may_roll_back.ensures run opened a b h c.args.s c.requires.may.one next writing in (
      refl,
      subst (λ (o : Option Reply). RollsTo (number_drawn c.args.s c.args.txns.now) a.now b.now (rolled_by o)) c.in-Some.is (c.in-Ok.ensures.rolls writing tells sound may),
      c.in-Ok.ensures.steps.2 writing,
    )
