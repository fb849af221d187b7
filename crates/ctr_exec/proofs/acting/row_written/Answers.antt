use Rattle.std.proofs.Common.{inr, refl, subst}
use Rattle.ctr_types.specs.declared.tape.Act.TheVariants as act
use Rattle.ctr_control.specs.ctr_session_world.World.{SessionsHeld}
use Rattle.ctr_control.proofs.ctr_session_world.Disks.{disk_done, disk_failed}
use Rattle.ctr_control.specs.ctr_writing.Rows.{LeavesStage, TurnOfRow, WentBy}
use Rattle.ctr_exec.proofs.Answered.{not_asked}
use Rattle.ctr_exec.proofs.Points.{row_acts}
use Rattle.ctr_exec.proofs.acting.row_written.Goals as goal

pub returns-in-On-clause-over : goal.returns-in-On-clause-over
returns-in-On-clause-over g c = (c.in-Ok.ensures.over.0, c.in-Ok.ensures.over.1, subst (WentBy c.args.store.now c.write_row.new.store) c.in-On.is c.in-Ok.ensures.went)

pub returns-in-Told-clause-over : goal.returns-in-Told-clause-over
returns-in-Told-clause-over g c = (c.in-Ok.ensures.over.0, c.in-Ok.ensures.over.1, tt)

pub returns-in-On-clause-ready : goal.returns-in-On-clause-ready
returns-in-On-clause-ready g c = (refl, (c.requires.at.0, c.requires.at.1, subst (LeavesStage c.args.s c.write_row.new.txns c.write_row.new.store.now.counted) c.in-On.is c.in-Ok.ensures.stage))

pub returns-in-Told-clause-ready : goal.returns-in-Told-clause-ready
returns-in-Told-clause-ready g c = ((row_acts c.args.s c.args.statement.now c.requires.at.0).1, refl)

pub returns-in-On-clause-told : goal.returns-in-On-clause-told
returns-in-On-clause-told g c = λ run opened locks tells sound next at.
    let now : SessionsHeld = record { txns = c.write_row.new.txns; locks = locks } in
    subst (TurnOfRow next now c.args.entry c.args.prepared) c.in-On.is (c.in-Ok.ensures.told run opened locks tells sound next at)

pub returns-in-Told-clause-told : goal.returns-in-Told-clause-told
returns-in-Told-clause-told g c = λ run opened locks tells sound next at.
    let a = c.args.store.now in
    let b = c.write_row.new.store in
    let statement = c.args.statement.now in
    let h : SessionsHeld = record { txns = c.args.txns.now; locks = locks } in
    let now : SessionsHeld = record { txns = c.write_row.new.txns; locks = locks } in
    let r = c.in-Told.reply in
    let turn = subst (TurnOfRow next now c.args.entry c.args.prepared) c.in-Told.is (c.in-Ok.ensures.told run opened locks tells sound next at) in (
      turn.0,
      c.a_session_is_idle_behind_a_reply.ensures.idle run opened a b h c.args.s statement 1 next now act.Write r turn.0 (inr turn.1)
          (not_asked g.D.Disk run opened a b h c.args.s c.requires.may.one statement 1 next now act.Write r turn.0 (λ is. absurd (cc is))),
      turn.2,
    )

pub returns-in-Err-clause-told : goal.returns-in-Err-clause-told
returns-in-Err-clause-told g c = λ run opened locks tells sound next at. c.in-Err.ensures.refused run opened locks tells sound next at

pub returns-in-On-clause-disk : goal.returns-in-On-clause-disk
returns-in-On-clause-disk g c = disk_done g.O.Origin.first g.D.Disk _ _ c.in-Ok.wrote _ c.in-Ok.ensures.disk

pub returns-in-Told-clause-disk : goal.returns-in-Told-clause-disk
returns-in-Told-clause-disk g c = disk_done g.O.Origin.first g.D.Disk _ _ c.in-Ok.wrote _ c.in-Ok.ensures.disk

pub returns-in-Err-clause-disk : goal.returns-in-Err-clause-disk
returns-in-Err-clause-disk g c = disk_failed g.O.Origin.first g.D.Disk _ _ c.in-Err.fault c.in-Err.ensures.disk
