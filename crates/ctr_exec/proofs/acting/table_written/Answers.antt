use Rattle.std.proofs.Common.{inr, refl}
use Rattle.ctr_types.specs.declared.tape.Act.TheVariants as act
use Rattle.ctr_control.specs.ctr_session_world.World.{SessionsHeld}
use Rattle.ctr_control.proofs.ctr_session_world.Disks.{disk_done, disk_failed}
use Rattle.ctr_exec.proofs.Answered.{not_asked}
use Rattle.ctr_exec.proofs.Points.{table_acts}
use Rattle.ctr_exec.proofs.acting.table_written.Goals as goal

pub write_table-requires-clause-at : goal.write_table-requires-clause-at
write_table-requires-clause-at g c = (c.requires.at.1, c.requires.at.2)

pub returns-in-Ok-clause-ready : goal.returns-in-Ok-clause-ready
returns-in-Ok-clause-ready g c = ((table_acts c.args.s c.args.statement.now c.requires.at.0).1, refl)

pub returns-in-Ok-clause-over : goal.returns-in-Ok-clause-over
returns-in-Ok-clause-over g c = (c.in-Ok.ensures.over.0, c.in-Ok.ensures.over.1, tt)

pub returns-in-Ok-clause-told : goal.returns-in-Ok-clause-told
returns-in-Ok-clause-told g c = λ run opened locks tells sound next at.
    let a = c.args.store.now in
    let b = c.write_table.new.store in
    let statement = c.args.statement.now in
    let h : SessionsHeld = record { txns = c.args.txns.now; locks = locks } in
    let now : SessionsHeld = record { txns = c.write_table.new.txns; locks = locks } in
    let r = c.in-Ok.reply in
    let turn = c.in-Ok.ensures.told run opened locks tells sound next at in (
      turn.0,
      c.a_session_is_idle_behind_a_reply.ensures.idle run opened a b h c.args.s statement 1 next now act.Write r turn.0 (inr turn.1)
          (not_asked g.D.Disk run opened a b h c.args.s c.requires.may.one statement 1 next now act.Write r turn.0 (λ is. absurd (cc is))),
      turn.2,
    )

pub returns-in-Err-clause-told : goal.returns-in-Err-clause-told
returns-in-Err-clause-told g c = λ run opened locks tells sound next at. c.in-Err.ensures.refused run opened locks tells sound next at

pub returns-in-Ok-clause-disk : goal.returns-in-Ok-clause-disk
returns-in-Ok-clause-disk g c = disk_done g.O.Origin.first g.D.Disk _ _ c.in-Ok.reply _ c.in-Ok.ensures.disk

pub returns-in-Err-clause-disk : goal.returns-in-Err-clause-disk
returns-in-Err-clause-disk g c = disk_failed g.O.Origin.first g.D.Disk _ _ c.in-Err.fault c.in-Err.ensures.disk
