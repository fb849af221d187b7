use Rattle.std.proofs.Common.{inl, refl, sym, ◌∙◌, ap, subst}
use Rattle.std.specs.Prelude.{not}
use Rattle.ctr_types.specs.declared.statement.Statement.TheVariants as st
use Rattle.ctr_types.specs.declared.tape.Act.TheVariants as act
use Rattle.ctr_model.specs.Laws.{is_asked}
use Rattle.ctr_control.specs.ctr_session_world.World.{SessionsHeld}
use Rattle.ctr_control.proofs.ctr_session_world.Disks.{disk_done, disk_failed}
use Rattle.ctr_control.specs.ctr_session_world.Told.{IsActTold}
use Rattle.ctr_exec.proofs.Replies.{asked_is, asked_isnt, asks_none}
use Rattle.ctr_exec.proofs.acting.asked.Goals as goal

pub returns-in-Some-clause-over : goal.returns-in-Some-clause-over
returns-in-Some-clause-over g c = (c.in-Ok.ensures.over.0, c.in-Ok.ensures.over.2 (ap is_asked (asked_is c.in-Ok.reply c.in-Some.k (sym c.number_told.ensures ∙ c.in-Some.is))), tt)

pub returns-in-None-clause-over : goal.returns-in-None-clause-over
returns-in-None-clause-over g c = (c.in-Ok.ensures.over.0, c.in-Ok.ensures.over.1 (asks_none c.in-Ok.reply (sym c.number_told.ensures ∙ c.in-None.is)), tt)

pub returns-in-Some-clause-ready : goal.returns-in-Some-clause-ready
returns-in-Some-clause-ready g c = (refl, refl)

pub returns-in-None-clause-ready : goal.returns-in-None-clause-ready
returns-in-None-clause-ready g c = (λ state. refl, ap not (c.in-Ok.ensures.ends (asks_none c.in-Ok.reply (sym c.number_told.ensures ∙ c.in-None.is))))

pub returns-in-Some-clause-told : goal.returns-in-Some-clause-told
returns-in-Some-clause-told g c = λ run opened tells sound next idle.
    let now : SessionsHeld = record { txns = c.ask.new.txns; locks = c.ask.new.locks } in
    subst (IsActTold next now act.Ask) (asked_is c.in-Ok.reply c.in-Some.k (sym c.number_told.ensures ∙ c.in-Some.is)) (c.in-Ok.ensures.told run opened tells sound next idle)

pub returns-in-None-clause-told : goal.returns-in-None-clause-told
returns-in-None-clause-told g c = λ run opened tells sound next idle.
    let a = c.args.store.now in
    let b = c.ask.new.store in
    let h : SessionsHeld = record { txns = c.args.txns.now; locks = c.args.locks.now } in
    let now : SessionsHeld = record { txns = c.ask.new.txns; locks = c.ask.new.locks } in
    let told = c.in-Ok.ensures.told run opened tells sound next idle in
    let none = asked_isnt c.in-Ok.reply in (
      told,
      c.a_session_is_idle_behind_a_reply.ensures.idle run opened a b h c.args.s st.Commit 0 next now act.Ask c.in-Ok.reply told (inl idle) (λ k. none k (sym c.number_told.ensures ∙ c.in-None.is)),
      tt,
    )

pub returns-in-Err-clause-told : goal.returns-in-Err-clause-told
returns-in-Err-clause-told g c = λ run opened tells sound next idle. c.in-Err.ensures.refused run opened tells sound next idle

pub returns-in-Some-clause-disk : goal.returns-in-Some-clause-disk
returns-in-Some-clause-disk g c = disk_done g.O.Origin.first g.D.Disk _ _ c.in-Ok.reply _ c.in-Ok.ensures.disk

pub returns-in-None-clause-disk : goal.returns-in-None-clause-disk
returns-in-None-clause-disk g c = disk_done g.O.Origin.first g.D.Disk _ _ c.in-Ok.reply _ c.in-Ok.ensures.disk

pub returns-in-Err-clause-disk : goal.returns-in-Err-clause-disk
returns-in-Err-clause-disk g c = disk_failed g.O.Origin.first g.D.Disk _ _ c.in-Err.fault c.in-Err.ensures.disk
