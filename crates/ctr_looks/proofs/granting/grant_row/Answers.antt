use Rattle.std.proofs.Common.{◌≡◌, ◌<◌, None, Ok, Err, refl, sym, ◌∙◌, ap, subst}
use Rattle.std.specs.Prelude.{is_some}
use Rattle.std.proofs.lemmas.Bool.{false≢true}
use Rattle.ctr_types.specs.declared.tape.Act.TheVariants as act
use Rattle.ctr_model.specs.Refusals.{first_session, is_busy, others}
use Rattle.ctr_legal.proofs.Keep.{grants as granted_by}
use Rattle.ctr_redo.specs.States.{State as Stored}
use Rattle.ctr_record_effects.specs.Standing.{IsDatabaseState}
use Rattle.ctr_store.specs.Store.{View}
use Rattle.ctr_session_world.specs.kept_Turns.{state_now}
use Rattle.ctr_session_world.specs.World.{SessionsHeld, names_in}
use Rattle.ctr_looks.specs.Granting.{KeepsSessions}
use Rattle.ctr_looks.proofs.Granted.{row_keeps_schema, row_locks_first}
use Rattle.ctr_session_world.proofs.Ready.{ready_as_was, ready_then, same_but, unasked_then}
use Rattle.ctr_session_world.proofs.Resting.{rests_here, rests_roomy}
use Rattle.ctr_looks.proofs.Rooms.{number_roomy}
use Rattle.ctr_session_world.proofs.Disks.{disk_done, disk_failed, disk_still}
use Rattle.ctr_looks.proofs.Leaving.{drawn_roomy}
use Rattle.ctr_looks.proofs.granting.grant_row.Goals as goal

-- ---- what is left of the sessions

pub returns-in-Err-clause-over : goal.returns-in-Err-clause-over
returns-in-Err-clause-over g c = (ready_as_was c.args.s c.args.txns.now c.args.store.now c.requires.may.stand c.requires.may.room.going, λ unasked. unasked)

pub returns-in-Err-reserve_for-clause-over : goal.returns-in-Err-reserve_for-clause-over
returns-in-Err-reserve_for-clause-over g c = c.reserve_for.ensures.over c.requires.may.stand c.requires.may.room.going

pub returns-in-Some-clause-over : goal.returns-in-Some-clause-over
returns-in-Some-clause-over g c = c.reserve_for.ensures.over c.requires.may.stand c.requires.may.room.going

pub returns-in-Some-take_key-clause-over : goal.returns-in-Some-take_key-clause-over
returns-in-Some-take_key-clause-over g c = c.reserve_for.ensures.over c.requires.may.stand c.requires.may.room.going

pub draw-requires-clause-may : goal.draw-requires-clause-may
draw-requires-clause-may g c = c.in-Ok-reserve_for.ensures.may c.requires.may.stand.next c.requires.may.room

pub returns-in-Ok-draw-clause-over : goal.returns-in-Ok-draw-clause-over
returns-in-Ok-draw-clause-over g c =
    let s = c.args.s in
    let old = c.args.txns.now in
    let mid = c.reserve_for.new.txns in
    let new = c.draw.new.txns in
    let a = c.args.store.now in
    let m = c.reserve_for.new.store in
    let b = c.draw.new.store in
    let first = c.reserve_for.ensures.over c.requires.may.stand c.requires.may.room.going in
    let drawn = c.in-Ok-draw.ensures.over first.0.stand first.0.going in
    let still = same_but a m c.reserve_for.ensures.same in
    (ready_then s old mid new a m b first.0.others still.1 still.2 drawn.0, unasked_then s old mid new first.1 drawn.1)

-- ---- what is told

pub returns-in-Err-clause-told : goal.returns-in-Err-clause-told
returns-in-Err-clause-told g c = λ run opened statement more told sound next free of idle.
    let a = c.args.store.now in
    let s = c.args.s in
    let h : SessionsHeld = record { txns = c.args.txns.now; locks = c.args.locks.now } in
    let mid : SessionsHeld = record { txns = c.args.txns.now; locks = c.reserve_row.new.locks } in (
      c.a_look_that_wants_memory_is_told.ensures run opened a a h s statement next act.Lock tt (λ state r. row_locks_first state r statement c.args.row.now.key of.key) free mid (record { run = refl; locks = c.in-Err.ensures.same })
          (rests_here g.D.Disk a (c.rests.ensures told sound c.requires.may.room.going)),
      tt,
    )

pub returns-in-Err-reserve_for-clause-told : goal.returns-in-Err-reserve_for-clause-told
returns-in-Err-reserve_for-clause-told g c = λ run opened statement more told sound next free of idle.
    let a = c.args.store.now in
    let m = c.reserve_for.new.store in
    let s = c.args.s in
    let h : SessionsHeld = record { txns = c.args.txns.now; locks = c.args.locks.now } in
    let mid : SessionsHeld = record { txns = c.reserve_for.new.txns; locks = c.reserve_row.new.locks } in (
      c.a_look_that_wants_memory_is_told.ensures run opened a m h s statement next act.Lock tt (λ state r. row_locks_first state r statement c.args.row.now.key of.key) free mid (record { run = c.reserve_for.ensures.run; locks = c.in-Ok.ensures.same })
          (rests_roomy g.D.Disk a m c.reserve_for.ensures.same (c.rests.ensures told sound c.requires.may.room.going)),
      tt,
    )

pub returns-in-Some-clause-told : goal.returns-in-Some-clause-told
returns-in-Some-clause-told g c = λ run opened statement more told sound next free of idle.
    let a = c.args.store.now in
    let s = c.args.s in
    let state = state_now run next.mind in
    let name = c.args.row.now.name.now in
    let h : SessionsHeld = record { txns = c.args.txns.now; locks = c.args.locks.now } in
    let mid : SessionsHeld = record { txns = c.reserve_for.new.txns; locks = c.reserve_row.new.locks } in
    let room : KeepsSessions s h mid = record { run = c.reserve_for.ensures.run; locks = c.in-Ok.ensures.same } in
    let shown = c.room_shows_the_same.ensures run opened a c.reserve_for.new.store h s statement 0 next mid room in
    let its = subst (λ b. first_session (is_busy b name) (others s state) ≡ None) (row_keeps_schema statement c.args.row.now.key of.key) (granted_by state s free.seat.t act.Lock statement name of.named free.free).idle in
    absurd (false≢true (ap is_some (sym (c.in-Some.ensures.free (names_in a.now) state shown next.world.in_order its))))

pub returns-in-Some-take_key-clause-told : goal.returns-in-Some-take_key-clause-told
returns-in-Some-take_key-clause-told g c = λ run opened statement more told sound next free of idle.
    let a = c.args.store.now in
    let s = c.args.s in
    let h : SessionsHeld = record { txns = c.args.txns.now; locks = c.args.locks.now } in
    let mid : SessionsHeld = record { txns = c.reserve_for.new.txns; locks = c.reserve_row.new.locks } in
    let room : KeepsSessions s h mid = record { run = c.reserve_for.ensures.run; locks = c.in-Ok.ensures.same } in
    absurd (false≢true (ap is_some (sym (c.in-Some-take_key.ensures.free
    (c.a_row_that_is_locked_is_told.ensures.free run opened a c.reserve_for.new.store h s statement next free c.args.row.now of mid room c.take_use.new.locks (c.take_use.ensures.taken c.in-None.is) c.stands_in_order.ensures)))))

pub returns-in-Ok-draw-clause-told : goal.returns-in-Ok-draw-clause-told
returns-in-Ok-draw-clause-told g c = λ run opened statement more told sound next free of idle.
    let a = c.args.store.now in
    let m = c.reserve_for.new.store in
    let b = c.draw.new.store in
    let s = c.args.s in
    let h : SessionsHeld = record { txns = c.args.txns.now; locks = c.args.locks.now } in
    let mid : SessionsHeld = record { txns = c.reserve_for.new.txns; locks = c.reserve_row.new.locks } in
    let now : SessionsHeld = record { txns = c.draw.new.txns; locks = c.take_key.new.locks } in
    let room : KeepsSessions s h mid = record { run = c.reserve_for.ensures.run; locks = c.in-Ok.ensures.same } in
    let same = c.reserve_for.ensures.same in
    let some = subst (λ (q : Stored). 0 < q.tables.next) (sym (ap (λ (v : View g.row.D.Denot). v.now) same)) next.world.keeps.pages.sound.some in
    let number = number_roomy g.D.Disk s mid.txns now.txns a m b same (c.in-Ok-draw.ensures.number told sound (ap (λ (v : View g.row.D.Denot). v.stopped) same ∙ c.requires.may.room.going) some) in
    c.a_row_that_is_locked_is_told.ensures.told run opened a b h s statement next free c.args.row.now of more idle mid now room (record { mid = c.take_use.new.locks; uses = c.take_use.ensures.taken c.in-None.is; locks = c.take_key.ensures.taken c.in-None-take_key.is }) number

pub returns-in-Err-draw-clause-refused : goal.returns-in-Err-draw-clause-refused
returns-in-Err-draw-clause-refused g c = λ told sound database.
    c.in-Err-draw.ensures.refused told sound (subst IsDatabaseState (sym (ap (λ (v : View g.row.D.Denot). v.now) c.reserve_for.ensures.same)) database)

pub returns-in-Ok-draw-clause-item : goal.returns-in-Ok-draw-clause-item
returns-in-Ok-draw-clause-item g c = c.in-Ok-draw.ensures.item c.in-Ok-reserve_for.ensures.item

-- ---- what is left of the disk

pub returns-in-Err-clause-disk : goal.returns-in-Err-clause-disk
returns-in-Err-clause-disk g c = disk_still g.O.Origin.first g.D.Disk c.args.store.now c.args.store.now _ refl (λ told sound. c.rests.ensures told sound c.requires.may.room.going)

pub returns-in-Err-reserve_for-clause-disk : goal.returns-in-Err-reserve_for-clause-disk
returns-in-Err-reserve_for-clause-disk g c = disk_still g.O.Origin.first g.D.Disk c.args.store.now c.reserve_for.new.store _ c.reserve_for.ensures.same (λ told sound. c.rests.ensures told sound c.requires.may.room.going)

pub returns-in-Some-clause-disk : goal.returns-in-Some-clause-disk
returns-in-Some-clause-disk g c = disk_still g.O.Origin.first g.D.Disk c.args.store.now c.reserve_for.new.store _ c.reserve_for.ensures.same (λ told sound. c.rests.ensures told sound c.requires.may.room.going)

pub returns-in-Some-take_key-clause-disk : goal.returns-in-Some-take_key-clause-disk
returns-in-Some-take_key-clause-disk g c = disk_still g.O.Origin.first g.D.Disk c.args.store.now c.reserve_for.new.store _ c.reserve_for.ensures.same (λ told sound. c.rests.ensures told sound c.requires.may.room.going)

pub returns-in-Ok-draw-clause-disk : goal.returns-in-Ok-draw-clause-disk
returns-in-Ok-draw-clause-disk g c =
    let a = c.args.store.now in
    let b = c.draw.new.store in
    disk_done g.O.Origin.first g.D.Disk a b (tt {0}) _ (drawn_roomy g.O.Origin.first g.D.Disk a c.reserve_for.new.store b (Ok tt) c.reserve_for.ensures.same c.requires.may.room.going c.in-Ok-draw.ensures.disk)

pub returns-in-Err-draw-clause-disk : goal.returns-in-Err-draw-clause-disk
returns-in-Err-draw-clause-disk g c =
    let a = c.args.store.now in
    let b = c.draw.new.store in
    disk_failed g.O.Origin.first g.D.Disk a b c.in-Err-draw.fault (drawn_roomy g.O.Origin.first g.D.Disk a c.reserve_for.new.store b (Err c.in-Err-draw.fault) c.reserve_for.ensures.same c.requires.may.room.going c.in-Err-draw.ensures.disk)
