use Rattle.std.proofs.Common.{◌≡◌, false, ℕ, Bool, Some, Result, Ok, Err, refl, sym, ◌∙◌, ap, subst}
use Rattle.std.specs.Prelude.{IfOk, IsTrue, OnOk}
use Rattle.ctr_disk.specs.declared.disk.Disk.{Ghosts}
use Rattle.ctr_disk.specs.Image.{Image}
use Rattle.ctr_disk.specs.declared.fault.StoreFault.{StoreFault}
use Rattle.ctr_types.specs.declared.memory.OutOfMemory.{OutOfMemory}
use Rattle.ctr_types.specs.declared.tape.Refusal.TheVariants as refusal
use Rattle.ctr_types.specs.declared.tape.Act.TheVariants as act
use Rattle.ctr_types.specs.declared.tape.Reply.TheVariants as reply
use Rattle.ctr_model.specs.declared.state.State.{State}
use Rattle.ctr_versions.proofs.Keys.{some_is}
use Rattle.ctr_base.specs.Base.{IsSoundImage}
use Rattle.ctr_store.specs.Store.{View, LeavesFront}
use Rattle.ctr_asking.specs.ctr_wishes.chain_ReadRefusal.{ReadRefusal}
use Rattle.ctr_asking.specs.ctr_wishes.chain_ReadRefusal.TheVariants as unread
use Rattle.ctr_meta.specs.Seen.{xid_is_seen}
use Rattle.ctr_area.specs.Sound.{IsAmong}
use Rattle.ctr_redo.specs.States.{State as Stored}
use Rattle.ctr_record_effects.specs.States.{area_in}
use Rattle.ctr_session_world.specs.actions_Facts.{HasTable}
use Rattle.ctr_asking.specs.ctr_wishes.actions_Sites.{site_of}
use Rattle.ctr_session_world.specs.kept_Walk.{Mind}
use Rattle.ctr_session_world.specs.kept_Turns.{scene_now, state_now}
use Rattle.ctr_session_world.proofs.kept_Walking.{keeps_reached}
use Rattle.ctr_asking.specs.ctr_wishes.ctr_views.Viewing.{Viewer}
use Rattle.ctr_session_world.specs.txn_Held.{TxnHeld}
use Rattle.ctr_session_world.specs.page_turns_Turns.{RestsBehind}
use Rattle.ctr_asking.specs.Asking.{me_held}
use Rattle.ctr_asking.proofs.Passing.{number_held}
use Rattle.ctr_asking.specs.ctr_wishes.declared.making.Prepared.{Prepared}
use Rattle.ctr_asking.specs.ctr_wishes.Preparing.{IsPrepared}
use Rattle.ctr_asking.specs.walk_Damage.{ReadsPages}
use Rattle.ctr_asking.specs.ctr_wishes.ctr_reading.Reading.{as_told}
use Rattle.ctr_session_world.specs.World.{SessionsHeld}
use Rattle.ctr_session_world.specs.Told.{IsNextOf, IsActTold}
use Rattle.ctr_looks.specs.Granting.{HasItemIfGranted, CountsOnTable, KeepsSessions, granted_or}
use Rattle.ctr_looks.specs.declared.locking.Locked.{Locked}
use Rattle.ctr_looks.specs.declared.locking.Locked.TheVariants.{Refused}
use Rattle.ctr_looks.specs.Locking.{IsReadyBehind, locked_reply, locked_unread}
use Rattle.ctr_session_world.proofs.Going.{goes, goes_told, rests_read, room_of}
use Rattle.ctr_looks.proofs.Staying.{goes_free, goes_row}
use Rattle.ctr_looks.proofs.Granted.{row_locks_first}
use Rattle.ctr_looks.proofs.Promised.{may_write}
use Rattle.ctr_session_world.proofs.Ready.{leaves_read, ready_behind, stands_still}
use Rattle.ctr_session_world.proofs.Resting.{same_held}
use Rattle.ctr_session_world.specs.Ready.{LeavesDisk}
use Rattle.ctr_session_world.proofs.Disks.{disk_behind, disk_done, disk_failed, disk_read}
use Rattle.ctr_looks.proofs.locking.lock_found.Goals as goal

unread_so : {D : Type 0} (first : Image) (g : Ghosts D) (a m : View D) (P : Locked → Type 0) (why : ReadRefusal) (r : Result Locked StoreFault) → r ≡ locked_unread why → IsTrue g.tells → IsSoundImage first
    → ReadsPages first g a m (as_told {T = Prepared} (Err why)) → (m.stopped ≡ false → LeavesFront g m m) → (RestsBehind g a m → P (Refused refusal.OutOfMemory)) → IfOk r P
unread_so first g a m P (unread.Store failed) r is told sound leaves rests so = subst (λ q. IfOk q P) (sym is) tt
unread_so first g a m P unread.OutOfMemory r is told sound leaves rests so =
    subst (λ q. IfOk q P) (sym is) (so (rests_read {T = Result Prepared OutOfMemory} first g a m (Err (record {})) told sound leaves (rests leaves.going)))

-- why what the Write will do isn't read is the disk's failure, or want of memory
unread_disk : {D : Type 0} (first : Image) (g : Ghosts D) (a m : View D) (why : ReadRefusal) → LeavesDisk {T = Result Prepared OutOfMemory} first g a m (as_told (Err why)) → LeavesDisk {T = Locked} first g a m (locked_unread why)
unread_disk first g a m (unread.Store failed) it = disk_failed first g a m failed it
unread_disk first g a m unread.OutOfMemory it = disk_done first g a m (Err (record {})) (Refused refusal.OutOfMemory) it

-- where that is answered the store goes on
unread_goes : {D : Type 0} (first : Image) (g : Ghosts D) (a m : View D) (why : ReadRefusal) (r : Result Locked StoreFault) → r ≡ locked_unread why → ReadsPages first g a m (as_told {T = Prepared} (Err why)) → OnOk r (m.stopped ≡ false)
unread_goes first g a m (unread.Store failed) r is leaves = subst (λ (q : Result Locked StoreFault). OnOk q (m.stopped ≡ false)) (sym is) tt
unread_goes first g a m unread.OutOfMemory r is leaves = subst (λ (q : Result Locked StoreFault). OnOk q (m.stopped ≡ false)) (sym is) leaves.going

-- ---- what is left of the sessions

pub returns-in-Err-clause-over : goal.returns-in-Err-clause-over
returns-in-Err-clause-over g c =
    let a = c.args.store.now in
    let m = c.prepare-read.new.store in
    leaves_read c.unread.result c.args.s c.args.txns.now a m (room_of g.O.Origin.first g.D.Disk a m (as_told c.prepare-read.result) c.prepare-read.ensures.leaves)
    (unread_goes g.O.Origin.first g.D.Disk a m c.in-Err.refusal c.unread.result c.unread.ensures.said c.in-Err.ensures.leaves) c.requires.may.stand

pub grant_row-requires-clause-may : goal.grant_row-requires-clause-may
grant_row-requires-clause-may g c =
    let a = c.args.store.now in
    let m = c.prepare-read.new.store in
    let may = c.requires.may in
    let leaves = c.in-Ok.ensures.leaves in
    record { one = may.one; stand = stands_still c.args.txns.now a m leaves.keeps.meta may.stand; room = c.room_is_still_there.ensures.behind 0 0 a m leaves.keeps leaves.going may.room }

pub returns-in-Some-why-clause-over : goal.returns-in-Some-why-clause-over
returns-in-Some-why-clause-over g c =
    let leaves = c.in-Ok-grant_row.ensures.over in
    (ready_behind c.args.s c.args.txns.now c.grant_row.new.txns c.args.store.now c.prepare-read.new.store c.grant_row.new.store c.in-Ok.ensures.leaves.keeps leaves.0, leaves.1)

pub returns-in-None-clause-over : goal.returns-in-None-clause-over
returns-in-None-clause-over g c =
    let leaves = c.in-Ok-grant_row.ensures.over in
    (ready_behind c.args.s c.args.txns.now c.grant_row.new.txns c.args.store.now c.prepare-read.new.store c.grant_row.new.store c.in-Ok.ensures.leaves.keeps leaves.0, leaves.1)

-- ---- what is told

pub returns-in-Err-clause-refused : goal.returns-in-Err-clause-refused
returns-in-Err-clause-refused g c = λ told sound database. c.unread.ensures.refused (c.in-Err.ensures.refused told sound database)

pub returns-in-Err-clause-told : goal.returns-in-Err-clause-told
returns-in-Err-clause-told g c = λ run opened more told sound next free stands of idle.
    let a = c.args.store.now in
    let m = c.prepare-read.new.store in
    let s = c.args.s in
    let statement = c.args.statement.now in
    let h : SessionsHeld = record { txns = c.args.txns.now; locks = c.args.locks.now } in
    let room : KeepsSessions s h h = record { run = refl; locks = same_held s c.args.locks.now } in
    unread_so g.O.Origin.first g.D.Disk a m (λ l. (told : IsActTold next h act.Lock (locked_reply l)) × IsReadyBehind run s statement told.mind l) c.in-Err.refusal c.unread.result c.unread.ensures.said told sound c.in-Err.ensures.leaves (c.rests.ensures told sound)
    (λ rested. (c.a_look_that_wants_memory_is_told.ensures run opened a m h s statement next act.Lock tt (λ (state : State) (r : ℕ). row_locks_first state r statement c.args.row.now.key of.key) free h room rested, tt))

pub returns-in-Some-why-clause-told : goal.returns-in-Some-why-clause-told
returns-in-Some-why-clause-told g c = λ run opened more told sound next free stands of idle.
    let a = c.args.store.now in
    let m = c.prepare-read.new.store in
    let b = c.grant_row.new.store in
    let s = c.args.s in
    let row = c.args.row.now in
    let statement = c.args.statement.now in
    let h : SessionsHeld = record { txns = c.args.txns.now; locks = c.args.locks.now } in
    let now : SessionsHeld = record { txns = c.grant_row.new.txns; locks = c.grant_row.new.locks } in
    let leaves = c.in-Ok.ensures.leaves in
    let rested = rests_read {T = Result Prepared OutOfMemory} g.O.Origin.first g.D.Disk a m (Ok c.in-Ok.prepared) told sound leaves (c.rests.ensures told sound leaves.going) in
    let keeps = c.pages_that_are_read_keep_a_world.ensures run opened a m next.mind next.world.keeps rested in
    let later = c.grant_row.ensures.disk.later in
    let then : IsNextOf g.D.Disk run opened m b h s statement 0 = goes g.D.Disk run opened a m b h s statement 0 next rested keeps later in
    let its = subst (λ r. (told : IsActTold then now act.Lock (granted_or r)) × CountsOnTable r row.entry ((area_in m.now).title row.entry) (told.mind.facts s)) c.in-Some-why.is
    (c.in-Ok-grant_row.ensures.told run opened statement more told sound then (goes_free g.D.Disk run opened a m b h s statement 0 next rested keeps later act.Lock free) (goes_row g.D.Disk run opened a m b h s statement 0 next rested keeps later row of) idle) in
    ((goes_told g.D.Disk run opened a m b h s statement 0 next rested keeps later now act.Lock (reply.Refused c.in-Some-why.refusal) its.0).0, tt)

pub returns-in-None-clause-told : goal.returns-in-None-clause-told
returns-in-None-clause-told g c = λ run opened more told sound next free stands of idle.
    let a = c.args.store.now in
    let m = c.prepare-read.new.store in
    let b = c.grant_row.new.store in
    let s = c.args.s in
    let row = c.args.row.now in
    let statement = c.args.statement.now in
    let w = next.mind in
    let t = free.seat.t in
    let state = state_now run w in
    let title = (area_in a.now).title row.entry in
    let prepared = c.in-Ok.prepared in
    let h : SessionsHeld = record { txns = c.args.txns.now; locks = c.args.locks.now } in
    let now : SessionsHeld = record { txns = c.grant_row.new.txns; locks = c.grant_row.new.locks } in
    let leaves = c.in-Ok.ensures.leaves in
    let rested = rests_read {T = Result Prepared OutOfMemory} g.O.Origin.first g.D.Disk a m (Ok c.in-Ok.prepared) told sound leaves (c.rests.ensures told sound leaves.going) in
    let keeps = c.pages_that_are_read_keep_a_world.ensures run opened a m w next.world.keeps rested in
    let later = c.grant_row.ensures.disk.later in
    let then : IsNextOf g.D.Disk run opened m b h s statement 0 = goes g.D.Disk run opened a m b h s statement 0 next rested keeps later in
    let its = subst (λ r. (told : IsActTold then now act.Lock (granted_or r)) × CountsOnTable r row.entry ((area_in m.now).title row.entry) (told.mind.facts s)) c.in-None.is
    (c.in-Ok-grant_row.ensures.told run opened statement more told sound then (goes_free g.D.Disk run opened a m b h s statement 0 next rested keeps later act.Lock free) (goes_row g.D.Disk run opened a m b h s statement 0 next rested keeps later row of) idle) in
    let back = goes_told g.D.Disk run opened a m b h s statement 0 next rested keeps later now act.Lock reply.Granted its.0 in
    let counts = subst (λ (k : Mind). IsAmong (HasTable row.entry title) (k.facts s)) (sym back.1) (subst (λ (q : Stored). IsAmong (HasTable row.entry ((area_in q).title row.entry)) (its.0.mind.facts s)) rested.logs.now its.1) in
    let scene = next.world.keeps.walks.scene in
    let viewer : Viewer (scene_now run w) = record { s = s; session = free.txn.session; t = t; me = me_held free.txn; at = free.seat.at ∙ ap Some free.same; is_t = free.seat.is_t; calm = free.calm; is_me = number_held free.txn } in
    let kept = (keeps_reached run.lines run.moment run.base run.stuck run.size (g.D.Disk.moment_of a.disk) (site_of a.now) w next.world.keeps.walks).kept in
    let mine = some_is c.in-Some.txn free.txn (sym c.in-Some.is ∙ c.txn.ensures ∙ free.in_it) in
    let snapshot = ap (λ (t : TxnHeld). t.session.snapshot) (c.txn-2.view_is ∙ mine) in
    let me = c.me_of.ensures ∙ ap me_held mine in
    let made = subst (λ (test : ℕ → Bool). IsPrepared test (area_in a.now) row.entry statement prepared) (λ i x. xid_is_seen a.now.tables (snapshot i) (me i) x) (c.in-Ok.ensures.prepared told sound next.world.keeps.pages.sound.sound) in
    let models = c.what_is_prepared_is_the_models.ensures scene.low a.now (scene_now run w) viewer row.name.now row.entry statement prepared scene.shown next.world.keeps.pages.sound (kept.firm s t free.seat.is_t free.calm.0) stands.found of.named free.free made in
    (back.0, may_write g.D.Disk run opened a b h s statement next free row of prepared (c.what_is_prepared_stays_the_models.ensures.granted state s t title.columns statement prepared models) back.0.mind back.0.tape counts)

pub returns-in-Err-clause-ready : goal.returns-in-Err-clause-ready
returns-in-Err-clause-ready g c = c.unread.ensures.ready c.args.s c.args.txns.now

pub returns-in-None-clause-ready : goal.returns-in-None-clause-ready
returns-in-None-clause-ready g c = (c.requires.there, subst (HasItemIfGranted c.args.s c.grant_row.new.txns) c.in-None.is c.in-Ok-grant_row.ensures.item)

-- ---- what is left of the disk

pub returns-in-Err-clause-disk : goal.returns-in-Err-clause-disk
returns-in-Err-clause-disk g c =
    let a = c.args.store.now in
    let m = c.prepare-read.new.store in
    subst (λ (r : Result Locked StoreFault). LeavesDisk g.O.Origin.first g.D.Disk a m r) (sym c.unread.ensures.said)
    (unread_disk g.O.Origin.first g.D.Disk a m c.in-Err.refusal (disk_read g.O.Origin.first g.D.Disk a m (as_told (Err c.in-Err.refusal)) c.in-Err.ensures.leaves))

pub returns-in-Err-grant_row-clause-disk : goal.returns-in-Err-grant_row-clause-disk
returns-in-Err-grant_row-clause-disk g c =
    let a = c.args.store.now in
    let m = c.prepare-read.new.store in
    let b = c.grant_row.new.store in
    disk_behind g.O.Origin.first g.D.Disk a m b (Ok c.in-Ok.prepared) _ c.in-Ok.ensures.leaves (disk_failed g.O.Origin.first g.D.Disk m b c.in-Err-grant_row.fault c.in-Err-grant_row.ensures.disk)

pub returns-in-Some-why-clause-disk : goal.returns-in-Some-why-clause-disk
returns-in-Some-why-clause-disk g c =
    let a = c.args.store.now in
    let m = c.prepare-read.new.store in
    let b = c.grant_row.new.store in
    disk_behind g.O.Origin.first g.D.Disk a m b (Ok c.in-Ok.prepared) _ c.in-Ok.ensures.leaves (disk_done g.O.Origin.first g.D.Disk m b c.in-Ok-grant_row.why _ c.in-Ok-grant_row.ensures.disk)

pub returns-in-None-clause-disk : goal.returns-in-None-clause-disk
returns-in-None-clause-disk g c =
    let a = c.args.store.now in
    let m = c.prepare-read.new.store in
    let b = c.grant_row.new.store in
    disk_behind g.O.Origin.first g.D.Disk a m b (Ok c.in-Ok.prepared) _ c.in-Ok.ensures.leaves (disk_done g.O.Origin.first g.D.Disk m b c.in-Ok-grant_row.why _ c.in-Ok-grant_row.ensures.disk)
