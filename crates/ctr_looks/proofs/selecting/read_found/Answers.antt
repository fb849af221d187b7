use Rattle.std.proofs.Common.{Result, ℕ, Bool, Ok, Err, refl, sym, ◌∙◌, ap, subst}
use Rattle.std.specs.Prelude.{is_some}
use Rattle.std.specs.Option.{option_map}
use Rattle.std.proofs.lemmas.Bool.{false≢true}
use Rattle.ctr_types.specs.declared.statement.KeyIs.{KeyIs}
use Rattle.ctr_types.specs.declared.statement.Statement.TheVariants as st
use Rattle.ctr_types.specs.declared.tape.Act.TheVariants as act
use Rattle.ctr_legal.proofs.Keep.{grants as granted_by}
use Rattle.ctr_versions.proofs.Keys.{some_is}
use Rattle.ctr_meta.specs.Seen.{xid_is_seen}
use Rattle.ctr_record_effects.specs.States.{area_in}
use Rattle.ctr_session_world.specs.kept_Turns.{state_now}
use Rattle.ctr_asking.specs.ctr_wishes.ctr_reading.Reading.{as_told, AreShown}
use Rattle.ctr_session_world.specs.txn_Held.{TxnHeld}
use Rattle.ctr_asking.specs.Asking.{me_held}
use Rattle.ctr_session_world.specs.World.{SessionsHeld, names_in}
use Rattle.ctr_looks.specs.Granting.{KeepsSessions}
use Rattle.ctr_session_world.specs.Ready.{LeavesDisk, LeavesOver}
use Rattle.ctr_session_world.proofs.Disks.{disk_done, disk_failed}
use Rattle.ctr_types.specs.declared.memory.OutOfMemory.{OutOfMemory}
use Rattle.ctr_types.specs.declared.value.Rows.{Rows}
use Rattle.ctr_asking.specs.ctr_wishes.chain_ReadRefusal.{ReadRefusal}
use Rattle.ctr_looks.proofs.selecting.read_found.Goals as goal

-- ---- what is left of the sessions

pub returns-in-OutOfMemory-clause-over : goal.returns-in-OutOfMemory-clause-over
returns-in-OutOfMemory-clause-over g c =
    let s = c.args.s in
    let txns = c.args.txns.now in
    let a = c.args.store.now in
    subst (λ (r : ReadRefusal). LeavesOver s txns txns a c.rows_at.new.store (as_told {T = Rows} (Err r))) c.in-OutOfMemory.is (c.in-Err.ensures.over s txns c.requires.may.stand)

pub returns-in-Err-reserve_name-clause-over : goal.returns-in-Err-reserve_name-clause-over
returns-in-Err-reserve_name-clause-over g c = c.in-Ok.ensures.over c.args.s c.args.txns.now c.requires.may.stand

pub returns-in-Some-take_use-clause-over : goal.returns-in-Some-take_use-clause-over
returns-in-Some-take_use-clause-over g c = c.in-Ok.ensures.over c.args.s c.args.txns.now c.requires.may.stand

pub returns-in-None-clause-over : goal.returns-in-None-clause-over
returns-in-None-clause-over g c = c.in-Ok.ensures.over c.args.s c.args.txns.now c.requires.may.stand

-- ---- what is told

pub returns-in-Err-reserve_name-clause-told : goal.returns-in-Err-reserve_name-clause-told
returns-in-Err-reserve_name-clause-told g c = λ run opened more told sound next free stands idle.
    let s = c.args.s in
    let h : SessionsHeld = record { txns = c.args.txns.now; locks = c.args.locks.now } in
    let mid : SessionsHeld = record { txns = c.args.txns.now; locks = c.reserve_name.new.self } in
    let room : KeepsSessions s h mid = record { run = refl; locks = c.reserve_name.ensures.same } in
    c.a_look_that_wants_memory_is_told.ensures run opened c.args.store.now c.rows_at.new.store h s (st.Select c.args.table.now.name.now c.args.table.now.at.now) next act.Read tt (λ state r. refl) free mid room
    (c.in-Ok.ensures.rests told sound)

pub returns-in-Some-take_use-clause-told : goal.returns-in-Some-take_use-clause-told
returns-in-Some-take_use-clause-told g c = λ run opened more told sound next free stands idle.
    let a = c.args.store.now in
    let s = c.args.s in
    let state = state_now run next.mind in
    let name = c.args.table.now.name.now in
    let h : SessionsHeld = record { txns = c.args.txns.now; locks = c.args.locks.now } in
    let mid : SessionsHeld = record { txns = c.args.txns.now; locks = c.reserve_name.new.self } in
    let room : KeepsSessions s h mid = record { run = refl; locks = c.reserve_name.ensures.same } in
    let shown = c.room_shows_the_same.ensures run opened a c.rows_at.new.store h s (st.Select name c.args.table.now.at.now) 0 next mid room in
    absurd (false≢true (ap is_some (sym (c.in-Some-take_use.ensures.free (names_in a.now) state shown next.world.in_order
    (granted_by state s free.seat.t act.Read (st.Select name c.args.table.now.at.now) name refl free.free).idle))))

pub returns-in-None-clause-told : goal.returns-in-None-clause-told
returns-in-None-clause-told g c = λ run opened more told sound next free stands idle.
    let a = c.args.store.now in
    let s = c.args.s in
    let table = c.args.table.now in
    let h : SessionsHeld = record { txns = c.args.txns.now; locks = c.args.locks.now } in
    let mid : SessionsHeld = record { txns = c.args.txns.now; locks = c.reserve_name.new.self } in
    let room : KeepsSessions s h mid = record { run = refl; locks = c.reserve_name.ensures.same } in
    let mine = some_is c.in-Some.txn free.txn (sym c.in-Some.is ∙ c.txn.ensures ∙ free.in_it) in
    let snapshot = ap (λ (t : TxnHeld). t.session.snapshot) (c.txn-2.view_is ∙ mine) in
    let me = c.me_of.ensures ∙ ap me_held mine in
    let shown = subst (λ (test : ℕ → Bool). AreShown test (area_in a.now) table.entry (option_map (λ (k : KeyIs). k.key) table.at.now) c.in-Ok.rows.rows)
    (λ i x. xid_is_seen a.now.tables (snapshot i) (me i) x) (c.in-Ok.ensures.shows told sound next.world.keeps.pages.sound.sound) in
    c.rows_of_a_table_are_told.ensures run opened a c.rows_at.new.store h s table.name.now table.at.now next free table.entry stands c.in-Ok.rows shown more idle mid room c.take_use.new.locks
    (c.take_use.ensures.taken c.in-None.is) (c.in-Ok.ensures.rests told sound)

-- ---- what is left of the disk

pub returns-in-Store-clause-disk : goal.returns-in-Store-clause-disk
returns-in-Store-clause-disk g c =
    let a = c.args.store.now in
    let b = c.rows_at.new.store in
    disk_failed g.O.Origin.first g.D.Disk a b c.in-Store.fault (subst (λ (r : ReadRefusal). LeavesDisk {T = Result Rows OutOfMemory} g.O.Origin.first g.D.Disk a b (as_told (Err r))) c.in-Store.is c.in-Err.ensures.disk)

pub returns-in-OutOfMemory-clause-disk : goal.returns-in-OutOfMemory-clause-disk
returns-in-OutOfMemory-clause-disk g c =
    let a = c.args.store.now in
    let b = c.rows_at.new.store in
    disk_done g.O.Origin.first g.D.Disk a b (Err (record {})) _ (subst (λ (r : ReadRefusal). LeavesDisk {T = Result Rows OutOfMemory} g.O.Origin.first g.D.Disk a b (as_told (Err r))) c.in-OutOfMemory.is c.in-Err.ensures.disk)

pub returns-in-Err-reserve_name-clause-disk : goal.returns-in-Err-reserve_name-clause-disk
returns-in-Err-reserve_name-clause-disk g c = disk_done g.O.Origin.first g.D.Disk c.args.store.now c.rows_at.new.store (Ok c.in-Ok.rows) _ c.in-Ok.ensures.disk

pub returns-in-Some-take_use-clause-disk : goal.returns-in-Some-take_use-clause-disk
returns-in-Some-take_use-clause-disk g c = disk_done g.O.Origin.first g.D.Disk c.args.store.now c.rows_at.new.store (Ok c.in-Ok.rows) _ c.in-Ok.ensures.disk

pub returns-in-None-clause-disk : goal.returns-in-None-clause-disk
returns-in-None-clause-disk g c = disk_done g.O.Origin.first g.D.Disk c.args.store.now c.rows_at.new.store (Ok c.in-Ok.rows) _ c.in-Ok.ensures.disk
