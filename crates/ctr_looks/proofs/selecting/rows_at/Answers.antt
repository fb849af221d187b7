use Rattle.std.proofs.Common.{◌≡◌, false, ℤ, Option, Result, Ok, Err, sym, ◌∙◌, ap, subst}
use Rattle.std.specs.Prelude.{FitsSigned, OnOk}
use Rattle.std.specs.Int.{w64}
use Rattle.std.proofs.lemmas.Int.{to_z-of_z}
use Rattle.std.specs.Option.{option_map, option_to_list}
use Rattle.ctr_types.specs.declared.statement.KeyIs.{KeyIs}
use Rattle.ctr_types.specs.declared.memory.OutOfMemory.{OutOfMemory}
use Rattle.ctr_types.specs.declared.value.Row.{Row}
use Rattle.ctr_types.specs.declared.value.Rows.{Rows}
use Rattle.ctr_asking.specs.ctr_wishes.chain_ReadRefusal.{ReadRefusal}
use Rattle.ctr_asking.specs.ctr_wishes.chain_ReadRefusal.TheVariants as unread
use Rattle.ctr_record_effects.specs.States.{area_in}
use Rattle.ctr_asking.specs.ctr_wishes.ctr_reading.Reading.{as_told, AreShown, GivesSeen, sight_sees}
use Rattle.ctr_disk.specs.Image.{Image}
use Rattle.ctr_disk.specs.declared.disk.Disk.{Ghosts}
use Rattle.ctr_store.specs.Store.{View}
use Rattle.ctr_asking.specs.walk_Damage.{ReadsPages}
use Rattle.ctr_session_world.proofs.Going.{going_of, if_ok, room_of}
use Rattle.ctr_session_world.proofs.Ready.{leaves_read}
use Rattle.ctr_session_world.specs.Ready.{LeavesDisk}
use Rattle.ctr_session_world.proofs.Disks.{disk_done, disk_failed, disk_read}
use Rattle.ctr_looks.proofs.Leaving.{read_then}
use Rattle.ctr_looks.proofs.selecting.rows_at.Goals as goal

pub returns-in-Ok-clause-shows : goal.returns-in-Ok-clause-shows
returns-in-Ok-clause-shows g c = λ told sound area.
    let s = c.args.store.now.now in
    let key = c.key_asked-key.result in
    let wide : FitsSigned w64 key = record { sfits = c.key_asked-key.type_inv } in
    let given = subst (λ (k : ℤ). GivesSeen (sight_sees s.tables c.args.sight.now) (area_in s) c.args.entry k (Ok c.in-Ok.row)) (to_z-of_z w64 key wide ∙ c.key_asked-key.ensures) (c.in-Ok.ensures.shows told sound area) in
    if_ok c.one_row.result (λ rows its. subst (λ o. AreShown (sight_sees s.tables c.args.sight.now) (area_in s) c.args.entry (option_map (λ (k : KeyIs). k.key) o) rows.rows) (sym c.in-Some.is)
    (given.0, given.1, its ∙ ap option_to_list given.2)) c.one_row.ensures.gives

-- ---- what is left of the sessions

-- why the row isn't read is why no rows are
rows_go : {D : Type 0} (first : Image) (g : Ghosts D) (a b : View D) (why : ReadRefusal) → ReadsPages first g a b (as_told {T = Option Row} (Err why)) → OnOk (as_told {T = Rows} (Err why)) (b.stopped ≡ false)
rows_go first g a b (unread.Store failed) leaves = tt
rows_go first g a b unread.OutOfMemory leaves = leaves.going

always : {T E P : Type 0} (r : Result T E) → P → OnOk r P
always (Ok x) is = is
always (Err e) is = tt

pub returns-in-None-clause-over : goal.returns-in-None-clause-over
returns-in-None-clause-over g c = λ s txns stand.
    let a = c.args.store.now in
    let b = c.rows_of_table-rows.new.store in
    let told = as_told c.rows_of_table-rows.result in
    let leaves = c.rows_of_table-rows.ensures.leaves in
    leaves_read told s txns a b (room_of g.O.Origin.first g.D.Disk a b told leaves) (going_of g.O.Origin.first g.D.Disk a b told leaves) stand

pub returns-in-Err-clause-over : goal.returns-in-Err-clause-over
returns-in-Err-clause-over g c = λ s txns stand.
    let a = c.args.store.now in
    let b = c.row_of_key-row.new.store in
    let leaves = c.in-Err.ensures.leaves in
    leaves_read (as_told {T = Rows} (Err c.in-Err.refusal)) s txns a b (room_of g.O.Origin.first g.D.Disk a b (as_told {T = Option Row} (Err c.in-Err.refusal)) leaves) (rows_go g.O.Origin.first g.D.Disk a b c.in-Err.refusal leaves) stand

pub returns-in-Ok-clause-over : goal.returns-in-Ok-clause-over
returns-in-Ok-clause-over g c = λ s txns stand.
    let leaves = c.in-Ok.ensures.leaves in
    leaves_read (as_told c.one_row.result) s txns c.args.store.now c.row_of_key-row.new.store leaves.keeps (always (as_told c.one_row.result) leaves.going) stand

-- ---- what is left of the disk

rows_disk : {D : Type 0} (first : Image) (g : Ghosts D) (a b : View D) (why : ReadRefusal) → LeavesDisk {T = Result (Option Row) OutOfMemory} first g a b (as_told (Err why)) → LeavesDisk {T = Result Rows OutOfMemory} first g a b (as_told (Err why))
rows_disk first g a b (unread.Store failed) it = disk_failed first g a b failed it
rows_disk first g a b unread.OutOfMemory it = disk_done first g a b (Err (record {})) (Err (record {})) it

pub returns-in-None-clause-disk : goal.returns-in-None-clause-disk
returns-in-None-clause-disk g c = disk_read g.O.Origin.first g.D.Disk c.args.store.now c.rows_of_table-rows.new.store (as_told c.rows_of_table-rows.result) c.rows_of_table-rows.ensures.leaves

pub returns-in-Err-clause-disk : goal.returns-in-Err-clause-disk
returns-in-Err-clause-disk g c =
    let a = c.args.store.now in
    let b = c.row_of_key-row.new.store in
    rows_disk g.O.Origin.first g.D.Disk a b c.in-Err.refusal (disk_read g.O.Origin.first g.D.Disk a b (as_told (Err c.in-Err.refusal)) c.in-Err.ensures.leaves)

pub returns-in-Ok-clause-disk : goal.returns-in-Ok-clause-disk
returns-in-Ok-clause-disk g c = read_then g.O.Origin.first g.D.Disk c.args.store.now c.row_of_key-row.new.store (Ok c.in-Ok.row) (as_told c.one_row.result) c.in-Ok.ensures.leaves c.one_row.ensures.faults
