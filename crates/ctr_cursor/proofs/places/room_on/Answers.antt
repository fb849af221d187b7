use Rattle.std.proofs.Common.{ℕ, Err, Ok, ◌∙◌, ap, subst}
use Rattle.ctr_page.specs.Columns.{kinds_width}
use Rattle.ctr_walk.specs.record_effects_States.{pages_in}
use Rattle.ctr_walk.specs.Damage.{damage_told, EndsTold}
use Rattle.ctr_walk.specs.declared.table.TableOf.{TableOf}
use Rattle.ctr_walk.proofs.Damages.{reads_err}
use Rattle.ctr_reading.specs.pvs_Table.{TableSaid}
use Rattle.ctr_cursor.proofs.OnPages.{room_is, table_undamaged}
use Rattle.ctr_cursor.proofs.places.room_on.Goals as goal

pub returns-in-Err-clause-refused : goal.returns-in-Err-clause-refused
returns-in-Err-clause-refused g c = λ told sound database on.
    let s = c.args.store.now.now in
    table_undamaged s database (damage_told g.D.Disk c.table_told.new.store) c.args.chain c.args.p on (Err c.in-Err.fault)
    (subst (λ (k : ℕ). EndsTold {T = TableOf} (damage_told g.D.Disk c.table_told.new.store) (TableSaid k s.counted (pages_in s) c.args.p) (Err c.in-Err.fault)) c.kind_of_chain.ensures (c.in-Err.ensures.ends told sound))

pub returns-in-Err-clause-leaves : goal.returns-in-Err-clause-leaves
returns-in-Err-clause-leaves g c = reads_err g.O.Origin.first g.D.Disk _ _ c.in-Err.fault c.args.store.now c.table_told.new.store c.in-Err.ensures.leaves

pub returns-clause-room : goal.returns-clause-room
returns-clause-room g c = λ told sound.
    let s = c.args.store.now.now in
    room_is c.args.chain s.counted (pages_in s) c.args.p c.in-Ok.table c.kinds_width.result c.size_of.result c.room_for.result
    (subst (λ (k : ℕ). TableSaid k s.counted (pages_in s) c.args.p (Ok c.in-Ok.table)) c.kind_of_chain.ensures (c.in-Ok.ensures.ends told sound))
    (c.kinds_width.ensures.value ∙ ap kinds_width c.kinds.ensures.value) c.size_of.ensures c.room_for.ensures
