use Rattle.ctr_walk.specs.record_effects_States.{pages_in}
use Rattle.ctr_walk.specs.Damage.{damage_told}
use Rattle.ctr_walk.proofs.Damages.{told_ends}
use Rattle.ctr_reading.specs.pvs_Table.{TableSaid}
use Rattle.ctr_cursor.proofs.places.table_told.Goals as goal

pub returns-clause-ends : goal.returns-clause-ends
returns-clause-ends g c = λ told sound.
    let s = c.args.store.now.now in
    let e = c.table_on-found.ensures in
    told_ends (damage_told g.D.Disk c.tell.new.store) (TableSaid c.args.kind s.counted (pages_in s) c.args.p) c.table_on-found.result c.tell.result c.tell.ensures.told (told, sound) (e.leaves.refused told sound) (e.said told sound)
