use Rattle.std.proofs.Common.{sym, subst}
use Rattle.ctr_alloc.specs.record_effects_States.{pages_in}
use Rattle.ctr_alloc.specs.walk_Damage.{damage_told, EndsTold}
use Rattle.ctr_alloc.proofs.walk_Damages.{told_ends}
use Rattle.ctr_catalog.specs.Finding.{checks_at}
use Rattle.ctr_catalog.specs.Columns.{EndsChecked}
use Rattle.ctr_catalog.proofs.columns.schema.Goals as goal

pub returns-clause-ends : goal.returns-clause-ends
returns-clause-ends g c = λ told sound.
    let s = c.args.store.now in
    let e = c.schema_found-found.ensures in
    let ends = EndsChecked (checks_at s.now.counted (pages_in s.now) c.args.entry) c.args.entry in
    subst (EndsTold (damage_told g.D.Disk c.tell.new.store) ends) (sym c.answer.ensures)
    (told_ends (damage_told g.D.Disk c.tell.new.store) ends c.schema_found-found.result c.tell.result c.tell.ensures.told (told, sound) (e.leaves.refused told sound) (e.ends told sound))
