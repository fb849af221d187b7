use Rattle.std.proofs.Common.{subst}
use Rattle.ctr_alloc.specs.record_effects_States.{pages_in, area_in}
use Rattle.ctr_names.specs.meta_Tables.{Tables}
use Rattle.ctr_alloc.specs.walk_Damage.{damage_told, EndsTold}
use Rattle.ctr_alloc.proofs.walk_Damages.{told_ends}
use Rattle.ctr_catalog.specs.Finding.{checks_at, changed_in, EndsEntry}
use Rattle.ctr_catalog.proofs.finding.changed.Goals as goal

pub returns-clause-ends : goal.returns-clause-ends
returns-clause-ends g c = λ told sound.
    let s = c.args.store.now in
    let e = c.change_of-found.ensures in
    subst (λ (tables : Tables). EndsTold (damage_told g.D.Disk c.tell.new.store) (EndsEntry (checks_at s.now.counted (pages_in s.now) c.args.entry) (changed_in tables c.args.snapshot.now c.args.name.now (area_in s.now) c.args.entry) c.args.entry) c.tell.result)
    (c.meta-tables.ensures.now told sound c.requires.going)
    (told_ends (damage_told g.D.Disk c.tell.new.store) (EndsEntry (checks_at s.now.counted (pages_in s.now) c.args.entry) (changed_in s.meta.tables c.args.snapshot.now c.args.name.now (area_in s.now) c.args.entry) c.args.entry) c.change_of-found.result c.tell.result c.tell.ensures.told (told, sound) (e.leaves.refused told sound) (e.ends told sound))
