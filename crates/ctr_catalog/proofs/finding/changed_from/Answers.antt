use Rattle.std.proofs.Common.{◌≤◌, ◌<◌, subst}
use Rattle.ctr_alloc.specs.record_effects_States.{pages_in, area_in}
use Rattle.ctr_names.specs.meta_Tables.{Tables}
use Rattle.ctr_alloc.specs.walk_Damage.{damage_told, EndsTold}
use Rattle.ctr_alloc.proofs.walk_Damages.{told_ends, told_ok}
use Rattle.ctr_catalog.specs.declared.finding.ChangeAt.{ChangeAt}
use Rattle.ctr_catalog.specs.Finding.{checks_at, changed_in, EndsChange}
use Rattle.ctr_catalog.proofs.finding.changed_from.Goals as goal

pub returns-clause-ends : goal.returns-clause-ends
returns-clause-ends g c = λ told sound.
    let s = c.args.store.now in
    let e = c.change_behind-found.ensures in
    subst (λ (tables : Tables). EndsTold (damage_told g.D.Disk c.tell.new.store) (EndsChange (checks_at s.now.counted (pages_in s.now)) (changed_in tables c.args.snapshot.now c.args.name.now (area_in s.now)) c.args.from) c.tell.result)
    (c.meta-tables.ensures.now told sound c.requires.going)
    (told_ends (damage_told g.D.Disk c.tell.new.store) (EndsChange (checks_at s.now.counted (pages_in s.now)) (changed_in s.meta.tables c.args.snapshot.now c.args.name.now (area_in s.now)) c.args.from) c.change_behind-found.result c.tell.result c.tell.ensures.told (told, sound) (e.leaves.refused told sound) (e.ends told sound))

pub returns-clause-inside : goal.returns-clause-inside
returns-clause-inside g c =
    told_ok _ (damage_told g.D.Disk c.tell.new.store) (λ (at : ChangeAt). (c.args.from ≤ at.entry) × (at.entry < 32)) c.change_behind-found.result c.tell.result c.tell.ensures.told c.change_behind-found.ensures.inside
