use Rattle.std.proofs.Common.{subst, ◌<◌, Option, ℕ}
use Rattle.std.specs.Prelude.{IfSome}
use Rattle.ctr_alloc.specs.record_effects_States.{pages_in, area_in}
use Rattle.ctr_names.specs.meta_Tables.{Tables}
use Rattle.ctr_alloc.specs.walk_Damage.{damage_told, EndsTold}
use Rattle.ctr_alloc.proofs.walk_Damages.{told_ends, told_ok}
use Rattle.ctr_catalog.specs.Finding.{checks_at, entry_seen, EndsEntries}
use Rattle.ctr_catalog.proofs.finding.find.Goals as goal

pub returns-clause-ends : goal.returns-clause-ends
returns-clause-ends g c = λ told sound.
    let s = c.args.store.now in
    let e = c.search_entries-found.ensures in
    subst (λ (tables : Tables). EndsTold (damage_told g.D.Disk c.tell.new.store) (EndsEntries (checks_at s.now.counted (pages_in s.now)) (entry_seen tables c.args.snapshot.now c.args.me c.args.name.now (area_in s.now))) c.tell.result)
    (c.meta-tables.ensures.now told sound c.requires.going)
    (told_ends (damage_told g.D.Disk c.tell.new.store) (EndsEntries (checks_at s.now.counted (pages_in s.now)) (entry_seen s.meta.tables c.args.snapshot.now c.args.me c.args.name.now (area_in s.now))) c.search_entries-found.result c.tell.result c.tell.ensures.told (told, sound) (e.leaves.refused told sound) (e.ends told sound))

pub returns-clause-inside : goal.returns-clause-inside
returns-clause-inside g c =
    told_ok _ (damage_told g.D.Disk c.tell.new.store) (λ (found : Option ℕ). IfSome found (λ e. e < 32)) c.search_entries-found.result c.tell.result c.tell.ensures.told c.search_entries-found.ensures.inside
