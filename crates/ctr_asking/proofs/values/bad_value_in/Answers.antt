use Rattle.std.proofs.Common.{◌≡◌, None, ◌/◌, ◌+◌, refl}
use Rattle.ctr_page.specs.declared.walk.BadChain.TheVariants.{OnPage}
use Rattle.ctr_record_effects.specs.States.{pages_in, area_in}
use Rattle.ctr_walk.specs.Damage.{damage_told}
use Rattle.ctr_walk.proofs.Damages.{told_ends, told_ok}
use Rattle.ctr_wishes.specs.ctr_reading.catalog_Columns.{EndsChecked}
use Rattle.ctr_wishes.specs.ctr_reading.catalog_Finding.{checks_at}
use Rattle.ctr_asking.specs.Values.{bad_in}
use Rattle.ctr_asking.proofs.Told.{checked_undamaged}
use Rattle.ctr_asking.proofs.values.bad_value_in.Goals as goal

pub returns-clause-tells : goal.returns-clause-tells
returns-clause-tells g c = λ told sound.
    told_ok _ (damage_told g.D.Disk c.tell.new.store) (λ bad. bad ≡ bad_in c.args.statement.now (area_in c.args.store.now.now) c.args.entry) c.bad_found-found.result c.tell.result c.tell.ensures.told (c.bad_found-found.ensures.tells told sound)

pub returns-clause-refused : goal.returns-clause-refused
returns-clause-refused g c = λ told sound db.
    let s = c.args.store.now.now in
    let e = c.args.entry in
    let check = checks_at s.counted (pages_in s) e in
    let found = c.bad_found-found.ensures in
    checked_undamaged (damage_told g.D.Disk c.tell.new.store) check e c.tell.result
    (λ bad is. (c.a_catalog_search_meets_no_damage.ensures.changed s None e db c.requires.there).ends (OnPage (1 + e / 16) bad) (is, refl))
    (told_ends (damage_told g.D.Disk c.tell.new.store) (EndsChecked check e) c.bad_found-found.result c.tell.result c.tell.ensures.told (told, sound) (found.leaves.refused told sound) (found.ends told sound))
