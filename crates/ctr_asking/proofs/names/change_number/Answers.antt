use Rattle.std.proofs.Common.{◌≡◌, false, Err, Option, Some, None, ℕ, refl, sym, ◌∙◌, ap}
use Rattle.std.specs.Prelude.{is_some, option_and_then}
use Rattle.std.proofs.lemmas.Bool.{false≢true}
use Rattle.ctr_record_effects.specs.States.{pages_in, area_in}
use Rattle.ctr_walk.specs.Damage.{damage_told}
use Rattle.ctr_wishes.specs.actions_Sites.{site_of}
use Rattle.ctr_wishes.specs.ctr_reading.catalog_Finding.{checks_at, changed_in, EndsChange}
use Rattle.ctr_txn.specs.Numbered.{number_asked}
use Rattle.ctr_asking.specs.Causes.{later, last_change}
use Rattle.ctr_asking.proofs.Greatest.{last_behind}
use Rattle.ctr_asking.proofs.Reading.{read_answered, read_failed, looks_well, undamaged}
use Rattle.ctr_asking.proofs.names.change_number.Goals as goal

unsaid : (f : ℕ → Option ℕ) (o : Option ℕ) → is_some o ≡ false → option_and_then f o ≡ None
unsaid f None isnt = refl
unsaid f (Some x) isnt = absurd (false≢true (sym isnt))

pub returns-clause-tells : goal.returns-clause-tells
returns-clause-tells g c = λ told sound.
    let commits = c.args.txns.now.numbers.commits in
    let number = λ (x : ℕ). number_asked x commits in
    let site = site_of c.args.store.now.now in
    let snapshot = c.args.snapshot.now in
    let name = c.args.name.now in
    let looks = c.in-Ok.ensures.ends told sound in
    last_behind commits site snapshot name c.args.from c.in-Ok.at.entry looks.from_on (λ m on lt. unsaid number (changed_in site.tables snapshot name site.area m) (looks.before m on lt).1)
    ∙ ap (later (last_change commits site snapshot name c.args.from)) (ap (option_and_then number) (sym looks.is_said) ∙ sym c.number_of.ensures)

pub returns-clause-leaves : goal.returns-clause-leaves
returns-clause-leaves g c = read_answered g.O.Origin.first g.D.Disk _ _ c.in-Ok.at (record { entry = c.in-Ok.at.entry; number = c.number_of.result }) c.args.store.now c.changed_from.new.store c.in-Ok.ensures.leaves

pub returns-in-Err-clause-refused : goal.returns-in-Err-clause-refused
returns-in-Err-clause-refused g c = λ told sound db.
    let s = c.args.store.now.now in
    let who = λ (e : ℕ). changed_in s.tables c.args.snapshot.now c.args.name.now (area_in s) e in
    undamaged (EndsChange (checks_at s.counted (pages_in s)) who c.args.from) (damage_told g.D.Disk c.changed_from.new.store) (Err c.in-Err.fault)
    (looks_well (checks_at s.counted (pages_in s)) who c.args.from (λ (w : Option ℕ) e lt. c.a_catalog_search_meets_no_damage.ensures.changed s w e db lt)) (c.in-Err.ensures.ends told sound)

pub returns-in-Err-clause-leaves : goal.returns-in-Err-clause-leaves
returns-in-Err-clause-leaves g c = read_failed g.O.Origin.first g.D.Disk _ _ c.in-Err.fault c.args.store.now c.changed_from.new.store c.in-Err.ensures.leaves
