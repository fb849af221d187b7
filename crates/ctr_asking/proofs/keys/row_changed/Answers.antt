use Rattle.std.proofs.Common.{◌≡◌, w64, Err, None, Some, Option, ℕ, refl, subst, to_z, of_z}
use Rattle.std.specs.Prelude.{IfOk, IfErr}
use Rattle.std.proofs.lemmas.Int.{to_z-of_z}
use Rattle.ctr_disk.specs.declared.fault.StoreFault.TheVariants.{Fault}
use Rattle.ctr_page.specs.declared.rows.Place.{Place}
use Rattle.ctr_page.specs.Places.{bucket_of}
use Rattle.ctr_wishes.specs.ctr_reading.heap_SlotSought.TheVariants.{Key}
use Rattle.ctr_wishes.specs.ctr_reading.heap_Finding.{EndsBucket}
use Rattle.ctr_redo.specs.States.{State}
use Rattle.ctr_area.specs.Sound.{IsUsedSlot}
use Rattle.ctr_record_effects.specs.States.{pages_in, area_in}
use Rattle.ctr_record_effects.specs.Standing.{IsDatabaseState}
use Rattle.ctr_walk.specs.Damage.{damage_told}
use Rattle.ctr_wishes.specs.actions_Sites.{site_of}
use Rattle.ctr_asking.specs.Causes.{newer_at}
use Rattle.ctr_asking.proofs.Reading.{read_answered, read_behind, read_failed, undamaged}
use Rattle.ctr_asking.proofs.Slots.{found_so, newer_here}
use Rattle.ctr_asking.proofs.keys.row_changed.Goals as goal

pub returns-in-None-clause-tells : goal.returns-in-None-clause-tells
returns-in-None-clause-tells g c = λ told sound readable.
    let s = c.args.store.now.now in
    let e = c.args.entry in
    (None, found_so (area_in s) e (to_z w64 (of_z w64 c.args.key)) c.args.key c.in-Ok.found (to_z-of_z w64 c.args.key c.ranges.key) (c.in-Ok.ensures.finds told sound readable) None c.in-None.is, refl)

pub returns-in-Some-clause-tells : goal.returns-in-Some-clause-tells
returns-in-Some-clause-tells g c = λ told sound readable.
    let s = c.args.store.now.now in
    let e = c.args.entry in
    let at = c.in-Some.place in
    let commits = c.args.txns.now.numbers.commits in
    let snapshot = c.args.snapshot.now in
    let finds = found_so (area_in s) e (to_z w64 (of_z w64 c.args.key)) c.args.key c.in-Ok.found (to_z-of_z w64 c.args.key c.ranges.key) (c.in-Ok.ensures.finds told sound readable) (Some at) c.in-Some.is in
    newer_here commits (site_of s) snapshot e c.args.key at c.newer.result finds
    (subst (λ (u : State). IfOk c.newer.result (λ n. n ≡ newer_at commits (site_of u) snapshot at)) (c.in-Ok.ensures.leaves.logs told sound).now (c.newer.ensures.tells told sound))

pub returns-in-Err-clause-refused : goal.returns-in-Err-clause-refused
returns-in-Err-clause-refused g c = λ told sound db.
    let s = c.args.store.now.now in
    let e = c.args.entry in
    let key = to_z w64 (of_z w64 c.args.key) in
    undamaged (EndsBucket s.counted (pages_in s) e (bucket_of key) (Key key)) (damage_told g.D.Disk c.find.new.store) (Err c.in-Err.fault)
    (c.a_bucket_search_meets_no_damage.ensures s e (bucket_of key) (Key key) db c.requires.there) (c.in-Err.ensures.ends told sound)

pub returns-in-Some-clause-refused : goal.returns-in-Some-clause-refused
returns-in-Some-clause-refused g c = λ told sound db.
    let s = c.args.store.now.now in
    let e = c.args.entry in
    let at = c.in-Some.place in
    let finds = found_so (area_in s) e (to_z w64 (of_z w64 c.args.key)) c.args.key c.in-Ok.found (to_z-of_z w64 c.args.key c.ranges.key) (c.in-Ok.ensures.finds told sound db.sound.readable) (Some at) c.in-Some.is in
    subst (λ (u : State). IsDatabaseState u → IsUsedSlot (area_in u) e at → IfErr c.newer.result (λ e. e ≡ Fault)) (c.in-Ok.ensures.leaves.logs told sound).now (c.newer.ensures.refused e told sound) db finds.0

pub returns-in-Err-clause-leaves : goal.returns-in-Err-clause-leaves
returns-in-Err-clause-leaves g c = read_failed g.O.Origin.first g.D.Disk (Option Place) (Option ℕ) c.in-Err.fault c.args.store.now c.find.new.store c.in-Err.ensures.leaves

pub returns-in-None-clause-leaves : goal.returns-in-None-clause-leaves
returns-in-None-clause-leaves g c = read_answered g.O.Origin.first g.D.Disk (Option Place) (Option ℕ) c.in-Ok.found None c.args.store.now c.find.new.store c.in-Ok.ensures.leaves

pub returns-in-Some-clause-leaves : goal.returns-in-Some-clause-leaves
returns-in-Some-clause-leaves g c = read_behind g.O.Origin.first g.D.Disk (Option Place) (Option ℕ) c.in-Ok.found c.args.store.now c.find.new.store c.newer.new.store c.newer.result c.in-Ok.ensures.leaves c.newer.ensures.leaves
