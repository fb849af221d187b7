use Rattle.std.proofs.Common.{◌≡◌, inl, inr, None, Err, refl, subst}
use Rattle.std.specs.Prelude.{IfErr, IfOk}
use Rattle.ctr_disk.specs.declared.fault.StoreFault.TheVariants.{Fault}
use Rattle.std.specs.Int.{w64}
use Rattle.std.proofs.lemmas.Int.{to_z-of_z}
use Rattle.ctr_redo.specs.States.{State}
use Rattle.ctr_walk.specs.record_effects_States.{pages_in, area_in}
use Rattle.ctr_walk.specs.Damage.{damage_told, EndsTold, ReadsPages}
use Rattle.ctr_walk.proofs.Damages.{reads_err}
use Rattle.ctr_undamaged.specs.heap_Finding.{FindsKey}
use Rattle.ctr_views.specs.chain_Rows.{GivesRow}
use Rattle.ctr_undamaged.specs.chain_Seeking.{sought_at}
use Rattle.ctr_views.specs.chain_Visible.{as_read, EndsReading, visible_row}
use Rattle.ctr_reading.specs.Reading.{as_told, sight_sees, GivesSeen}
use Rattle.ctr_reading.proofs.Told.{undamaged, same_told, disk_or_memory, reads_behind, ok_so, of_key, bucket_undamaged}
use Rattle.ctr_reading.proofs.key.row_of_key.Goals as goal

pub returns-in-Err-clause-refused : goal.returns-in-Err-clause-refused
returns-in-Err-clause-refused g c = λ told sound database.
    let s = c.args.store.now.now in
    bucket_undamaged _ s.counted (pages_in s) c.args.entry _ (Err c.in-Err.fault)
    (λ b sought. c.a_bucket_search_meets_no_damage.ensures s c.args.entry b sought database c.requires.there) (c.in-Err.ensures.ends told sound)

pub returns-in-Err-clause-leaves : goal.returns-in-Err-clause-leaves
returns-in-Err-clause-leaves g c = reads_err g.O.Origin.first g.D.Disk _ _ c.in-Err.fault c.args.store.now c.find.new.store c.in-Err.ensures.leaves

pub returns-in-None-clause-shows : goal.returns-in-None-clause-shows
returns-in-None-clause-shows g c = λ told sound area_sound.
    let s = c.args.store.now.now in
    let none = subst (FindsKey (area_in s) c.args.entry c.args.key) c.in-None.is (of_key (area_in s) c.args.entry _ c.args.key c.in-Ok.found (to_z-of_z w64 c.args.key c.ranges.key) (c.in-Ok.ensures.finds told sound area_sound.readable)) in
    (None, inr (none area_sound.keys, refl), refl)

pub returns-in-Some-clause-shows : goal.returns-in-Some-clause-shows
returns-in-Some-clause-shows g c = λ told sound area_sound.
    let s = c.args.store.now.now in
    let place = c.in-Some.place in
    let found = subst (FindsKey (area_in s) c.args.entry c.args.key) c.in-Some.is (of_key (area_in s) c.args.entry _ c.args.key c.in-Ok.found (to_z-of_z w64 c.args.key c.ranges.key) (c.in-Ok.ensures.finds told sound area_sound.readable)) in
    let V = visible_row (sight_sees s.tables c.args.sight.now) (area_in s) place in
    let shown = subst (λ (t : State). IfOk (as_read c.visible.result) (GivesRow (visible_row (sight_sees t.tables c.args.sight.now) (area_in t) place))) (c.in-Ok.ensures.leaves.logs told sound).now (c.visible.ensures.shows told sound) in
    ok_so (GivesRow V) (GivesSeen (sight_sees s.tables c.args.sight.now) (area_in s) c.args.entry c.args.key) (as_told c.visible.result)
    (λ given gives. (V, inl (place, found.0, found.1, refl), gives))
    (subst (λ r. IfOk r (GivesRow V)) (same_told c.visible.result) shown)

pub returns-in-Some-clause-refused : goal.returns-in-Some-clause-refused
returns-in-Some-clause-refused g c = λ told sound database.
    let s = c.args.store.now.now in
    let place = c.in-Some.place in
    let test = sight_sees s.tables c.args.sight.now in
    let found = subst (FindsKey (area_in s) c.args.entry c.args.key) c.in-Some.is (of_key (area_in s) c.args.entry _ c.args.key c.in-Ok.found (to_z-of_z w64 c.args.key c.ranges.key) (c.in-Ok.ensures.finds told sound database.sound.readable)) in
    let ends = subst (λ (t : State). EndsTold (damage_told g.D.Disk c.visible.new.store) (EndsReading (sought_at (sight_sees t.tables c.args.sight.now) t.counted (pages_in t) place)) (as_read c.visible.result)) (c.in-Ok.ensures.leaves.logs told sound).now (c.visible.ensures.ends told sound) in
    disk_or_memory c.visible.result (subst (λ r. IfErr r (λ e. e ≡ Fault)) (same_told c.visible.result)
    (undamaged (damage_told g.D.Disk c.visible.new.store) (EndsReading (sought_at test s.counted (pages_in s) place)) (c.a_row_is_read_without_damage.ensures.row s test c.args.entry place database found.0.0) (as_read c.visible.result) ends))

pub returns-in-Some-clause-leaves : goal.returns-in-Some-clause-leaves
returns-in-Some-clause-leaves g c =
    reads_behind g.O.Origin.first g.D.Disk c.in-Ok.found (as_told c.visible.result) c.args.store.now c.find.new.store c.visible.new.store c.in-Ok.ensures.leaves
    (subst (ReadsPages g.O.Origin.first g.D.Disk c.find.new.store c.visible.new.store) (same_told c.visible.result) c.visible.ensures.leaves)
