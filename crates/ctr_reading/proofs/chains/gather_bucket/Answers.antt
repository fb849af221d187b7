use Rattle.std.proofs.Common.{◌<◌, Err, sym, subst}
use Rattle.std.specs.Prelude.{IfErr, IfOk, IfSome, ◌≢◌}
use Rattle.ctr_page.specs.declared.checks.Chain.TheVariants.{Rows}
use Rattle.ctr_redo.specs.States.{State}
use Rattle.ctr_area.specs.Chains.{places_from}
use Rattle.ctr_walk.specs.record_effects_States.{area_in}
use Rattle.ctr_walk.specs.Damage.{damage_told}
use Rattle.ctr_walk.specs.Tables.{IsFirstPage, first_of_chain}
use Rattle.ctr_walk.proofs.Damages.{reads_err}
use Rattle.ctr_reading.specs.Reading.{as_told, sight_sees, IsDiskOrMemory}
use Rattle.ctr_reading.specs.Gathering.{gathered, Gathers, IsBucket}
use Rattle.ctr_reading.proofs.Gathers.{no_places}
use Rattle.ctr_reading.proofs.Places.{first_undamaged}
use Rattle.ctr_reading.proofs.Told.{reads_behind, told_ok}
use Rattle.ctr_reading.proofs.chains.gather_bucket.Goals as goal

pub returns-in-Err-clause-refused : goal.returns-in-Err-clause-refused
returns-in-Err-clause-refused g c = λ told sound database.
    let s = c.args.store.now.now in
    first_undamaged (damage_told g.D.Disk c.first_page.new.store) c.args.entry c.args.bucket s (λ sought. c.a_bucket_search_meets_no_damage.ensures s c.args.entry c.args.bucket sought database c.requires.there.0) (Err c.in-Err.fault) (c.in-Err.ensures.ends told sound)

pub returns-in-Err-clause-leaves : goal.returns-in-Err-clause-leaves
returns-in-Err-clause-leaves g c = reads_err g.O.Origin.first g.D.Disk _ _ c.in-Err.fault c.args.store.now c.first_page.new.store c.in-Err.ensures.leaves

pub returns-in-None-clause-gathers : goal.returns-in-None-clause-gathers
returns-in-None-clause-gathers g c = λ told sound.
    let s = c.args.store.now.now in
    let first = first_of_chain (area_in s) (Rows c.args.entry c.args.bucket) in
    sym (no_places (sight_sees s.tables c.args.sight.now) (area_in s) first c.args.rows.now (subst (IsFirstPage first) c.in-None.is (c.in-Ok.ensures.ends told sound).1))

pub returns-in-None-clause-leaves : goal.returns-in-None-clause-leaves
returns-in-None-clause-leaves g c = told_ok g.O.Origin.first g.D.Disk c.in-Ok.found _ c.args.store.now c.first_page.new.store c.in-Ok.ensures.leaves

pub gather_from-requires-clause-some : goal.gather_from-requires-clause-some
gather_from-requires-clause-some g c = (subst (λ found. IfSome found (λ p. (p ≢ 0) × (p < c.args.store.now.now.counted))) c.in-Some.is c.in-Ok.ensures.inside).0

pub gather_from-requires-clause-counted : goal.gather_from-requires-clause-counted
gather_from-requires-clause-counted g c = subst (λ n. c.in-Some.first < n) (sym c.in-Ok.ensures.leaves.keeps.counted) (subst (λ found. IfSome found (λ p. (p ≢ 0) × (p < c.args.store.now.now.counted))) c.in-Some.is c.in-Ok.ensures.inside).1

pub returns-in-Some-clause-gathers : goal.returns-in-Some-clause-gathers
returns-in-Some-clause-gathers g c = λ told sound.
    let s = c.args.store.now.now in
    let chain_first = first_of_chain (area_in s) (Rows c.args.entry c.args.bucket) in
    let is = (subst (IsFirstPage chain_first) c.in-Some.is (c.in-Ok.ensures.ends told sound).1).1 in
    subst (λ p. IfOk (as_told c.gather_from.result) (Gathers (gathered (sight_sees s.tables c.args.sight.now) (area_in s) (places_from (area_in s) p) c.args.rows.now) c.gather_from.new.rows)) is
    (subst (λ (t : State). IfOk (as_told c.gather_from.result) (Gathers (gathered (sight_sees t.tables c.args.sight.now) (area_in t) (places_from (area_in t) c.in-Some.first) c.args.rows.now) c.gather_from.new.rows)) (c.in-Ok.ensures.leaves.logs told sound).now (c.gather_from.ensures.gathers told sound))

pub returns-in-Some-clause-refused : goal.returns-in-Some-clause-refused
returns-in-Some-clause-refused g c = λ told sound database.
    let s = c.args.store.now.now in
    let chain_first = first_of_chain (area_in s) (Rows c.args.entry c.args.bucket) in
    let is = (subst (IsFirstPage chain_first) c.in-Some.is (c.in-Ok.ensures.ends told sound).1).1 in
    subst (λ (t : State). IsBucket (Rows c.args.entry c.args.bucket) c.in-Some.first t → IfErr c.gather_from.result IsDiskOrMemory) (c.in-Ok.ensures.leaves.logs told sound).now (c.gather_from.ensures.refused told sound)
    (record { sound = database; rows = tt; first = is })

pub returns-in-Some-clause-leaves : goal.returns-in-Some-clause-leaves
returns-in-Some-clause-leaves g c =
    reads_behind g.O.Origin.first g.D.Disk c.in-Ok.found (as_told c.gather_from.result) c.args.store.now c.first_page.new.store c.gather_from.new.store c.in-Ok.ensures.leaves c.gather_from.ensures.leaves
