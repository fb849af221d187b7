use Rattle.std.proofs.Common.{◌≡◌, ◌+◌, ◌≤◌, inl, inr, drop, slice_index, length, Result, Ok, Err, refl, sym, ◌∙◌, ap, subst, arith}
use Rattle.std.specs.Prelude.{IfOk, ⊤}
use Rattle.ctr_redo.specs.States.{State}
use Rattle.ctr_area.specs.Chains.{places_from, slot_places}
use Rattle.ctr_walk.specs.record_effects_States.{pages_in, area_in}
use Rattle.ctr_walk.specs.record_effects_Standing.{IsDatabaseState}
use Rattle.ctr_views.specs.chain_ReadRefusal.{ReadRefusal}
use Rattle.ctr_walk.proofs.PagesRead.{still_goes, same_now, was_read}
use Rattle.ctr_reading.specs.Reading.{as_told, sight_sees, IsDiskOrMemory}
use Rattle.ctr_reading.specs.Gathering.{gathered, bucket_places, Gathers}
use Rattle.ctr_reading.proofs.Gathers.{refused_further, buckets_places, bucket_step, buckets_end, eight_buckets}
use Rattle.ctr_reading.proofs.Told.{reads_further, told_ok}
use Rattle.ctr_reading.proofs.chains.scan.Goals as goal

pub loop-bucket-init : goal.loop-bucket-init
loop-bucket-init g c = (inl (refl, refl), λ told sound. refl)

pub gather_bucket-requires-clause-going : goal.gather_bucket-requires-clause-going
gather_bucket-requires-clause-going g c = still_goes g.O.Origin.first g.D.Disk _ c.args.store.now c.loop-bucket.store c.loop-bucket.invariant.0 c.requires.going

pub returns-in-Err-clause-gathers : goal.returns-in-Err-clause-gathers
returns-in-Err-clause-gathers g c = λ told sound.
    let s = c.args.store.now.now in
    let b = c.loop-bucket.bucket in
    let buckets = ((area_in s).firsts c.args.entry).buckets in
    let test = sight_sees s.tables c.args.sight.now in
    let same = same_now g.O.Origin.first g.D.Disk _ c.args.store.now c.loop-bucket.store c.loop-bucket.invariant.0 told sound in
    let r : Result ⊤ ReadRefusal = Err c.in-Err.refusal in
    let here = subst (λ (t : State). IfOk (as_told r) (Gathers (gathered (sight_sees t.tables c.args.sight.now) (area_in t) (bucket_places (area_in t) c.args.entry b) c.loop-bucket.rows) c.gather_bucket.new.rows)) same (c.in-Err.ensures.gathers told sound) in
    refused_further test (area_in s) ⊤ ⊤ (buckets_places test (area_in s) (drop (b + 1) buckets)) (gathered test (area_in s) (places_from (area_in s) (slice_index buckets b)) c.loop-bucket.rows) (gathered test (area_in s) (slot_places (area_in s) c.args.entry) c.args.rows.now)
    c.gather_bucket.new.rows c.gather_bucket.new.rows c.in-Err.refusal
    (sym (bucket_step test (area_in s) buckets b c.loop-bucket.rows) ∙ c.loop-bucket.invariant.1 told sound) here

pub returns-in-Err-clause-refused : goal.returns-in-Err-clause-refused
returns-in-Err-clause-refused g c = λ told sound.
    let same = same_now g.O.Origin.first g.D.Disk _ c.args.store.now c.loop-bucket.store c.loop-bucket.invariant.0 told sound in
    subst (λ (t : State). IsDatabaseState t → IsDiskOrMemory c.in-Err.refusal) same (c.in-Err.ensures.refused told sound)

pub returns-in-Err-clause-leaves : goal.returns-in-Err-clause-leaves
returns-in-Err-clause-leaves g c =
    reads_further g.O.Origin.first g.D.Disk _ (as_told {T = ⊤} (Err c.in-Err.refusal)) c.args.store.now c.loop-bucket.store c.gather_bucket.new.store c.loop-bucket.invariant.0 c.in-Err.ensures.leaves

pub loop-bucket-preserved : goal.loop-bucket-preserved
loop-bucket-preserved g c = (
  inr (told_ok g.O.Origin.first g.D.Disk _ tt c.args.store.now c.gather_bucket.new.store
      (reads_further g.O.Origin.first g.D.Disk _ (Ok (Ok tt)) c.args.store.now c.loop-bucket.store c.gather_bucket.new.store c.loop-bucket.invariant.0 c.in-Ok.ensures.leaves)),
  λ told sound.
      let s = c.args.store.now.now in
      let b = c.loop-bucket.bucket in
      let buckets = ((area_in s).firsts c.args.entry).buckets in
      let test = sight_sees s.tables c.args.sight.now in
      let same = same_now g.O.Origin.first g.D.Disk _ c.args.store.now c.loop-bucket.store c.loop-bucket.invariant.0 told sound in
      let here = subst (λ (t : State). c.gather_bucket.new.rows ≡ gathered (sight_sees t.tables c.args.sight.now) (area_in t) (bucket_places (area_in t) c.args.entry b) c.loop-bucket.rows) same (c.in-Ok.ensures.gathers told sound) in
      ap (gathered test (area_in s) (buckets_places test (area_in s) (drop (b + 1) buckets))) here ∙ sym (bucket_step test (area_in s) buckets b c.loop-bucket.rows) ∙ c.loop-bucket.invariant.1 told sound,
)

pub returns-clause-gathers : goal.returns-clause-gathers
returns-clause-gathers g c = λ told sound.
    let s = c.args.store.now.now in
    let b = c.loop-bucket.bucket in
    let buckets = ((area_in s).firsts c.args.entry).buckets in
    let few : length buckets ≤ b = omega (arith, eight_buckets (pages_in s) c.args.entry, c.loop-bucket-test.false) in
    sym (buckets_end (sight_sees s.tables c.args.sight.now) (area_in s) buckets b c.loop-bucket.rows few) ∙ c.loop-bucket.invariant.1 told sound

pub returns-clause-leaves : goal.returns-clause-leaves
returns-clause-leaves g c =
    told_ok g.O.Origin.first g.D.Disk tt _ c.args.store.now c.loop-bucket.store
    (was_read g.O.Origin.first g.D.Disk _ c.args.store.now c.loop-bucket.store c.loop-bucket.invariant.0 (λ u. omega (arith, u, c.loop-bucket-test.false)))
