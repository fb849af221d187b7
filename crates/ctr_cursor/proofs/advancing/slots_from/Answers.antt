use Rattle.std.proofs.Common.{◌≡◌, ◌+◌, Ok, Err, sym, ◌∙◌, ap, subst}
use Rattle.ctr_walk.specs.redo_States.{State}
use Rattle.ctr_actions.specs.Sites.{site_of}
use Rattle.ctr_page.specs.declared.checks.Chain.TheVariants.{Rows}
use Rattle.ctr_walk.specs.record_effects_States.{area_in}
use Rattle.ctr_walk.specs.Tables.{first_of_chain}
use Rattle.ctr_walk.proofs.Damages.{reads_err}
use Rattle.ctr_reading.proofs.Told.{reads_behind, told_ok}
use Rattle.ctr_cursor.specs.declared.position.Position.TheVariants.{Slot}
use Rattle.ctr_cursor.specs.Pass.{first_on, at_or, buckets_from}
use Rattle.ctr_cursor.proofs.Advances.{bucket_step}
use Rattle.ctr_cursor.proofs.advancing.slots_from.Goals as goal

pub returns-in-Err-clause-leaves : goal.returns-in-Err-clause-leaves
returns-in-Err-clause-leaves g c = reads_err g.O.Origin.first g.D.Disk _ _ c.in-Err.fault c.args.store.now c.first_place.new.store
    (reads_behind g.O.Origin.first g.D.Disk tt (Err c.in-Err.fault) c.args.store.now c.loop-bucket.store c.first_place.new.store c.loop-bucket.invariant.read c.in-Err.ensures.leaves)

pub returns-in-Ok-Some-clause-leaves : goal.returns-in-Ok-Some-clause-leaves
returns-in-Ok-Some-clause-leaves g c = told_ok g.O.Origin.first g.D.Disk c.in-Ok-Some.field-0 _ c.args.store.now c.first_place.new.store
    (reads_behind g.O.Origin.first g.D.Disk tt (Ok c.in-Ok-Some.field-0) c.args.store.now c.loop-bucket.store c.first_place.new.store c.loop-bucket.invariant.read c.in-Ok-Some.ensures.leaves)

pub loop-bucket-preserved : goal.loop-bucket-preserved
loop-bucket-preserved g c = record {
  read = told_ok g.O.Origin.first g.D.Disk c.in-Ok-None.field-0 tt c.args.store.now c.first_place.new.store
      (reads_behind g.O.Origin.first g.D.Disk tt (Ok c.in-Ok-None.field-0) c.args.store.now c.loop-bucket.store c.first_place.new.store c.loop-bucket.invariant.read c.in-Ok-None.ensures.leaves);
  none = λ told sound.
      let s = site_of c.args.store.now.now in
      let e = c.args.entry in
      let b = c.loop-bucket.bucket in
      let first = subst (λ (t : State). c.in-Ok-None.field-0 ≡ first_on (first_of_chain (area_in t) (Rows e b))) (c.loop-bucket.invariant.read.logs told sound).now (c.in-Ok-None.ensures.first told sound) in
      c.loop-bucket.invariant.none told sound ∙ bucket_step s e b ∙ ap (at_or (λ at. Slot e b at) (buckets_from e (b + 1) s)) (sym first ∙ c.in-Ok-None.field-0-is);
}

pub returns-clause-leaves : goal.returns-clause-leaves
returns-clause-leaves g c = reads_behind g.O.Origin.first g.D.Disk tt c.kept_from.result c.args.store.now c.loop-bucket.store c.kept_from.new.store c.loop-bucket.invariant.read c.kept_from.ensures.leaves
