use Rattle.std.proofs.Common.{◌≡◌, ◌+◌, ℕ, true, [], None, Some, Ok, Err, refl, ◌∙◌, ap, subst}
use Rattle.std.specs.Prelude.{IfOk, IfErr}
use Rattle.ctr_disk.specs.declared.fault.StoreFault.{StoreFault}
use Rattle.ctr_disk.specs.declared.fault.StoreFault.TheVariants.{Fault}
use Rattle.ctr_walk.specs.redo_States.{State}
use Rattle.ctr_walk.specs.record_effects_States.{area_in}
use Rattle.ctr_walk.specs.record_effects_Standing.{IsDatabaseState}
use Rattle.ctr_record_laws.specs.Owed.{OwedByUnlink}
use Rattle.ctr_emptying.specs.Emptying.{UnlinksRowsAt}
use Rattle.ctr_emptying.specs.cursor_Position.TheVariants.{Entry}
use Rattle.ctr_cleaner.specs.Turning.{heeding}
use Rattle.ctr_cleaner.specs.Parts.{DidAt, done_unlinked}
use Rattle.ctr_cleaner.proofs.Joined.{part_told}
use Rattle.ctr_cleaner.proofs.Found.{unlinked_err, err_told, ok_told, everything, unlinks_rows, none_more, eight, none_all}
use Rattle.ctr_cleaner.proofs.emptying.unlink_rows.Goals as goal

pub returns-in-Err-clause-tries : goal.returns-in-Err-clause-tries
returns-in-Err-clause-tries g c =
    let first = g.O.Origin.first in
    let cur = c.loop-bucket.store in
    let new = c.unlink_rows_at.new.store in
    let r = c.unlink_rows_at.result in
    let does = c.unlink_rows_at.ensures in
    c.a_part_goes_on.ensures.behind true first c.args.store.now cur new (Err c.in-Err.fault) c.loop-bucket.invariant.tried
    (part_told first g.D.Disk true cur new (done_unlinked r) c.unlinked.result (Err c.in-Err.fault) c.unlinked.ensures c.in-Err.is (c.a_step_is_a_part.ensures.unlinked first cur new r does.turns does.numbers does.left does.counted))

pub returns-in-Err-clause-refused : goal.returns-in-Err-clause-refused
returns-in-Err-clause-refused g c = λ told sound database dead.
    let first = g.O.Origin.first in
    let e = c.args.entry in
    let r = c.unlink_rows_at.result in
    let same = ((c.a_part_goes_on.ensures.read true first c.args.store.now c.loop-bucket.store c.loop-bucket.invariant.tried).logs told sound).now in
    err_told (λ (f : StoreFault). f ≡ Fault) (done_unlinked r) c.unlinked.result c.in-Err.fault c.unlinked.ensures c.in-Err.is (unlinked_err (λ (f : StoreFault). f ≡ Fault) r
    (subst (λ (u : State). IsDatabaseState u → ((area_in u).title e).state ≡ 2 → IfErr r (λ (f : StoreFault). f ≡ Fault)) same (c.unlink_rows_at.ensures.refused told sound) database dead))

pub returns-in-Ok-Some-clause-tries : goal.returns-in-Ok-Some-clause-tries
returns-in-Ok-Some-clause-tries g c =
    let first = g.O.Origin.first in
    let cur = c.loop-bucket.store in
    let new = c.unlink_rows_at.new.store in
    let r = c.unlink_rows_at.result in
    let does = c.unlink_rows_at.ensures in
    c.a_part_goes_on.ensures.behind true first c.args.store.now cur new (Ok (Some c.in-Ok-Some.dealt)) c.loop-bucket.invariant.tried
    (part_told first g.D.Disk true cur new (done_unlinked r) c.unlinked.result (Ok (Some c.in-Ok-Some.dealt)) c.unlinked.ensures (c.in-Ok-Some.is ∙ ap Ok c.in-Ok-Some.field-0-is) (c.a_step_is_a_part.ensures.unlinked first cur new r does.turns does.numbers does.left does.counted))

pub returns-in-Ok-Some-clause-cleans : goal.returns-in-Ok-Some-clause-cleans
returns-in-Ok-Some-clause-cleans g c = λ h told sound database dead.
    let first = g.O.Origin.first in
    let s = c.args.store.now.now in
    let new = c.unlink_rows_at.new.store.now in
    let e = c.args.entry in
    let b = c.loop-bucket.bucket in
    let r = c.unlink_rows_at.result in
    let same = ((c.a_part_goes_on.ensures.read true first c.args.store.now c.loop-bucket.store c.loop-bucket.invariant.tried).logs told sound).now in
    ok_told (DidAt h (Entry e) ((p : ℕ) → OwedByUnlink s.tables (area_in s) p e b → ⊥) s new) (done_unlinked r) c.unlinked.result (Some c.in-Ok-Some.dealt) c.unlinked.ensures (c.in-Ok-Some.is ∙ ap Ok c.in-Ok-Some.field-0-is)
    (unlinks_rows h e b s new r dead (subst (λ (u : State). IsDatabaseState u → ((area_in u).title e).state ≡ 2 → IfOk r (UnlinksRowsAt e b u new)) same (c.unlink_rows_at.ensures.cleans told sound) database dead))

pub loop-bucket-preserved : goal.loop-bucket-preserved
loop-bucket-preserved g c =
    let first = g.O.Origin.first in
    let old = c.args.store.now in
    let cur = c.loop-bucket.store in
    let new = c.unlink_rows_at.new.store in
    let r = c.unlink_rows_at.result in
    let does = c.unlink_rows_at.ensures in
    let is = c.in-Ok-None.is ∙ ap Ok c.in-Ok-None.field-0-is in
    let one = part_told first g.D.Disk true cur new (done_unlinked r) c.unlinked.result (Ok None) c.unlinked.ensures is (c.a_step_is_a_part.ensures.unlinked first cur new r does.turns does.numbers does.left does.counted) in
    record {
      tried = c.a_part_goes_on.ensures.behind true first old cur new (Ok None) c.loop-bucket.invariant.tried one;
      room = c.a_part_goes_on.ensures.one true 0 1 first cur new one c.loop-bucket.invariant.room;
      none = λ told sound database dead.
          let s = old.now in
          let e = c.args.entry in
          let b = c.loop-bucket.bucket in
          let same = ((c.a_part_goes_on.ensures.read true first old cur c.loop-bucket.invariant.tried).logs told sound).now in
          let did = ok_told (DidAt (heeding 0 [] 0 everything) (Entry e) ((p : ℕ) → OwedByUnlink s.tables (area_in s) p e b → ⊥) s new.now) (done_unlinked r) c.unlinked.result None c.unlinked.ensures is
          (unlinks_rows (heeding 0 [] 0 everything) e b s new.now r dead (subst (λ (u : State). IsDatabaseState u → ((area_in u).title e).state ≡ 2 → IfOk r (UnlinksRowsAt e b u new.now)) same (c.unlink_rows_at.ensures.cleans told sound) database dead)) in
          none_more e b (b + 1) s refl did.1 (c.loop-bucket.invariant.none told sound database dead);
    }

pub returns-clause-tries : goal.returns-clause-tries
returns-clause-tries g c = c.loop-bucket.invariant.tried

pub returns-clause-cleans : goal.returns-clause-cleans
returns-clause-cleans g c = λ h told sound database dead.
    let s = c.args.store.now.now in
    let e = c.args.entry in
    let same = ((c.a_part_goes_on.ensures.read true g.O.Origin.first c.args.store.now c.loop-bucket.store c.loop-bucket.invariant.tried).logs told sound).now in
    (same, none_all e c.loop-bucket.bucket s c.loop-bucket-test.false (eight s e dead) (c.loop-bucket.invariant.none told sound database dead))
