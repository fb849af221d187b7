use Rattle.std.proofs.Common.{◌≢◌, inr, ◌+◌, Bool, true, Ok, refl, subst}
use Rattle.ctr_record_effects.specs.ctr_redo.States.{State}
use Rattle.ctr_record_effects.specs.States.{area_in}
use Rattle.ctr_walk.proofs.Joins.{answers_ok}
use Rattle.ctr_walk.proofs.PagesRead.{reads_on, same_now}
use Rattle.ctr_locking.specs.Locking.{LockSaid}
use Rattle.ctr_locking.proofs.Locked.{one_more, reads_further}
use Rattle.ctr_locking.proofs.locking.is_locked.Goals as goal

pub returns-in-Err-clause-leaves : goal.returns-in-Err-clause-leaves
returns-in-Err-clause-leaves g c =
    reads_further g.O.Origin.first g.D.Disk _ Bool c.in-Err.fault c.args.store.now c.loop-other.store c.is_locked_in.new.store c.loop-other.invariant.read c.in-Err.ensures.leaves

pub returns-in-Ok-true-clause-tells : goal.returns-in-Ok-true-clause-tells
returns-in-Ok-true-clause-tells g c = λ told sound taken.
    let e = c.args.entry in
    let f = c.loop-other.other in
    let same = same_now g.O.Origin.first g.D.Disk _ c.args.store.now c.loop-other.store c.loop-other.invariant.read told sound in
    let said = subst (λ (s : State). ((area_in s).title e).state ≢ 0 → LockSaid c.args.locks.now (area_in s) e c.args.key f c.in-Ok-true.field-0) same (c.in-Ok-true.ensures.tells told sound) taken in
    (f, c.loop-other-test.true, subst (λ b. LockSaid c.args.locks.now (area_in c.args.store.now.now) e c.args.key f b) c.in-Ok-true.field-0-test said)

pub returns-in-Ok-true-clause-leaves : goal.returns-in-Ok-true-clause-leaves
returns-in-Ok-true-clause-leaves g c =
    answers_ok g.O.Origin.first g.D.Disk c.in-Ok-true.field-0 true c.args.store.now c.is_locked_in.new.store
    (reads_on g.O.Origin.first g.D.Disk _ c.args.store.now c.loop-other.store c.is_locked_in.new.store (Ok c.in-Ok-true.field-0) c.loop-other.invariant.read c.in-Ok-true.ensures.leaves)

pub loop-other-preserved : goal.loop-other-preserved
loop-other-preserved g c = record {
  read = inr (answers_ok g.O.Origin.first g.D.Disk c.in-Ok-false.field-0 tt c.args.store.now c.is_locked_in.new.store
      (reads_on g.O.Origin.first g.D.Disk _ c.args.store.now c.loop-other.store c.is_locked_in.new.store (Ok c.in-Ok-false.field-0) c.loop-other.invariant.read c.in-Ok-false.ensures.leaves));
  unlocked = λ told sound taken.
      let e = c.args.entry in
      let f = c.loop-other.other in
      let same = same_now g.O.Origin.first g.D.Disk _ c.args.store.now c.loop-other.store c.loop-other.invariant.read told sound in
      let said = subst (λ (s : State). ((area_in s).title e).state ≢ 0 → LockSaid c.args.locks.now (area_in s) e c.args.key f c.in-Ok-false.field-0) same (c.in-Ok-false.ensures.tells told sound) taken in
      one_more c.args.locks.now (area_in c.args.store.now.now) e c.args.key f (f + 1) refl (subst (λ b. LockSaid c.args.locks.now (area_in c.args.store.now.now) e c.args.key f b) c.in-Ok-false.field-0-test said)
      (c.loop-other.invariant.unlocked told sound taken);
}
