use Rattle.std.proofs.Common.{◌⊎◌, sym, ◌∙◌, subst}
use Rattle.ctr_disk.specs.Device.{LeavesOnly}
use Rattle.ctr_record_effects.specs.Standing.{IsDatabaseState, StandsForDatabase}
use Rattle.ctr_undo.proofs.stops_Opened.{now_is}
use Rattle.ctr_world.proofs.Keeping.{sound_of}
use Rattle.ctr_world.proofs.Refused.{front_of, opening_leaves, reading_leaves, told_as, told_behind}
use Rattle.ctr_world.proofs.Roomy.{begun_roomy, front_roomy, opens_roomy, roomy}
use Rattle.ctr_world.proofs.Started.{kept_begun, stands_on}
use Rattle.ctr_world.proofs.world.World.open.Goals as goal

pub invariant_of-result : goal.invariant_of-result
invariant_of-result g c =
    let first = g.B.Origin.first in
    let v = c.in-Ok.store in
    let b = c.begin.new.store in
    let opened = c.in-Ok.ensures in
    let e = c.in-Ok-begin.ensures in
    let m = e.leaves.meta in
    let tables = e.leaves.tables in
    let reads = e.leaves.reads in
    kept_begun g.B.Opening first g.D.Disk c.args.disk c.args.script c.requires.named c.requires.runs (roomy v m tables) b c.in-Ok-begin.begun (begun_roomy v m tables c.args.script c.in-Ok-begin.begun e.begun) reads e.leaves.room opened.counts.later
    g.met.D.Disk.earlier c.a_world_begins.ensures c.a_script_begins_in_a_world.ensures c.room_for_the_cleaner_leaves_the_sessions.ensures.shows c.a_pass_begins.ensures c.pages_that_are_read_keep_a_world.ensures
    (λ s tells sound. record {
      opens = opens_roomy v m tables first (opened.answer tells);
      any_moment = opened.any_moment tells sound;
      durable = front_roomy v m tables g.D.Disk (opened.durable tells sound);
      rests = c.rests.ensures tells sound reads.going;
      all = e.whole tells sound;
    })
    (reads.faults.fine (λ is. absurd cc) ∙ opened.counts.faults.fine (λ is. absurd cc))

pub returns-in-Err-begin-clause-undamaged : goal.returns-in-Err-begin-clause-undamaged
returns-in-Err-begin-clause-undamaged g c = λ s tells stands.
    let v = c.in-Ok.store in
    c.in-Err-begin.ensures.undamaged tells (sound_of g.B.Origin.first s stands)
    (subst IsDatabaseState (sym (now_is g.D.Disk g.met.D.Disk.earlier g.B.Origin.first s c.args.disk v stands (c.in-Ok.ensures.answer tells))) stands.sound)

pub returns-in-Ok-begin-clause-stands : goal.returns-in-Ok-begin-clause-stands
returns-in-Ok-begin-clause-stands g c = λ tells sound.
    let e = c.in-Ok-begin.ensures in
    let v = c.in-Ok.store in
    let m = e.leaves.meta in
    let tables = e.leaves.tables in
    stands_on g.B.Opening g.B.Origin.first g.D.Disk c.args.disk c.args.script c.requires.named c.requires.runs (roomy v m tables) c.begin.new.store c.in-Ok-begin.begun (begun_roomy v m tables c.args.script c.in-Ok-begin.begun e.begun)
    e.leaves.reads e.leaves.room c.in-Ok.ensures.counts.later tells sound (opens_roomy v m tables g.B.Origin.first (c.in-Ok.ensures.answer tells))

-- ---- what is told of the image

pub returns-in-Ok-begin-clause-passes : goal.returns-in-Ok-begin-clause-passes
returns-in-Ok-begin-clause-passes g c = λ tells.
    let opens = c.in-Ok.ensures.answer tells in
    record { root = opens.root; stands = opens.stands; log = opens.passes; pages = opens.pages; fresh = opens.fresh }

pub returns-in-Err-clause-refused : goal.returns-in-Err-clause-refused
returns-in-Err-clause-refused g c = λ tells. told_as g.B.Origin.first c.in-Err.refused.0 (c.in-Err.ensures.answer tells)

pub returns-in-Err-begin-clause-refused : goal.returns-in-Err-begin-clause-refused
returns-in-Err-begin-clause-refused g c = λ tells.
    let opens = c.in-Ok.ensures.answer tells in
    told_behind g.B.Origin.first c.in-Err-begin.error (record { root = opens.root; stands = opens.stands; log = opens.passes; pages = opens.pages; fresh = opens.fresh }) c.in-Err-begin.ensures.reading
    (λ s stands. c.in-Err-begin.ensures.undamaged tells (sound_of g.B.Origin.first s stands)
    (subst IsDatabaseState (sym (now_is g.D.Disk g.met.D.Disk.earlier g.B.Origin.first s c.args.disk c.in-Ok.store stands opens)) stands.sound))

-- ---- what a crash leaves of an opening that was refused

pub returns-in-Err-clause-left : goal.returns-in-Err-clause-left
returns-in-Err-clause-left g c = λ s tells stands.
    let first = g.B.Origin.first in
    opening_leaves g.D.Disk first c.args.disk s stands c.in-Err.refused.1 (c.in-Err.ensures.any_moment tells (sound_of first s stands))

pub returns-in-Err-begin-clause-left : goal.returns-in-Err-begin-clause-left
returns-in-Err-begin-clause-left g c = λ s tells stands.
    let d = g.D.Disk in
    let first = g.B.Origin.first in
    let v = c.in-Ok.store in
    let b = c.begin.new.store in
    let opened = c.in-Ok.ensures in
    let sound = sound_of first s stands in
    let leaves = c.in-Err-begin.ensures.leaves in
    let u = roomy v leaves.meta leaves.tables in
    subst (λ x. LeavesOnly d c.args.disk x (λ i. d.images c.args.disk i ⊎ StandsForDatabase i s)) (sym c.into_disk.ensures)
    (reading_leaves d first c.args.disk s stands u b (opens_roomy v leaves.meta leaves.tables first (opened.answer tells)) (opened.any_moment tells sound) (front_of first d u b _ tells sound leaves.reads))
