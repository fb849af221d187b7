use Rattle.std.proofs.Common.{◌⊎◌, subst, sym}
use Rattle.ctr_disk.specs.Device.{LeavesOnly}
use Rattle.ctr_record_effects.specs.Standing.{StandsForDatabase}
use Rattle.ctr_world.specs.Ended.{RefusesWith, RefusesWorld}
use Rattle.ctr_run.proofs.Promises.{refused}
use Rattle.ctr_run.proofs.running.opened.Goals as goal

pub returns-in-Err-clause-refused : goal.returns-in-Err-clause-refused
returns-in-Err-clause-refused g c = λ totals.
    let d = g.D.Disk in
    let r = c.none.result in
    let t = c.none.ensures in
    let e = c.in-Err.ensures in
    let old = c.args.disk in
    let image = c.requires.named.image in
    refused d g.met.D.Disk.earlier old c.args.script.lines totals r t.tape t.undone t.totals c.in-Err.error t.end (subst (RefusesWith d old c.in-Err.error) (sym t.disk) e.stays) (λ told. subst (λ i. RefusesWorld i c.in-Err.error) image (e.refused told))
    (λ s told stands. e.undamaged s told (subst (λ i. StandsForDatabase i s) (sym image) stands))
    (λ s told stands. subst (λ n. LeavesOnly d old n (λ i. d.images old i ⊎ StandsForDatabase i s)) (sym t.disk) (e.left s told (subst (λ i. StandsForDatabase i s) (sym image) stands)))

pub returns-in-Err-clause-none : goal.returns-in-Err-clause-none
returns-in-Err-clause-none g c = record { error = c.in-Err.error; end = c.none.ensures.end; tape = c.none.ensures.tape }
