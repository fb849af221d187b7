use Rattle.ctr_home.proofs.disk_Moments.{settled_by}
use Rattle.ctr_log.proofs.GenerationLemmas.{both_leave}
use Rattle.ctr_log.proofs.log.LogFile.start_generation.Goals as goal

pub returns-in-Ok-clause-any_moment : goal.returns-in-Ok-clause-any_moment
returns-in-Ok-clause-any_moment g c named oldest settled writes =
    let d = g.D.Disk in
    let old = c.args.disk.now in
    let mid = c.flush_before.new.disk in
    let next = c.flush_before.new.self in
    let flushed = c.in-Ok.ensures in
    let goes = flushed.kept named oldest settled.told writes in
    both_leave named oldest c.args.self.now (d.reads old) writes c.args.first.now d old mid c.begin_generation.new.disk (d.reads mid) next goes flushed.emptied.file (flushed.any_moment named oldest settled writes)
    (c.begin_generation.ensures.any_moment named oldest (settled_by d mid settled.told (flushed.durable settled.only)) goes.writes)
