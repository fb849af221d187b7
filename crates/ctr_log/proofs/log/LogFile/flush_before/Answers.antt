use Rattle.ctr_log.proofs.GenerationLemmas.{flush_leaves}
use Rattle.ctr_log.proofs.log.LogFile.flush_before.Goals as goal

pub returns-clause-any_moment : goal.returns-clause-any_moment
returns-clause-any_moment g c named oldest settled writes =
    let d = g.D.Disk in
    let old = c.args.disk.now in
    flush_leaves named oldest c.args.self.now (d.reads old) writes c.args._first.now d old c.flush.new.disk (c.flush.ensures.kept_any_moment named oldest settled writes)
