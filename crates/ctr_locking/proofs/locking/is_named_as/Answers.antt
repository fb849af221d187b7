use Rattle.std.proofs.Common.{Bool}
use Rattle.ctr_titles.specs.declared.reading.TitleRead.{TitleRead}
use Rattle.ctr_walk.proofs.Damages.{reads_err}
use Rattle.ctr_walk.proofs.Joins.{answers_ok, pages_join}
use Rattle.ctr_locking.proofs.Locked.{reads_on}
use Rattle.ctr_locking.proofs.locking.is_named_as.Goals as goal

pub returns-in-Err-clause-leaves : goal.returns-in-Err-clause-leaves
returns-in-Err-clause-leaves g c = reads_err g.O.Origin.first g.D.Disk TitleRead Bool c.in-Err.fault c.args.store.now c.title_at.new.store c.in-Err.ensures.leaves

pub returns-in-Err-title_at-clause-leaves : goal.returns-in-Err-title_at-clause-leaves
returns-in-Err-title_at-clause-leaves g c =
    reads_err g.O.Origin.first g.D.Disk TitleRead Bool c.in-Err-title_at.fault c.args.store.now c.title_at-2.new.store
    (reads_on g.O.Origin.first g.D.Disk TitleRead c.in-Ok.title c.in-Err-title_at.fault c.args.store.now c.title_at.new.store c.title_at-2.new.store c.in-Ok.ensures.leaves c.in-Err-title_at.ensures.leaves)

pub returns-then-eq-clause-leaves : goal.returns-then-eq-clause-leaves
returns-then-eq-clause-leaves g c =
    answers_ok g.O.Origin.first g.D.Disk c.in-Ok-title_at.title c.eq.result c.args.store.now c.title_at-2.new.store
    (pages_join g.D.Disk c.args.store.now c.title_at.new.store c.title_at-2.new.store g.O.Origin.first TitleRead TitleRead c.in-Ok.title _ c.in-Ok.ensures.leaves c.in-Ok-title_at.ensures.leaves)

pub returns-else-eq-clause-leaves : goal.returns-else-eq-clause-leaves
returns-else-eq-clause-leaves g c =
    answers_ok g.O.Origin.first g.D.Disk c.in-Ok-title_at.title c.is.result c.args.store.now c.title_at-2.new.store
    (pages_join g.D.Disk c.args.store.now c.title_at.new.store c.title_at-2.new.store g.O.Origin.first TitleRead TitleRead c.in-Ok.title _ c.in-Ok.ensures.leaves c.in-Ok-title_at.ensures.leaves)
