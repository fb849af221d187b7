use Rattle.ctr_flush.proofs.TurnLaws.{ended_keeps}
use Rattle.ctr_flush.proofs.flusher.drop_older.Goals as goal

pub returns-clause-keeps : goal.returns-clause-keeps
returns-clause-keeps g c =
    let e = c.end_checkpoint.ensures in
    ended_keeps g.O.Origin.first g.D.Disk c.args.store.now c.end_checkpoint.new.self c.end_checkpoint.result e.ends e.any_moment e.shows e.stopped.0 e.counts
