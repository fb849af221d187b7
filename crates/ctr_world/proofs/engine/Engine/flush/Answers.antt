use Rattle.ctr_world.specs.Held.{running}
use Rattle.ctr_world.proofs.Quiet.{disk_flushed, ready_flushed, shows_flushed}
use Rattle.ctr_world.proofs.engine.Engine.flush.Goals as goal

pub returns-clause-ready : goal.returns-clause-ready
returns-clause-ready g c =
    ready_flushed g.B.Opening g.B.Origin.first g.D.Disk (running c.args.self.now) c.write_next.new.store c.write_next.result c.write_next.ensures.leaves c.requires.ready

pub returns-clause-shows : goal.returns-clause-shows
returns-clause-shows g c = λ s tells sound shows.
    let f = c.write_next.ensures in
    shows_flushed g.B.Opening g.B.Origin.first g.D.Disk (running c.args.self.now) c.write_next.new.store c.write_next.result s f.leaves (λ run opened h w world. f.kept run opened h w tells sound world) tells sound shows

pub returns-clause-disk : goal.returns-clause-disk
returns-clause-disk g c = disk_flushed g.B.Origin.first g.D.Disk c.args.self.now.store c.write_next.new.store c.write_next.result c.write_next.ensures.leaves c.write_next.ensures.ends
