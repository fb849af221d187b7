use Rattle.ctr_pass.proofs.session_world_Disks.{disk_page}
use Rattle.ctr_world.specs.Held.{running}
use Rattle.ctr_world.proofs.Quiet.{ready_or, shows_or}
use Rattle.ctr_world.proofs.engine.Engine.settle.Goals as goal

pub returns-clause-ready : goal.returns-clause-ready
returns-clause-ready g c =
    let f = c.flush.ensures in
    ready_or g.B.Opening g.B.Origin.first g.D.Disk (running c.args.self.now) c.flush.new.store c.flush.result f.keeps f.leaves.going f.leaves.time.later c.requires.ready

pub returns-clause-shows : goal.returns-clause-shows
returns-clause-shows g c = λ s tells sound shows.
    let f = c.flush.ensures in
    shows_or g.B.Opening g.B.Origin.first g.D.Disk (running c.args.self.now) c.flush.new.store c.flush.result s f.leaves (λ run opened h w world. f.kept run opened h w tells sound world) f.refused tells sound shows

pub returns-clause-disk : goal.returns-clause-disk
returns-clause-disk g c = disk_page g.B.Origin.first g.D.Disk c.args.self.now.store c.flush.new.store c.flush.result c.flush.ensures.leaves
