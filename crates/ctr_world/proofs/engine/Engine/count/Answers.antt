use Rattle.ctr_pass.proofs.session_world_Disks.{disk_read}
use Rattle.ctr_world.specs.Held.{running}
use Rattle.ctr_world.specs.World.{start_in}
use Rattle.ctr_world.proofs.Counting.{none_waits, ready_counted, shows_counted, totals_asked}
use Rattle.ctr_world.proofs.engine.Engine.count.Goals as goal

pub returns-clause-ready : goal.returns-clause-ready
returns-clause-ready g c = ready_counted g.B.Opening g.B.Origin.first g.D.Disk (running c.args.self.now) c.count_loaded.new.store c.count_loaded.result c.count_loaded.ensures.leaves c.requires.ready

pub returns-clause-shows : goal.returns-clause-shows
returns-clause-shows g c = λ s tells sound shows.
    shows_counted g.B.Opening g.B.Origin.first g.D.Disk (running c.args.self.now) c.count_loaded.new.store c.count_loaded.result s c.count_loaded.ensures.leaves (λ run opened h w world. c.count_loaded.ensures.kept run opened h w tells sound world) tells sound shows

pub returns-clause-counts : goal.returns-clause-counts
returns-clause-counts g c = λ s tells sound shows.
    totals_asked g.B.Opening g.B.Origin.first g.D.Disk s (running c.args.self.now) shows c.count_loaded.result
    (c.count_loaded.ensures.counts (start_in g.B.Opening s) shows.opened shows.mind tells sound shows.shows.world.keeps)

pub returns-clause-none : goal.returns-clause-none
returns-clause-none g c = λ tells sound none. none_waits g.B.Origin.first g.D.Disk c.args.self.now.store c.count_loaded.new.store c.count_loaded.result c.count_loaded.ensures.leaves tells sound none

pub returns-clause-disk : goal.returns-clause-disk
returns-clause-disk g c = disk_read g.B.Origin.first g.D.Disk c.args.self.now.store c.count_loaded.new.store c.count_loaded.result c.count_loaded.ensures.leaves
