use Rattle.ctr_pass.proofs.session_world_Disks.{disk_done}
use Rattle.ctr_pass.specs.exec_Sessions.{AreAnswers}
use Rattle.ctr_world.specs.Held.{running}
use Rattle.ctr_world.proofs.Adding.{adds_answers}
use Rattle.ctr_world.proofs.Quiet.{disk_answered}
use Rattle.ctr_world.proofs.engine.Engine.write_behind.Goals as goal

pub returns-in-Ok-Wrote-clause-shows : goal.returns-in-Ok-Wrote-clause-shows
returns-in-Ok-Wrote-clause-shows g c = λ s tells sound shows. c.answer.ensures.shows s tells sound (c.in-Ok-Wrote.ensures.shows s tells sound shows)

pub returns-in-Ok-Wrote-clause-adds : goal.returns-in-Ok-Wrote-clause-adds
returns-in-Ok-Wrote-clause-adds g c =
    adds_answers g.D.Disk AreAnswers (running c.args.self.now) (running c.flush.new.self) (running c.answer.new.self) (λ i. (c.answer.ensures.same i).store) (λ i. (c.in-Ok-Wrote.ensures.same i).sessions.tape.items) (λ i. (c.in-Ok-Wrote.ensures.same i).sessions.script) c.answer.ensures.adds

pub returns-in-Ok-Wrote-clause-disk : goal.returns-in-Ok-Wrote-clause-disk
returns-in-Ok-Wrote-clause-disk g c =
    disk_answered g.B.Origin.first g.D.Disk c.args.self.now.store c.flush.new.self.store c.answer.new.self.store _ (λ i. (c.answer.ensures.same i).store) (disk_done g.B.Origin.first g.D.Disk _ _ _ _ c.in-Ok-Wrote.ensures.disk)
