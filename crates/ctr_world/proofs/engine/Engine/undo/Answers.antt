use Rattle.ctr_pass.specs.exec_Sessions.{AreAnswers}
use Rattle.ctr_world.specs.Held.{running}
use Rattle.ctr_world.specs.Turns.{AreReleases}
use Rattle.ctr_world.proofs.Adding.{adds_behind}
use Rattle.ctr_world.proofs.Nearer.{undone_nearer}
use Rattle.ctr_world.proofs.Quiet.{disk_answered}
use Rattle.ctr_world.proofs.engine.Engine.undo.Goals as goal

pub returns-in-Ok-clause-shows : goal.returns-in-Ok-clause-shows
returns-in-Ok-clause-shows g c = λ s tells sound shows. c.answer.ensures.shows s tells sound (c.in-Ok.ensures.shows s tells sound shows)

pub returns-in-Err-clause-shows : goal.returns-in-Err-clause-shows
returns-in-Err-clause-shows g c = λ s tells sound shows. c.in-Err.ensures.shows s tells sound shows

pub returns-in-Ok-clause-adds : goal.returns-in-Ok-clause-adds
returns-in-Ok-clause-adds g c =
    adds_behind g.D.Disk AreReleases AreAnswers (running c.args.self.now) (running c.undo_next.new.self) (running c.answer.new.self) (λ i. (c.answer.ensures.same i).store) c.in-Ok.ensures.adds c.answer.ensures.adds

pub returns-in-Ok-clause-nearer : goal.returns-in-Ok-clause-nearer
returns-in-Ok-clause-nearer g c =
    undone_nearer (running c.args.self.now) (running c.undo_next.new.self) (running c.answer.new.self) c.in-Ok.ensures.one (λ i. (c.answer.ensures.same i).undo) c.in-Ok.ensures.fewer c.answer.ensures.nearer c.answer.ensures.answered

pub returns-in-Ok-clause-disk : goal.returns-in-Ok-clause-disk
returns-in-Ok-clause-disk g c = disk_answered g.B.Origin.first g.D.Disk c.args.self.now.store c.undo_next.new.self.store c.answer.new.self.store _ (λ i. (c.answer.ensures.same i).store) c.in-Ok.ensures.disk
