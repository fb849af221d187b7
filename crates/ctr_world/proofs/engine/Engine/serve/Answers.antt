use Rattle.std.proofs.Common.{sym, subst}
use Rattle.ctr_store.specs.Store.{View}
use Rattle.ctr_pass.specs.exec_Sessions.{AreAnswers, AreOfTurn, RollsTurn, turns_left}
use Rattle.ctr_world.specs.Held.{running}
use Rattle.ctr_world.proofs.Adding.{adds_behind}
use Rattle.ctr_world.proofs.Nearer.{below}
use Rattle.ctr_world.proofs.Quiet.{disk_answered}
use Rattle.ctr_world.proofs.engine.Engine.serve.Goals as goal

pub returns-in-Ok-clause-shows : goal.returns-in-Ok-clause-shows
returns-in-Ok-clause-shows g c = λ s tells sound shows. c.answer.ensures.shows s tells sound (c.in-Ok.ensures.shows s tells sound shows)

pub returns-in-Err-clause-shows : goal.returns-in-Err-clause-shows
returns-in-Err-clause-shows g c = λ s tells sound shows. c.in-Err.ensures.shows s tells sound shows

pub returns-in-Ok-clause-adds : goal.returns-in-Ok-clause-adds
returns-in-Ok-clause-adds g c =
    adds_behind g.D.Disk (AreOfTurn c.args.s) AreAnswers (running c.args.self.now) (running c.act.new.self) (running c.answer.new.self) (λ i. (c.answer.ensures.same i).store) c.in-Ok.ensures.adds c.answer.ensures.adds

pub returns-in-Ok-clause-nearer : goal.returns-in-Ok-clause-nearer
returns-in-Ok-clause-nearer g c = (below (turns_left c.answer.new.self.sessions c.answer.new.self.store) (turns_left c.act.new.self.sessions c.act.new.self.store) (turns_left c.args.self.now.sessions c.args.self.now.store) c.answer.ensures.nearer c.in-Ok.ensures.nearer, c.answer.ensures.answered)

pub returns-in-Ok-clause-disk : goal.returns-in-Ok-clause-disk
returns-in-Ok-clause-disk g c = disk_answered g.B.Origin.first g.D.Disk c.args.self.now.store c.act.new.self.store c.answer.new.self.store _ (λ i. (c.answer.ensures.same i).store) c.in-Ok.ensures.disk

pub returns-in-Ok-clause-rolls : goal.returns-in-Ok-clause-rolls
returns-in-Ok-clause-rolls g c = λ t tells sound shows acts room back.
    let old = running c.args.self.now in
    let rolls = c.in-Ok.ensures.rolls t tells sound shows acts room back in
    (rolls.0, subst (λ (v : View g.row.D.Denot). RollsTurn c.args.s old.sessions old.store v rolls.0) (sym (λ i. (c.answer.ensures.same i).store)) rolls.1)
