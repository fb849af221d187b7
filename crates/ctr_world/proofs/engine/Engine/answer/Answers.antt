use Rattle.std.proofs.Common.{refl}
use Rattle.ctr_pass.specs.exec_Sessions.{AreAnswers}
use Rattle.ctr_world.specs.Held.{running}
use Rattle.ctr_world.specs.World.{start_in}
use Rattle.ctr_world.proofs.Leading.{adds_led, ready_led, shows_led}
use Rattle.ctr_world.proofs.Nearer.{answers_nearer}
use Rattle.ctr_world.proofs.Quiet.{at_once}
use Rattle.ctr_world.proofs.engine.Engine.answer.Goals as goal

pub returns-clause-ready : goal.returns-clause-ready
returns-clause-ready g c =
    let w = running c.args.self.now in
    let ready = c.requires.ready in
    let now = g.D.Disk.moment_of w.store.disk in
    ready_led g.B.Opening g.D.Disk w w.store c.answer.new.self AreAnswers ready (at_once w.store.now.counted) (c.answer.ensures.over ready.stand) ready.going c.answer.ensures.seats (c.answer.ensures.adds now (at_once now))

pub returns-clause-shows : goal.returns-clause-shows
returns-clause-shows g c = λ s tells sound shows.
    let w = running c.args.self.now in
    shows_led g.B.Opening g.B.Origin.first g.D.Disk s w w.store c.answer.new.self shows AreAnswers
    (c.answer.ensures.told (start_in g.B.Opening s) shows.opened shows.mind tells sound c.requires.ready.going shows.shows) refl (at_once w.store.now.counted)

pub returns-clause-adds : goal.returns-clause-adds
returns-clause-adds g c =
    let w = running c.args.self.now in
    let now = g.D.Disk.moment_of w.store.disk in
    adds_led g.B.Opening g.D.Disk w w.store c.answer.new.self AreAnswers now now (c.answer.ensures.adds now (at_once now))

pub returns-clause-nearer : goal.returns-clause-nearer
returns-clause-nearer g c = answers_nearer c.args.self.now.sessions c.answer.new.self c.args.self.now.store c.answer.ensures.fewer
