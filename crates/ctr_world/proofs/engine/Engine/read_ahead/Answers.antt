use Rattle.std.proofs.Common.{◌≡◌, sym, ◌∙◌, ap}
use Rattle.std.proofs.lemmas.Bool.{eqb-true}
use Rattle.ctr_pass.proofs.session_world_Disks.{disk_failed, disk_read}
use Rattle.ctr_pass.proofs.walk_Joins.{answers_ok}
use Rattle.ctr_world.specs.Held.{running}
use Rattle.ctr_world.proofs.Reading.{pass_reading, ready_reading, shows_reading}
use Rattle.ctr_world.proofs.engine.Engine.read_ahead.Goals as goal

pub returns-in-Ok-clause-ready : goal.returns-in-Ok-clause-ready
returns-in-Ok-clause-ready g c = ready_reading g.B.Opening g.B.Origin.first g.D.Disk (running c.args.self.now) c.read_for-read.new.store c.read_behind-self.result c.in-Ok.more c.in-Ok.ensures.leaves c.requires.ready

pub returns-in-Ok-clause-kept : goal.returns-in-Ok-clause-kept
returns-in-Ok-clause-kept g c = λ s tells sound shows keeps.
    let w = running c.args.self.now in
    let b = c.read_for-read.new.store in
    let read = c.in-Ok.ensures.leaves in (
      shows_reading g.B.Opening g.B.Origin.first g.D.Disk w b c.read_behind-self.result c.in-Ok.more s c.pages_that_are_read_keep_a_world.ensures read (c.rests.ensures tells sound) tells sound shows,
      pass_reading g.B.Opening g.B.Origin.first g.D.Disk w b c.read_behind-self.result s (read.logs tells sound).now read.keeps.next keeps,
    )

pub returns-in-Err-clause-kept : goal.returns-in-Err-clause-kept
returns-in-Err-clause-kept g c = λ s tells sound shows keeps.
    let w = running c.args.self.now in
    c.in-Err.ensures.refused tells sound shows.shows.world.keeps.pages.sound (λ stayed. keeps.stands (eqb-true w.pass.next c.next.result stayed ∙ c.next.ensures))

pub returns-in-Ok-clause-page : goal.returns-in-Ok-clause-page
returns-in-Ok-clause-page g c = answers_ok g.B.Origin.first g.D.Disk c.in-Ok.more tt c.args.self.now.store c.read_for-read.new.store c.in-Ok.ensures.leaves

pub returns-in-Ok-clause-disk : goal.returns-in-Ok-clause-disk
returns-in-Ok-clause-disk g c = disk_read g.B.Origin.first g.D.Disk c.args.self.now.store c.read_for-read.new.store _ c.in-Ok.ensures.leaves

pub returns-in-Err-clause-disk : goal.returns-in-Err-clause-disk
returns-in-Err-clause-disk g c = disk_read g.B.Origin.first g.D.Disk c.args.self.now.store c.read_for-read.new.store _ c.in-Err.ensures.leaves
