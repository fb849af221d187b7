use Rattle.ctr_pass.proofs.session_world_Disks.{disk_done, disk_failed}
use Rattle.ctr_pass.specs.exec_Sessions.{AreOfTurn}
use Rattle.ctr_world.specs.Held.{running}
use Rattle.ctr_world.specs.World.{start_in}
use Rattle.ctr_world.proofs.Leading.{adds_led, names_led, ready_led, shows_led}
use Rattle.ctr_world.proofs.engine.Engine.act.Goals as goal

pub returns-in-Ok-clause-ready : goal.returns-in-Ok-clause-ready
returns-in-Ok-clause-ready g c =
    let w = running c.args.self.now in
    let leaves = c.in-Ok.ensures.leaves in
    ready_led g.B.Opening g.D.Disk w c.turn.new.store c.turn.new.self (AreOfTurn c.args.s) c.requires.ready leaves.counted leaves.stand leaves.going leaves.seats c.in-Ok.ensures.adds

pub returns-in-Ok-clause-shows : goal.returns-in-Ok-clause-shows
returns-in-Ok-clause-shows g c = λ s tells sound shows.
    let w = running c.args.self.now in
    let goes = (c.in-Ok.ensures.told (start_in g.B.Opening s) shows.opened shows.mind tells sound shows.shows).0 in
    shows_led g.B.Opening g.B.Origin.first g.D.Disk s w c.turn.new.store c.turn.new.self shows (AreOfTurn c.args.s) goes
    (names_led g.B.Opening g.B.Origin.first g.D.Disk s w c.turn.new.store shows c.a_turn_of_undo_is_kept.ensures.may c.names_of_what_is_left_stay.ensures.named goes.names) c.in-Ok.ensures.leaves.counted

pub returns-clause-shows : goal.returns-clause-shows
returns-clause-shows g c = λ s tells sound shows. c.in-Err.ensures.told (start_in g.B.Opening s) shows.opened shows.mind tells sound shows.shows

pub returns-in-Ok-clause-adds : goal.returns-in-Ok-clause-adds
returns-in-Ok-clause-adds g c =
    let w = running c.args.self.now in
    adds_led g.B.Opening g.D.Disk w c.turn.new.store c.turn.new.self (AreOfTurn c.args.s) (g.D.Disk.moment_of w.store.disk) (g.D.Disk.moment_of c.turn.new.store.disk) c.in-Ok.ensures.adds

pub returns-in-Ok-clause-disk : goal.returns-in-Ok-clause-disk
returns-in-Ok-clause-disk g c = disk_done g.B.Origin.first g.D.Disk c.args.self.now.store c.turn.new.store _ tt c.in-Ok.ensures.disk

pub returns-clause-disk : goal.returns-clause-disk
returns-clause-disk g c = disk_failed g.B.Origin.first g.D.Disk c.args.self.now.store c.turn.new.store c.in-Err.fault c.in-Err.ensures.disk

pub returns-in-Ok-clause-rolls : goal.returns-in-Ok-clause-rolls
returns-in-Ok-clause-rolls g c = λ t tells sound shows acts room back.
    let told = c.in-Ok.ensures.told (start_in g.B.Opening t) shows.opened shows.mind tells sound shows.shows in
    (told.0.entries, told.1.rolls acts room back)
