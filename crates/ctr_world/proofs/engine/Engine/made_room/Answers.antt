use Rattle.std.specs.Prelude.{⊤, Ok, Err}
use Rattle.ctr_pass.specs.exec_Sessions.{turns_left}
use Rattle.ctr_pass.proofs.exec_Fewer.{rooms_fall}
use Rattle.ctr_pass.proofs.session_world_Disks.{disk_page}
use Rattle.ctr_world.specs.Held.{running}
use Rattle.ctr_world.proofs.Nearer.{below}
use Rattle.ctr_world.proofs.Quiet.{disk_answered, world_behind}
use Rattle.ctr_world.proofs.engine.Engine.made_room.Goals as goal

pub returns-in-Ok-clause-shows : goal.returns-in-Ok-clause-shows
returns-in-Ok-clause-shows g c = λ s tells sound shows.
    let f = c.in-Ok.ensures in
    c.answer.ensures.shows s tells sound
    (world_behind g.B.Opening g.B.Origin.first g.D.Disk (running c.args.self.now) c.make_room.new.store s (f.leaves.logs tells sound).now (λ run opened h w world. f.kept run opened h w tells sound world) shows)

pub returns-in-Ok-clause-fewer : goal.returns-in-Ok-clause-fewer
returns-in-Ok-clause-fewer g c =
    let h = c.args.self.now.sessions in
    let a = c.args.self.now.store in
    let b = c.make_room.new.store in
    below (turns_left c.answer.new.self.sessions c.answer.new.self.store) (turns_left h b) (turns_left h a) c.answer.ensures.nearer
    (rooms_fall {T = ⊤} h a b (Ok tt) c.in-Ok.ensures.keeps c.requires.short c.in-Ok.ensures.nearer)

pub returns-in-Ok-clause-disk : goal.returns-in-Ok-clause-disk
returns-in-Ok-clause-disk g c =
    let a = c.args.self.now.store in
    let b = c.make_room.new.store in
    disk_answered {T = ⊤} g.B.Origin.first g.D.Disk a b c.answer.new.self.store (Ok tt) (λ i. (c.answer.ensures.same i).store) (disk_page g.B.Origin.first g.D.Disk {T = ⊤} a b (Ok tt) c.in-Ok.ensures.leaves)

pub returns-in-Err-clause-disk : goal.returns-in-Err-clause-disk
returns-in-Err-clause-disk g c = disk_page g.B.Origin.first g.D.Disk c.args.self.now.store c.make_room.new.store (Err c.in-Err.fault) c.in-Err.ensures.leaves
