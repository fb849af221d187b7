use Rattle.ctr_control.proofs.ctr_session_world.Disks.{disk_page}
use Rattle.ctr_exec.specs.Sessions.{sessions_held_by}
use Rattle.ctr_exec.proofs.Fewer.{flush_falls}
use Rattle.ctr_exec.proofs.Going.{goes_answered, shows_behind}
use Rattle.ctr_exec.proofs.Ordered.{adds_answers}
use Rattle.ctr_exec.proofs.sessions.Sessions.flush.Goals as goal

pub returns-in-Ok-clause-told : goal.returns-in-Ok-clause-told
returns-in-Ok-clause-told g c = λ run opened w tells sound before.
    let h = c.args.self.now in
    let a = c.args.store.now in
    let b = c.flush.new.store in
    let world = c.in-Ok.ensures.kept run opened (sessions_held_by h) w tells sound before.world in
    goes_answered g.D.Disk run opened a b h c.answer.new.self w c.args.s before (c.in-Ok.ensures.leaves.logs tells sound).now world
    (c.answer.ensures.told run opened w tells sound c.in-Ok.ensures.leaves.going (shows_behind g.D.Disk run opened a b h w before world))

pub returns-in-Ok-clause-all : goal.returns-in-Ok-clause-all
returns-in-Ok-clause-all g c = (c.in-Ok.ensures.none, c.answer.ensures.all c.in-Ok.ensures.none)

pub returns-in-Ok-clause-adds : goal.returns-in-Ok-clause-adds
returns-in-Ok-clause-adds g c =
    let before = g.D.Disk.moment_of c.args.store.now.disk in
    adds_answers c.args.s before (g.D.Disk.moment_of c.flush.new.store.disk) c.args.self.now c.answer.new.self (c.answer.ensures.adds before c.flush.ensures.leaves.time.later)

pub returns-in-Ok-clause-fewer : goal.returns-in-Ok-clause-fewer
returns-in-Ok-clause-fewer g c = λ waits.
    flush_falls c.args.self.now c.answer.new.self c.args.store.now c.flush.new.store c.flush.new.store.now.counted c.answer.ensures.seats c.numbers_commits.ensures (c.answer.ensures.all c.in-Ok.ensures.none) c.answer.ensures.fewer c.args.s c.requires.go.one waits

pub returns-in-Ok-clause-disk : goal.returns-in-Ok-clause-disk
returns-in-Ok-clause-disk g c = disk_page g.O.Origin.first g.D.Disk _ _ _ c.in-Ok.ensures.leaves

pub returns-in-Err-clause-disk : goal.returns-in-Err-clause-disk
returns-in-Err-clause-disk g c = disk_page g.O.Origin.first g.D.Disk _ _ _ c.in-Err.ensures.leaves
