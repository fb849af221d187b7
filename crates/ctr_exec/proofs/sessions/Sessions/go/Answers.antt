use Rattle.std.proofs.Common.{sym, ◌∙◌}
use Rattle.std.proofs.lemmas.Bool.{false≢true}
use Rattle.ctr_control.proofs.ctr_session_world.Disks.{disk_page}
use Rattle.ctr_exec.specs.Sessions.{sessions_held_by}
use Rattle.ctr_exec.proofs.Fewer.{rooms_fall, waited_falls}
use Rattle.ctr_exec.proofs.Going.{act_takes, flush_takes, pages_behind, room_takes}
use Rattle.ctr_exec.proofs.Ordered.{adds_alone}
use Rattle.ctr_exec.proofs.sessions.Sessions.go.Goals as goal

pub returns-then-waits-clause-told : goal.returns-then-waits-clause-told
returns-then-waits-clause-told g c = λ run opened w tells sound before.
    flush_takes g.D.Disk run opened c.args.store.now c.flush.new.store c.args.self.now c.flush.new.self w c.args.s before (c.waits.ensures.yes c.if-waits.true) c.flush.result c.flush.ensures.all (c.flush.ensures.told run opened w tells sound before)

pub returns-then-room-clause-told : goal.returns-then-room-clause-told
returns-then-room-clause-told g c = λ run opened w tells sound before.
    act_takes g.D.Disk run opened c.args.store.now c.act.new.store c.args.self.now c.act.new.self w c.args.s before (c.waits.ensures.no c.if-waits.false) (c.room.ensures.told.0 c.if-room.true) c.act.result (c.act.ensures.told run opened w tells sound before)

pub returns-clause-told : goal.returns-clause-told
returns-clause-told g c = λ run opened w tells sound before.
    room_takes g.D.Disk run opened c.args.store.now c.make_room.new.store c.args.self.now w c.args.s before (c.waits.ensures.no c.if-waits.false) (λ room. false≢true (sym c.if-room.false ∙ c.room.ensures.told.1 room)) c.make_room.result
    (pages_behind g.O.Origin.first g.D.Disk c.args.store.now c.make_room.new.store c.make_room.result c.make_room.ensures.leaves tells sound) (c.make_room.ensures.kept run opened (sessions_held_by c.args.self.now) w tells sound before.world) c.make_room.ensures.nearer (c.make_room.ensures.refused tells sound)

pub returns-clause-adds : goal.returns-clause-adds
returns-clause-adds g c = adds_alone c.args.s (g.D.Disk.moment_of c.args.store.now.disk) (g.D.Disk.moment_of c.make_room.new.store.disk) c.args.self.now c.make_room.result c.make_room.ensures.leaves.time.later

pub returns-then-waits-clause-fewer : goal.returns-then-waits-clause-fewer
returns-then-waits-clause-fewer g c = waited_falls c.args.self.now c.flush.new.self c.args.store.now c.flush.new.store c.args.s c.flush.result c.flush.ensures.fewer (c.waits.ensures.yes c.if-waits.true)

pub returns-clause-fewer : goal.returns-clause-fewer
returns-clause-fewer g c =
    rooms_fall c.args.self.now c.args.store.now c.make_room.new.store c.make_room.result c.make_room.ensures.keeps (λ room. false≢true (sym c.if-room.false ∙ c.room.ensures.told.1 room)) c.make_room.ensures.nearer

pub returns-clause-disk : goal.returns-clause-disk
returns-clause-disk g c = disk_page g.O.Origin.first g.D.Disk _ _ c.make_room.result c.make_room.ensures.leaves
