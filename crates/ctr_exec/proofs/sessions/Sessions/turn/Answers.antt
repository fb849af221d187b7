use Rattle.std.proofs.Common.{refl}
use Rattle.ctr_control.proofs.ctr_session_world.Disks.{disk_done, disk_failed, disk_still}
use Rattle.ctr_exec.proofs.Fewer.{over_goes}
use Rattle.ctr_exec.proofs.Going.{over_takes}
use Rattle.ctr_exec.proofs.Ordered.{adds_none, at_once}
use Rattle.ctr_exec.proofs.Seats.{runner_here}
use Rattle.ctr_exec.proofs.sessions.Sessions.turn.Goals as goal

pub returns-then-not-has_more-clause-told : goal.returns-then-not-has_more-clause-told
returns-then-not-has_more-clause-told g c = λ run opened w tells sound before.
    let h = c.args.self.now in
    let s = c.args.s in
    let go = c.requires.go in
    over_takes g.D.Disk run opened c.args.store.now h w s before (c.has_more.ensures.no c.if-not-has_more.true) (runner_here h c.args.store.now.now.counted go.seats s go.one).within

pub returns-in-Ok-clause-told : goal.returns-in-Ok-clause-told
returns-in-Ok-clause-told g c = λ run opened w tells sound before. c.in-Ok.ensures.told run opened w tells sound before

pub returns-in-Err-clause-told : goal.returns-in-Err-clause-told
returns-in-Err-clause-told g c = λ run opened w tells sound before. c.in-Err.ensures.told run opened w tells sound before

pub returns-then-not-has_more-clause-adds : goal.returns-then-not-has_more-clause-adds
returns-then-not-has_more-clause-adds g c = let now = g.D.Disk.moment_of c.args.store.now.disk in adds_none c.args.s now now c.args.self.now (at_once now)

pub returns-then-not-has_more-clause-fewer : goal.returns-then-not-has_more-clause-fewer
returns-then-not-has_more-clause-fewer g c = λ is. absurd (over_goes is)

pub returns-in-Ok-clause-fewer : goal.returns-in-Ok-clause-fewer
returns-in-Ok-clause-fewer g c = λ is. c.in-Ok.ensures.fewer

pub returns-then-not-has_more-clause-disk : goal.returns-then-not-has_more-clause-disk
returns-then-not-has_more-clause-disk g c = disk_still g.O.Origin.first g.D.Disk _ _ _ refl (λ tells sound. c.rests.ensures tells sound c.requires.go.going)

pub returns-in-Ok-clause-disk : goal.returns-in-Ok-clause-disk
returns-in-Ok-clause-disk g c = disk_done g.O.Origin.first g.D.Disk _ _ tt _ c.in-Ok.ensures.disk

pub returns-in-Err-clause-disk : goal.returns-in-Err-clause-disk
returns-in-Err-clause-disk g c = disk_failed g.O.Origin.first g.D.Disk _ _ c.in-Err.fault c.in-Err.ensures.disk
