use Rattle.std.proofs.Common.{◌≤◌, Ok, subst, arith}
use Rattle.ctr_store.specs.declared.store.Generation.{Generation}
use Rattle.ctr_store.specs.Generations.{AnswersBegin}
use Rattle.ctr_flush.specs.declared.flusher.Due.TheVariants as due
use Rattle.ctr_flush.proofs.TurnLaws.{begun_keeps}
use Rattle.ctr_flush.proofs.flusher.begin_due.Goals as goal

pub returns-in-Ok-Begun-clause-keeps : goal.returns-in-Ok-Begun-clause-keeps
returns-in-Ok-Begun-clause-keeps g c =
    let e = c.in-Ok-Begun.ensures in
    let a = c.args.store.now in
    let none = c.is_hardened.ensures.yes c.if-not-is_hardened.false in
    let room : a.room ≤ 65536 = omega (arith, c.room-room.ensures.buffer) in
    begun_keeps g.O.Origin.first g.D.Disk a c.begin_checkpoint.new.self due.Begun (subst (λ (x : Generation). AnswersBegin a c.begin_checkpoint.new.self (Ok x)) c.in-Ok-Begun.field-0-is e.begins) none room e.any_moment e.shows e.stopped.0 _ e.counts
